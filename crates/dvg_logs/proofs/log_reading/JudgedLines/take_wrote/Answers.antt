use Rattle.std.proofs.Common.{◌≡◌, ◌-◌, ◌++◌, ◌∙◌, ℕ, Option, None, Some, ap, arith, codes, drop, false, get_or, length}
use Rattle.std.proofs.Common.{refl, rules, subst, sym, take, true≢false}
use Rattle.std.specs.Prelude.{is_some}
use Rattle.dvg_logs.specs.LogReading.{HeadLine}
use Rattle.dvg_logs.proofs.LogRows.{wrote_line}
use Rattle.dvg_logs.proofs.NumberLines.{firsts, head_of, line_taken, wrote_head}
use Rattle.dvg_logs.proofs.log_reading.JudgedLines.take_wrote.Goals as goal

none_given : (base : Option ℕ) → is_some base ≡ false → base ≡ None
none_given None is = refl
none_given (Some base) is = absurd (true≢false is)

pub returns-then-take_logged-clause-taken : goal.returns-then-take_logged-clause-taken
returns-then-take_logged-clause-taken g c =
    let text = c.args.text.now in
    let none = none_given c.args.self.now.base (sym c.is_some.ensures ∙ c.if-is_some.false) in
    let letter : get_or text 0 0 ≡ 101 = search rules in
    let space : get_or text 1 0 ≡ 32 = search rules in
    let numbers = take (length text - 2) (drop 2 text) in
    let is : firsts 0 2 text ≡ codes "e " = rw (letter, space) refl in
    let named : text ≡ codes "e " ++ numbers = head_of text 2 c.in-101.len_at_least ∙ ap (λ front. front ++ numbers) is in
    let line = wrote_line c.in_ok-address.address c.in_ok-address.byte in
    let head = wrote_head c.in_ok-address.ensures (omega (arith, c.if-address-lt-RAM_BYTES.true)) in
    line_taken (subst (λ text. HeadLine (λ base. base ≡ None) line (codes "wrot" ++ text) c.in_ok-address.rest.now) (sym named) head)
    (λ base is. sym is ∙ none) (c.take_logged.ensures.taken c.if-take_logged.true)
