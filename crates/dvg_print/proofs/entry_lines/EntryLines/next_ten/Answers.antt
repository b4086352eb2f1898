use Rattle.std.proofs.Common.{◌≡◌, ◌+◌, ◌%◌, ◌^◌, ◌<◌, ◌≤◌, [], ◌∷◌, ◌++◌, take, ap, ◌∙◌, sym, refl, arith, rules}
use Rattle.dvg_print.proofs.Counting.{last_digit, nine_at_end}
use Rattle.dvg_print.proofs.entry_lines.EntryLines.next_ten.Goals as goal

pub invariant_of-self : goal.invariant_of-self
invariant_of-self c =
    let old = c.self.inside in
    let nine : old.next % 10 ≡ 9 = search rules in
    let zero : 48 ≡ 48 + (old.next + 1) % 10 = omega (arith, nine) in (
      c.tens_of.ensures.few,
      ap (λ d. take c.tens_of.result.1 c.tens_of.result.0 ++ d ∷ []) zero ∙ c.tens_of.ensures.digits,
    )

pub invariant_of-self-else-not-add_one : goal.invariant_of-self-else-not-add_one
invariant_of-self-else-not-add_one c =
    let old = c.self.inside in
    let nine : old.next % 10 ≡ 9 = search rules in
    let small : old.next + 1 < 2 ^ 64 = search rules in
    let front = take old.count old.tens in
    let last = last_digit old.next old.ones front (omega (arith, small)) (sym c.self.invariant.1) in
    let high : 57 ≤ old.ones = omega (arith, last, nine) in
    let split = nine_at_end old.next old.ones front small c.self.invariant.1 high in
    (c.self.invariant.0, c.if-not-add_one.ensures refl old.next small split.1)
