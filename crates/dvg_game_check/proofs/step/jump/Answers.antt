use Rattle.std.proofs.Common.{◌≡◌, ◌∙◌, ap, arith, refl, sym, subst, true, false, nat_eq}
use Rattle.std.proofs.lemmas.Bool.{eqb-true}
use Rattle.dvg_game_words.specs.Checker.{implies, leads}
use Rattle.dvg_game_words.specs.Machine.{blank_after, is_driver}
use Rattle.dvg_game_check.specs.Least.{state_meant}
use Rattle.dvg_game_check.proofs.Barred.{not_true}
use Rattle.dvg_game_check.proofs.Onwards.{on_same}
use Rattle.dvg_game_check.proofs.Steps.{blank_more, jump_drives, jump_on}
use Rattle.dvg_game_check.proofs.Suited.{implies_both}
use Rattle.dvg_game_check.proofs.step.jump.Goals as goal

pub returns-then-word-reset : goal.returns-then-word-reset
returns-then-word-reset c n notes comes fine = c.nowhere.ensures (state_meant c.args.state) n notes (omega arith) refl

pub returns-then-is_driver : goal.returns-then-is_driver
returns-then-is_driver c n notes comes fine =
    let m = state_meant c.args.state in
    let other : nat_eq c.args.word c.args.reset ≡ false = not_true (nat_eq c.args.word c.args.reset) (λ e. c.if-word-reset.false (eqb-true c.args.word c.args.reset e)) in
    let two = jump_drives notes c.args.word c.args.reset n other (sym c.is_driver.ensures ∙ c.if-is_driver.true) fine in
    c.nowhere-then-is_driver.ensures m n notes two.0
    (ap (λ b. implies b n.ends) c.blank_after.ensures
    ∙ implies_both (blank_after c.args.word m.blank) (blank_after c.args.word n.blank) n.ends
    (blank_more c.args.word m.blank n.blank comes.blank) two.1)

pub returns : goal.returns
returns c n notes comes fine =
    let m = state_meant c.args.state in
    let other : nat_eq c.args.word c.args.reset ≡ false = not_true (nat_eq c.args.word c.args.reset) (λ e. c.if-word-reset.false (eqb-true c.args.word c.args.reset e)) in
    c.straight.ensures m n notes (omega arith)
    (on_same m n notes comes c.from.result (ap (λ a. leads notes a n) c.from.ensures
    ∙ jump_on notes c.args.word c.args.reset n other (sym c.is_driver.ensures ∙ c.if-is_driver.false) fine))
