use Rattle.std.proofs.Common.{◌≡◌, ◌∙◌, ap, sym, arith, nat_eq, false}
use Rattle.std.proofs.lemmas.Bool.{eqb-true}
use Rattle.dvg_game_words.specs.Checker.{leads}
use Rattle.dvg_game_check.specs.Rules.{jumps_fine, level_meant}
use Rattle.dvg_game_check.proofs.Barred.{barred, not_true}
use Rattle.dvg_game_check.proofs.Steps.{jump_on}
use Rattle.dvg_game_check.proofs.forced.jump_forced.Goals as goal

pub returns : goal.returns
returns c is all n under comes =
    not_true (jumps_fine all c.args.word c.args.reset n) (λ h.
    let other : nat_eq c.args.word c.args.reset ≡ false =
    not_true (nat_eq c.args.word c.args.reset) (λ e. c.if-word-reset.false (eqb-true c.args.word c.args.reset e)) in
    let on = jump_on all c.args.word c.args.reset n other (sym c.is_driver.ensures ∙ c.if-is_driver.false) h in
    barred all c.from.result (level_meant c.args.now.now.level) c.from-2.result n (λ new. c.is_barred.ensures is all new under)
    (ap (λ a. leads all a n) c.from.ensures ∙ on) (sym comes.level) (sym comes.depth ∙ sym c.from-2.ensures))
