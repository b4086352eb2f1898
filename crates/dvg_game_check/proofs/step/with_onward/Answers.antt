use Rattle.std.proofs.Common.{subst, sym}
use Rattle.std.specs.Prelude.{IfSome}
use Rattle.dvg_game_words.specs.Checker.{noted}
use Rattle.dvg_game_check.specs.Least.{IsOnward, UnderAt}
use Rattle.dvg_game_check.proofs.step.with_onward.Goals as goal

pub returns : goal.returns
returns c m n notes under on needed =
    let is : IsOnward c.in-Some.one m n notes = subst (λ o. IfSome o (λ one. IsOnward one m n notes)) c.in-Some.is on in
    c.most.ensures n needed
    (c.needs_before.ensures m n notes is
    (subst (λ note. UnderAt note (noted notes c.in-Some.one.to)) (sym c.in-Some-state_at.ensures) (under c.in-Some.one.to)))
