use Rattle.std.proofs.Common.{◌≡◌, subst, sym, true}
use Rattle.std.specs.Prelude.{Some}
use Rattle.dvg_game_words.specs.Checker.{fine_at, noted}
use Rattle.dvg_game_check.specs.Least.{UnderAt, state_meant}
use Rattle.dvg_game_check.proofs.Barred.{there}
use Rattle.dvg_game_check.proofs.maker.follow.Goals as goal

pub returns : goal.returns
returns g c f start notes has game under =
    let m = state_meant c.in-Some.state in
    let t = there m (noted notes c.args.at)
    (subst (λ note. UnderAt note (noted notes c.args.at)) (sym c.in-Some.ensures) (under c.args.at)) in
    let step =
    c.step_at-step.ensures f t.n notes has under t.under.comes
    (subst (λ note. fine_at notes f c.args.at note ≡ true) t.is (game.fine c.args.at)) in
    c.go_on-2.ensures t.n notes (c.go_on.ensures t.n notes under step.next) step.to
