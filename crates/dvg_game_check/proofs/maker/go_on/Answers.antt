use Rattle.std.proofs.Common.{subst}
use Rattle.std.specs.Prelude.{IfSome}
use Rattle.dvg_game_check.specs.Least.{IsOnward, state_meant}
use Rattle.dvg_game_check.proofs.Onwards.{comes_at}
use Rattle.dvg_game_check.proofs.maker.go_on.Goals as goal

pub returns : goal.returns
returns g c n notes under on =
    let is : IsOnward c.in-Some.one (state_meant c.args.state) n notes =
    subst (λ o. IfSome o (λ one. IsOnward one (state_meant c.args.state) n notes)) c.in-Some.is on in
    c.go.ensures notes under
    (comes_at (state_meant c.after.result) is.behind notes c.in-Some.one.to (c.after.ensures is.behind is.comes) is.led)
