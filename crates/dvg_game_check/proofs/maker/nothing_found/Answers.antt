use Rattle.std.proofs.Common.{◌≡◌, ap, arith, get_or, length, subst, sym}
use Rattle.std.specs.Prelude.{None}
use Rattle.dvg_game_check.proofs.States.{nothing_more, nothing_under}
use Rattle.dvg_game_check.proofs.maker.nothing_found.Goals as goal

pub returns : goal.returns
returns g c = (
  omega (arith, c.loop.invariant.0),
  λ notes. nothing_under c.loop.states.items c.loop.invariant.1 notes,
)
