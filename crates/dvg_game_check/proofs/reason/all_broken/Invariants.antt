use Rattle.std.specs.Prelude.{All}
use Rattle.dvg_game_check.specs.Why.{HasBroken, IsBroken}
use Rattle.dvg_game_check.proofs.reason.all_broken.Given as goal

abbrev pub invariant-loop-i : goal.invariant-loop-i
invariant-loop-i g l = All (IsBroken l.rom l.notes) l.all.items × HasBroken l.rom l.notes l.all.items l.i
