use Rattle.std.proofs.Common.{All, take}
use Rattle.dvg_blame.specs.Refusals.{IsGood}
use Rattle.dvg_blame.proofs.checking.check_all.Given as goal

abbrev pub invariant-loop-frame : goal.invariant-loop-frame
invariant-loop-frame g l = All (IsGood l.rom) (take l.frame-index l.frames)
