use Rattle.std.proofs.Common.{All, take}
use Rattle.dvg_blame.specs.Refusals.{NamesHighWord}
use Rattle.dvg_blame.proofs.checking.first_low.Given as goal

abbrev pub invariant-loop-i : goal.invariant-loop-i
invariant-loop-i l = All NamesHighWord (take l.i l.ops)
