use Rattle.std.proofs.Common.{All, take}
use Rattle.dvg_blame.specs.Refusals.{NamesHighRom}
use Rattle.dvg_blame.proofs.checking.check_low_words.Given as goal

abbrev pub invariant-loop-frame : goal.invariant-loop-frame
invariant-loop-frame g l = All NamesHighRom (take l.frame-index l.frames)
