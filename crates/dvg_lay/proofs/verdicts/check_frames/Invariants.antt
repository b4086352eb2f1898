use Rattle.std.proofs.Common.{◌≡◌, take}
use Rattle.std.specs.List.{AllZip}
use Rattle.dvg_lay.specs.Checks.{IsVerdictOn, said_lines}
use Rattle.dvg_lay.proofs.verdicts.check_frames.Given as goal

abbrev pub invariant-loop-frame : goal.invariant-loop-frame
invariant-loop-frame g l = record {
  verdicts : AllZip (IsVerdictOn l.bytes) (take l.frame-index l.frames) l.verdicts.items;
  text : l.text.items ≡ said_lines (take l.frame-index l.frames) l.verdicts.items;
}
