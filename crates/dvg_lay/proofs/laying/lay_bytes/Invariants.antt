use Rattle.std.proofs.Common.{◌≡◌, ◌++◌, All, drop, take}
use Rattle.dvg_blame.specs.Refusals.{IsGood}
use Rattle.dvg_lay.specs.Texts.{frames_bytes}
use Rattle.dvg_lay.proofs.laying.lay_bytes.Given as goal

abbrev pub invariant-loop-frame : goal.invariant-loop-frame
invariant-loop-frame g l = record {
  good : All (IsGood l.rom) (take l.frame-index l.frames);
  text : l.text.items ++ frames_bytes l.half (drop l.frame-index l.frames) ≡ frames_bytes l.half l.frames;
}
