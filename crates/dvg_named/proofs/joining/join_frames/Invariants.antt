use Rattle.std.proofs.Common.{◌≡◌, length, take}
use Rattle.std.specs.List.{AllZip}
use Rattle.dvg_named.specs.FlatFrames.{IsSpanOf}
use Rattle.dvg_named.specs.LaidValues.{laid_sections}
use Rattle.dvg_named.specs.OpSources.{AreLinesOf}
use Rattle.dvg_named.proofs.joining.join_frames.Given as goal

abbrev pub invariant-loop-frame : goal.invariant-loop-frame
invariant-loop-frame g l = record {
  spans : AllZip (IsSpanOf (laid_sections l.rom) l.ops.items) (take l.frame-index l.frames) l.spans.items;
  lines : AllZip (AreLinesOf l.sources.items) (take l.frame-index l.frames) l.spans.items;
  same : length l.ops.items ≡ length l.sources.items;
}
