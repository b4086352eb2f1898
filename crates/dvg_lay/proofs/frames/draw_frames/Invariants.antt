use Rattle.std.proofs.Common.{take}
use Rattle.std.specs.List.{AllZip}
use Rattle.dvg_svg.specs.Svg.{strokes_of}
use Rattle.dvg_lay.specs.Drawings.{IsDrawnFrame}
use Rattle.dvg_lay.proofs.frames.draw_frames.Given as goal

abbrev pub invariant-loop-frame : goal.invariant-loop-frame
invariant-loop-frame g l = AllZip (IsDrawnFrame l.bytes) (take l.frame-index l.frames) (strokes_of l.pictures.items)
