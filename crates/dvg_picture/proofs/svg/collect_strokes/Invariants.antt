use Rattle.std.proofs.Common.{◌≡◌, ◌++◌, drop}
use Rattle.dvg_picture.specs.Svgs.{strokes_of}
use Rattle.dvg_picture.proofs.svg.collect_strokes.Given as goal

abbrev pub invariant-loop-ran : goal.invariant-loop-ran
invariant-loop-ran g l = record { so_far : strokes_of l.trace ≡ l.strokes.items ++ strokes_of (drop l.ran-index l.trace) }
