use Rattle.std.proofs.Common.{◌≡◌, drop}
use Rattle.dvg_io.specs.Watching.{Went, failures_of, stream_of}
use Rattle.dvg_svg.specs.Svg.{stroke_lines}
use Rattle.dvg_svg.proofs.pictures.write_strokes.Given as goal

abbrev pub invariant-loop-stroke : goal.invariant-loop-stroke
invariant-loop-stroke g l = record {
  counted : failures_of l.writer ≡ failures_of l.initial.writer;
  went : Went (stroke_lines l.strokes) (stroke_lines (drop l.stroke-index l.strokes)) (g.W.Write.contents (stream_of l.initial.writer)) (g.W.Write.contents (stream_of l.writer));
}
