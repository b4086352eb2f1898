use Rattle.std.proofs.Common.{◌≡◌, drop, flat_map}
use Rattle.dvg_print.specs.Shows.{stroke_line}
use Rattle.dvg_io.specs.Watching.{Went, failures_of, stream_of}
use Rattle.dvg_io.proofs.strokes.write_strokes_in.Given as goal

abbrev pub invariant-loop-stroke : goal.invariant-loop-stroke
invariant-loop-stroke g l = record {
  counted : failures_of l.writer ≡ failures_of l.initial.writer;
  went : Went (flat_map stroke_line l.strokes) (flat_map stroke_line (drop l.stroke-index l.strokes))
      (g.W.Write.contents (stream_of l.initial.writer)) (g.W.Write.contents (stream_of l.writer));
}
