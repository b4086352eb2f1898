use Rattle.std.proofs.Common.{◌≡◌, drop, flat_map}
use Rattle.dvg_io.specs.Watching.{Went, failures_of, stream_of}
use Rattle.dvg_picture.specs.Texts.{ran_text}
use Rattle.dvg_picture.proofs.writes.write_trace.Given as goal

abbrev pub invariant-loop-ran : goal.invariant-loop-ran
invariant-loop-ran g l = record {
  counted : failures_of l.writer ≡ failures_of l.initial.writer;
  went : Went (flat_map ran_text l.trace) (flat_map ran_text (drop l.ran-index l.trace)) (g.W.Write.contents (stream_of l.initial.writer)) (g.W.Write.contents (stream_of l.writer));
}
