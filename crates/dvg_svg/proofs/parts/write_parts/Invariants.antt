use Rattle.std.proofs.Common.{◌≡◌, drop}
use Rattle.dvg_io.specs.Watching.{Went, failures_of, stream_of}
use Rattle.dvg_svg.specs.Parts.{joined}
use Rattle.dvg_svg.proofs.parts.write_parts.Given as goal

abbrev pub invariant-loop-part : goal.invariant-loop-part
invariant-loop-part g l = record {
  counted : failures_of l.writer ≡ failures_of l.initial.writer;
  went : Went (joined l.parts) (joined (drop l.part-index l.parts)) (g.W.Write.contents (stream_of l.initial.writer)) (g.W.Write.contents (stream_of l.writer));
}
