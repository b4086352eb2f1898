use Rattle.std.proofs.Common.{◌≡◌, ◌+◌, ◌≤◌, length, true}
use Rattle.dvg_print.specs.Shows.{shown}
use Rattle.dvg_io.specs.Watching.{Went, failures_of, stream_of}
use Rattle.dvg_tool.proofs.shows.write_entries.Given as goal

abbrev pub invariant-loop-run : goal.invariant-loop-run
invariant-loop-run g l = record {
  counted : failures_of l.writer ≡ failures_of l.initial.writer;
  few : l.lines.next + length l.run-iterator ≤ 65536;
  went : Went (shown true 0 l.entries) (shown true l.lines.next l.run-iterator)
      (g.W.Write.contents (stream_of l.initial.writer)) (g.W.Write.contents (stream_of l.writer));
}
