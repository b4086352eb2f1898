use Rattle.std.proofs.Common.{◌≡◌}
use Rattle.dvg_io.specs.Watching.{failures_of, stream_of}
use Rattle.dvg_tool.proofs.RomLines.{RowsWritten}
use Rattle.dvg_tool.proofs.roms.write_rows.Given as goal

abbrev pub invariant-loop-row : goal.invariant-loop-row
invariant-loop-row g l = record {
  counted : failures_of l.writer ≡ failures_of l.initial.writer;
  written : RowsWritten l.first l.words l.row (g.W.Write.contents (stream_of l.initial.writer)) (g.W.Write.contents (stream_of l.writer));
}
