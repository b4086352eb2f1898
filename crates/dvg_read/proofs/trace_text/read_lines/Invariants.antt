use Rattle.std.proofs.Common.{length}
use Rattle.dvg_read.specs.TextLines.{lines_left}
use Rattle.dvg_read.specs.TraceGives.{IsHeld, events_read, opened_of}
use Rattle.dvg_read.proofs.ReadTrace.{ReadTrace}
use Rattle.dvg_read.proofs.trace_text.read_lines.Given as goal

abbrev pub invariant-loop-count : goal.invariant-loop-count
invariant-loop-count g l = record {
  held : IsHeld l.reading;
  read : ReadTrace l.text (lines_left l.lines) l.number (events_read l.reading) (opened_of l.reading) l.reading.rom;
}

abbrev pub decreases-loop-count : goal.decreases-loop-count
decreases-loop-count g l = length (lines_left l.lines)
