use Rattle.std.proofs.Common.{◌≤◌, ◌+◌, length}
use Rattle.dvg_read.specs.TextLines.{lines_left}
use Rattle.dvg_named.specs.SourcedRows.{AreSourced}
use Rattle.dvg_named.proofs.SketchRead.{ReadTo}
use Rattle.dvg_read.specs.declared.draft_text.TheConstants.{MOST_TEXT_BYTES}
use Rattle.dvg_named.proofs.text_reading.read_lines.Given as goal

abbrev pub invariant-loop-line : goal.invariant-loop-line
invariant-loop-line g l = record {
  next : (goal.iterator-loop-line g).can_next l.line-iterator;
  ends : (goal.iterator-loop-line g).is_finite l.line-iterator;
  short : length l.small ≤ MOST_TEXT_BYTES;
  sourced : AreSourced l.small (l.number + 1) l.reading;
  read : ReadTo l.small (lines_left l.line-iterator) l.number l.reading;
}
