use Rattle.std.proofs.Common.{◌≤◌, length}
use Rattle.dvg_read.specs.FirstFaults.{IsShort}
use Rattle.dvg_read.specs.TextLines.{lines_left}
use Rattle.dvg_read.proofs.ReadTo.{ReadTo}
use Rattle.dvg_read.proofs.draft_text.read_draft.Given as goal

abbrev pub invariant-loop-op : goal.invariant-loop-op
invariant-loop-op l = record {
  short : IsShort l.text;
  count : length l.draft ≤ 511;
  read : ReadTo l.text (lines_left l.lines) l.number l.draft l.rom;
}

abbrev pub decreases-loop-op : goal.decreases-loop-op
decreases-loop-op l = length (lines_left l.lines)
