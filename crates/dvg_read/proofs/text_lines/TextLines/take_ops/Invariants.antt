use Rattle.std.proofs.Common.{◌≤◌, length}
use Rattle.dvg_read.specs.TextLines.{AddsOps, lines_left}
use Rattle.dvg_read.specs.Texts.{lines}
use Rattle.dvg_read.proofs.text_lines.TextLines.take_ops.Given as goal

abbrev pub invariant-loop-head : goal.invariant-loop-head
invariant-loop-head l = record {
  adds : AddsOps (lines_left l.initial.self) l.initial.draft l.count (lines l.rest) l.draft;
  few : length l.draft ≤ 511;
}

abbrev pub decreases-loop-head : goal.decreases-loop-head
decreases-loop-head l = length (lines l.rest)
