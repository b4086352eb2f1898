use Rattle.dvg_read.specs.TextLines.{lines_left}
use Rattle.dvg_explain.specs.Kinds.{Says}
use Rattle.std.proofs.Common.{ℕ}
use Rattle.dvg_explain.proofs.LinesLooked.{LookedAt}
use Rattle.dvg_explain.proofs.lines.says_something.Given as goal

abbrev pub invariant-loop-line : goal.invariant-loop-line
invariant-loop-line l = record {
  next : (goal.iterator-loop-line).can_next l.line-iterator;
  ends : (goal.iterator-loop-line).is_finite l.line-iterator;
  looked : (n : ℕ) × LookedAt (λ line. ¬ Says line) l.text (lines_left l.line-iterator) n;
}
