use Rattle.dvg_read.specs.FirstFaults.{IsShort}
use Rattle.dvg_read.specs.TextLines.{lines_left}
use Rattle.dvg_explain.specs.Answers.{TellsSome}
use Rattle.dvg_explain.proofs.LinesLooked.{LookedAt}
use Rattle.dvg_explain.proofs.asking.log_fault.Given as goal

abbrev pub invariant-loop-line : goal.invariant-loop-line
invariant-loop-line l = record {
  next : (goal.iterator-loop-line).can_next l.line-iterator;
  ends : (goal.iterator-loop-line).is_finite l.line-iterator;
  short : IsShort l.text;
  looked : LookedAt TellsSome l.text (lines_left l.line-iterator) l.number;
}
