use Rattle.dvg_print.proofs.Counting.{Carrying}
use Rattle.dvg_print.proofs.digits.add_one.Given as goal

abbrev pub invariant-loop-at : goal.invariant-loop-at
invariant-loop-at l = Carrying l.fn.bytes l.bytes l.count l.at

abbrev pub decreases-loop-at : goal.decreases-loop-at
decreases-loop-at l = l.at
