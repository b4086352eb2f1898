use Rattle.std.proofs.Common.{arith}
use Rattle.dvg_print.proofs.Counting.{one_digit, split_digits}
use Rattle.dvg_print.proofs.entry_lines.tens_of.Goals as goal

pub returns-then-number-lt10-clause-digits : goal.returns-then-number-lt10-clause-digits
returns-then-number-lt10-clause-digits c = one_digit c.args.number c.if-number-lt10.true

pub returns-clause-digits : goal.returns-clause-digits
returns-clause-digits c = split_digits c.args.number _ c.if-number-lt10.false (omega arith) c.digits_of.ensures.digits
