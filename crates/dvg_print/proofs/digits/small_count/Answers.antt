use Rattle.std.proofs.Common.{◌/◌, arith}
use Rattle.itoa.proofs.Decimal.{length_one, length_pair, length_two}
use Rattle.dvg_print.proofs.digits.small_count.Goals as goal

pub returns-then-number-lt10-clause-value : goal.returns-then-number-lt10-clause-value
returns-then-number-lt10-clause-value c = omega (arith, length_one c.args.number c.if-number-lt10.true)

pub returns-then-number-lt100-clause-value : goal.returns-then-number-lt100-clause-value
returns-then-number-lt100-clause-value c = omega (arith, length_two c.args.number c.if-number-lt10.false c.if-number-lt100.true)

pub returns-then-number-lt1000-clause-value : goal.returns-then-number-lt1000-clause-value
returns-then-number-lt1000-clause-value c =
    let n = c.args.number in
    omega (arith, length_pair n c.if-number-lt100.false (omega arith), length_one (n / 100) (omega arith))

pub returns-else-number-lt1000-clause-value : goal.returns-else-number-lt1000-clause-value
returns-else-number-lt1000-clause-value c =
    let n = c.args.number in
    omega (arith, length_pair n c.if-number-lt100.false (omega arith), length_two (n / 100) (omega arith) (omega arith))
