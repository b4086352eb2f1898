use Rattle.std.proofs.Common.{arith, rules}
use Rattle.std.proofs.lemmas.Fmt.{decimal_digit}
use Rattle.itoa.proofs.Decimal.{decimal_two, length_one, length_two}
use Rattle.dvg_print.proofs.PutDigits.{one_put}
use Rattle.dvg_print.proofs.digits.put_first.Goals as goal

pub overflow_sub-bytes : goal.overflow_sub-bytes
overflow_sub-bytes c = omega (arith, length_one c.args.number c.if-number-lt10.true)

pub overflow_sub-result : goal.overflow_sub-result
overflow_sub-result c = omega (arith, length_one c.args.number c.if-number-lt10.true)

pub returns-then-number-lt10-clause-start : goal.returns-then-number-lt10-clause-start
returns-then-number-lt10-clause-start c = omega (arith, length_one c.args.number c.if-number-lt10.true)

pub returns-then-number-lt10-clause-text : goal.returns-then-number-lt10-clause-text
returns-then-number-lt10-clause-text c =
    let one = length_one c.args.number c.if-number-lt10.true in
    rw (decimal_digit c.args.number c.if-number-lt10.true)
    (one_put c.args.bytes.now c.args.end _ (omega (arith, one)) (search rules))

pub put_pair-requires-clause-room : goal.put_pair-requires-clause-room
put_pair-requires-clause-room c = omega (arith, length_two c.args.number c.if-number-lt10.false c.requires.number)

pub returns-clause-start : goal.returns-clause-start
returns-clause-start c = omega (arith, length_two c.args.number c.if-number-lt10.false c.requires.number)

pub returns-clause-text : goal.returns-clause-text
returns-clause-text c = rw (decimal_two c.args.number c.if-number-lt10.false c.requires.number) c.put_pair.ensures
