use Rattle.std.proofs.Common.{arith}
use Rattle.dvg_read.proofs.Heads.{digit_first}
use Rattle.dvg_read.proofs.number.first_digit.Goals as goal

pub returns-clause-spelled : goal.returns-clause-spelled
returns-clause-spelled c =
    let digit = c.in_ok-decimal_digit.ensures in
    digit_first c.args.text.now c.in_ok-byte.rest.now c.from.result c.in_ok-byte.byte.now
    (omega (arith, digit.1, c.from.ensures)) (omega (arith, digit.0, c.from.ensures)) c.in_ok-byte.ensures.cases.0
