use Rattle.std.proofs.Common.{◌≡◌, ◌∷◌, ◌++◌, arith, decimal}
use Rattle.dvg_read.proofs.Heads.{digit_more}
use Rattle.dvg_read.proofs.number.one_more.Goals as goal

pub returns-then-number-from-clause-spelled : goal.returns-then-number-from-clause-spelled
returns-then-number-from-clause-spelled c all spelled =
    let digit = c.in_ok-decimal_digit.ensures in
    let next = c.in_ok-byte.ensures.cases.0 in
    let begins : all ≡ decimal c.args.number ++ c.in_ok-byte.byte.now ∷ c.in_ok-byte.rest.now = cc in
    digit_more all c.in_ok-byte.rest.now c.args.number c.in_ok-decimal_digit.field-0 c.in_ok-byte.byte.now _
    c.requires.some (omega (arith, c.requires.few, c.ranges)) digit.1 digit.0 (omega (arith, c.from.ensures)) begins
