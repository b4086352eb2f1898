use Rattle.std.proofs.Common.{arith}
use Rattle.dvg_print.proofs.EightDigits.{hundreds_of}
use Rattle.dvg_print.proofs.eight_digits.quarters.Goals as goal

pub overflow_sub-result : goal.overflow_sub-result
overflow_sub-result c =
    let hundreds = hundreds_of c.args.number c.halves-halves.result c.requires c.halves-halves.ensures in
    omega (arith, hundreds, c.halves-halves.ensures)

pub returns : goal.returns
returns c =
    let hundreds = hundreds_of c.args.number c.halves-halves.result c.requires c.halves-halves.ensures in
    omega (arith, hundreds, c.halves-halves.ensures)
