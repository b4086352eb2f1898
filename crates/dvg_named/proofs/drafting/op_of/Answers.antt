use Rattle.std.proofs.Common.{arith}
use Rattle.dvg_rows.specs.HeldRows.{rows_of}
use Rattle.dvg_named.proofs.DraftRows.{number_most}
use Rattle.dvg_named.proofs.drafting.op_of.Goals as goal

pub overflow_cast-number : goal.overflow_cast-number
overflow_cast-number g c =
    let most = number_most (rows_of c.args.rows.now) c.in-Calls.name.now c.in-Some.number c.in-Some.ensures.found.0 in
    omega (arith, most, c.requires.few)

pub overflow_cast-number-in-Some-number_of : goal.overflow_cast-number-in-Some-number_of
overflow_cast-number-in-Some-number_of g c =
    let most = number_most (rows_of c.args.rows.now) c.in-Jumps.name.now c.in-Some-number_of.number
    c.in-Some-number_of.ensures.found.0 in
    omega (arith, most, c.requires.few)
