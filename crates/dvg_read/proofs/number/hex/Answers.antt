use Rattle.std.proofs.Common.{arith}
use Rattle.std.proofs.lemmas.Grind.{common_steps}
use Rattle.dvg_read.proofs.Decimals.{hex_small}
use Rattle.dvg_read.proofs.number.hex.Goals as goal

pub returns-clause-only : goal.returns-clause-only
returns-clause-only c n h =
    let small = hex_small c.args.part.now h.digits (omega (arith, h.size, c.requires)) in
    let only = c.in_ok-value_of.ensures.only h.digits in
    grind (arith, common_steps, small, only, h.value)
