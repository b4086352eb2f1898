use Rattle.std.proofs.Common.{◌%◌, ◌^◌, ◌≤◌, arith}
use Rattle.std.proofs.Math.Pow.{pow_mono}
use Rattle.dvg_lay.proofs.time.vector_parts.Goals as goal

pub returns-then-effective-le9-clause-small : goal.returns-then-effective-le9-clause-small
returns-then-effective-le9-clause-small c =
    let low : c.args.scales % 16 ≤ 9 = c.if-effective-le9.true in
    let power : 2 ^ (c.args.scales % 16) ≤ 2 ^ 9 = pow_mono low in
    omega arith
