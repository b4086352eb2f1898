use Rattle.std.proofs.Common.{◌≡◌, ◌+◌, ◌*◌, length, decimal, ap, arith}
use Rattle.itoa.proofs.Decimal.{length_two}
use Rattle.dvg_print.proofs.line.Line.opacity.Goals as goal

pub text-requires-then-z-lt15 : goal.text-requires-then-z-lt15
text-requires-then-z-lt15 c =
    let same : length c.as_bytes.result.now ≡ length c.format.result.now = ap length c.as_bytes.ensures.value in
    let is = ap length c.format.ensures.text in
    let two : length (decimal (5 * (c.args.z + 5))) ≡ 2 = length_two (5 * (c.args.z + 5)) (omega arith) (omega arith) in
    grind arith

pub returns-then-z-lt15-clause-grew : goal.returns-then-z-lt15-clause-grew
returns-then-z-lt15-clause-grew c =
    let same : length c.as_bytes.result.now ≡ length c.format.result.now = ap length c.as_bytes.ensures.value in
    let is = ap length c.format.ensures.text in
    let two : length (decimal (5 * (c.args.z + 5))) ≡ 2 = length_two (5 * (c.args.z + 5)) (omega arith) (omega arith) in
    grind arith
