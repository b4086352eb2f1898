use Rattle.std.proofs.Common.{◌≡◌, length, ap, arith}
use Rattle.std.proofs.lemmas.Fmt.{length_signed_le}
use Rattle.std.proofs.lemmas.Int.{to_z-of_z}
use Rattle.dvg_print.proofs.line.Line.signed.Goals as goal

pub text-requires : goal.text-requires
text-requires c =
    let same : length c.as_bytes.result.now ≡ length c.format.result.now = ap length c.as_bytes.ensures.value in
    let is = ap length (simp (to_z-of_z, c.ranges.n) at c.format.ensures.text) in
    let short = length_signed_le 7 c.args.n (omega (arith, c.requires.small)) (omega (arith, c.requires.small)) in
    omega arith

pub returns-clause-grew : goal.returns-clause-grew
returns-clause-grew c =
    let same : length c.as_bytes.result.now ≡ length c.format.result.now = ap length c.as_bytes.ensures.value in
    let is = ap length (simp (to_z-of_z, c.ranges.n) at c.format.ensures.text) in
    let short = length_signed_le 7 c.args.n (omega (arith, c.requires.small)) (omega (arith, c.requires.small)) in
    omega arith
