use Rattle.std.proofs.Common.{◌≡◌, ◌*◌, ◌^◌, ◌%◌, ◌-◌, ◌/◌, ◌<◌, arith}
use Rattle.std.proofs.lemmas.Nat.{and_mask, pow_below}
use Rattle.dvg_code.proofs.decoding.bits.Goals as goal

pub returns : goal.returns
returns c =
    let small : 2 ^ c.args.count < 2 ^ 16 = pow_below c.args.count 16 (omega arith) in
    let mask : 1 * 2 ^ c.args.count % 65536 - 1 ≡ 2 ^ c.args.count - 1 = omega arith in
    rw mask (and_mask (c.args.word / 2 ^ c.args.from) c.args.count)
