use Rattle.std.proofs.Common.{◌≡◌, ◌<◌, get_or, arith}
use Rattle.std.proofs.lemmas.Grind.{common_steps}
use Rattle.std.specs.Char.{digit_value}
use Rattle.dvg_read.proofs.Decimals.{digit_below, one_more, short_value}
use Rattle.dvg_read.proofs.number.value_of.Goals as goal

pub returns-then-digit-radix-clause-only : goal.returns-then-digit-radix-clause-only
returns-then-digit-radix-clause-only c digits =
    let below = digit_below c.args.radix c.args.digits.now c.loop-byte.byte-index digits c.loop-byte-test.true in
    absurd (omega (arith, below, c.digit_of.ensures))

pub overflow_mul-number : goal.overflow_mul-number
overflow_mul-number c =
    let product = short_value c.args.radix c.args.digits.now c.loop-byte.byte-index c.requires.most c.loop-byte.invariant.digits c.loop-byte-test.true c.requires.few in
    rw c.loop-byte.invariant.value (omega (arith, product))

pub overflow_add-number : goal.overflow_add-number
overflow_add-number c =
    let product = short_value c.args.radix c.args.digits.now c.loop-byte.byte-index c.requires.most c.loop-byte.invariant.digits c.loop-byte-test.true c.requires.few in
    rw c.loop-byte.invariant.value (omega (arith, product, c.requires.most))

pub loop-byte-preserved : goal.loop-byte-preserved
loop-byte-preserved c =
    let digit : digit_value (get_or c.args.digits.now c.loop-byte.byte-index 0) < c.args.radix = omega (arith, c.digit_of.ensures, c.requires.most) in
    let more = one_more c.args.radix c.args.digits.now c.loop-byte.byte-index c.loop-byte.invariant.digits c.loop-byte-test.true digit in
    let value : c.from-digit.result ≡ digit_value (get_or c.args.digits.now c.loop-byte.byte-index 0) = omega (arith, c.digit_of.ensures, c.requires.most) in
    record { digits = more.0; value = grind (arith, common_steps, more.1, value) }
