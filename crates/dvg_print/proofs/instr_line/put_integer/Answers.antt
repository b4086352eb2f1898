use Rattle.std.proofs.Common.{◌≡◌, ◌++◌, ℤ, pos, negsuc, false, decimal, unsigned_abs, int_lt, drop, refl, ap, ◌∙◌, true≢false}
use Rattle.std.proofs.lemmas.Int.{to_z-of_z}
use Rattle.std.specs.Fmt.{signed_decimal}
use Rattle.dvg_print.proofs.PutDigits.{after_put}
use Rattle.dvg_print.proofs.instr_line.put_integer.Goals as goal

-- a number without a sign
no_sign : (z : ℤ) → int_lt z (pos 0) ≡ false → decimal (unsigned_abs z) ≡ signed_decimal z
no_sign (pos n) e = refl
no_sign (negsuc n) e = absurd (true≢false e)

pub returns-else-n-lt0-clause-text : goal.returns-else-n-lt0-clause-text
returns-else-n-lt0-clause-text c =
    let n = c.args.n in
    let digits = c.put_small-digits in
    let sign = c.put_byte-sign in
    let rest = drop c.args.end c.args.bytes.now in
    let size = simp (to_z-of_z, c.ranges.n) at c.unsigned_abs.ensures.value in
    let positive = simp (to_z-of_z, c.ranges.n) at c.if-n-lt0.false in
    after_put digits.new.bytes sign.new.bytes sign.result digits.result 45 sign.ensures.start sign.ensures.text
    ∙ digits.ensures.text
    ∙ ap (λ text. text ++ rest) (ap decimal (c.from.ensures ∙ size) ∙ no_sign n positive)
