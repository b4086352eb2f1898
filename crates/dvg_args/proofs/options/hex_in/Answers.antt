use Rattle.std.proofs.Common.{◌≡◌, ◌<◌, ◌^◌, ap, arith, length, List, ℕ, slice_index, subst, Result}
use Rattle.std.specs.Str.Parse.{ParsesUnsigned}
use Rattle.std.specs.Result.{OkIff}
use Rattle.std.specs.Str.Parse.{IsNumeral, digits_value}
use Rattle.std.proofs.lemmas.Str.Parse.{without_leading_plus_none}
use Rattle.dvg_args.proofs.Numbers.{four_digits, hex_none, hex_read}
use Rattle.dvg_args.proofs.options.hex_in.Goals as goal

-- without a plus the whole text is read
whole : {E : Type 0} (text bytes : List ℕ) (r : Result ℕ E) → bytes ≡ text → (slice_index bytes 0 ≡ 43 → ⊥) → ParsesUnsigned 16 16 text r
    → OkIff r (IsNumeral 16 text × (digits_value 16 text < 2 ^ 16)) (digits_value 16 text)
whole text bytes r same differs h =
    subst (λ ds. OkIff r (IsNumeral 16 ds × (digits_value 16 ds < 2 ^ 16)) (digits_value 16 ds))
    (without_leading_plus_none text (subst (λ b. slice_index b 0 ≡ 43 → ⊥) same differs)) h

pub returns-in-Ok : goal.returns-in-Ok
returns-in-Ok c =
    let read = whole c.args.text.now c.as_bytes-bytes.result.now c.from_str_radix.result c.as_bytes-bytes.ensures.value c.if-bytes-eq43.false c.from_str_radix.ensures.value in
    let read_here = rw c.in-Ok.is at read in
    let size : length c.args.text.now ≡ c.args.digits = cc (ap (λ bytes. length bytes) c.as_bytes-bytes.ensures.value) in
    hex_read _ c.args.digits c.args.text.now size read_here.0.0 read_here.1

pub returns-in-Err : goal.returns-in-Err
returns-in-Err c =
    let read = whole c.args.text.now c.as_bytes-bytes.result.now c.from_str_radix.result c.as_bytes-bytes.ensures.value c.if-bytes-eq43.false c.from_str_radix.ensures.value in
    let not_read = rw c.in-Err.is at read in
    let size : length c.args.text.now ≡ c.args.digits = cc (ap (λ bytes. length bytes) c.as_bytes-bytes.ensures.value) in
    hex_none c.args.digits c.args.text.now (λ numeral. not_read (numeral, omega (arith, four_digits c.args.text.now (omega (arith, size, c.requires)) numeral.1)))
