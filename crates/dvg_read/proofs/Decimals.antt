-- How numbers are spelled in decimal and in hexadecimal.
use Rattle.std.proofs.Common.{◌≡◌, ◌<◌, ◌≤◌, ◌^◌, ◌+◌, ◌*◌, ℕ, zero, suc, sym, Option, Some, ℤ, pos, negsuc, List, [], ◌∷◌, length, take, get_or, decimal, unsigned_abs, refl, ap, ◌∙◌, arith}
use Rattle.std.specs.Char.{digit_value}
use Rattle.std.specs.Str.Parse.{AllDigits, digits_value}
use Rattle.std.specs.Fmt.{signed_decimal}
use Rattle.std.proofs.lemmas.Int.Digits.{digits_value-lt, digits_more, digits_value_more}
use Rattle.std.proofs.Math.Nat.{pow-le-pow_left, pow-le-pow_right}
use Rattle.std.proofs.lemmas.Nat.{mul-le}
use Rattle.std.proofs.lemmas.List.{length-take}
use Rattle.std.proofs.lemmas.Str.Parse.{digit_at, numerals_by_value, tells_digits, IsNumeralModel}
use Rattle.std.proofs.lemmas.Fmt.{decimal_nonempty, first_decimal, decimal_digit, length-decimal-le, decimal_is_IsNumeral, decimal-digits_value, digits_value-decimal}

-- a decimal spelling of n: at most five digits whose number is n, the first of which is 0 only where it stands alone
pub record IsShaped (n : ℕ) (part : List ℕ) : Type 0 where
  pub some : 0 < length part
  pub short : length part ≤ 5
  pub lead : get_or part 0 0 ≡ 48 → length part ≡ 1
  pub digits : AllDigits 10 part
  pub value : digits_value 10 part ≡ n

lead_of : (n : ℕ) → n < 2 ^ 16 → get_or (decimal n) 0 0 ≡ 48 → length (decimal n) ≡ 1
lead_of zero small zero_first = ap length (decimal_digit 0 (omega arith))
lead_of (suc n) small zero_first = absurd (omega (arith, first_decimal (suc n) (omega arith) (omega arith)))

numerals : IsNumeralModel (AllDigits 10) (digits_value 10)
numerals = numerals_by_value (AllDigits 10) tells_digits

pub shaped : (n : ℕ) (part : List ℕ) → n < 2 ^ 16 → part ≡ decimal n → IsShaped n part
shaped n part small is = rw is (record {
  some = decimal_nonempty n (omega arith);
  short = length-decimal-le 5 n (omega arith) (omega arith) (omega arith);
  lead = lead_of n small;
  digits = (decimal_is_IsNumeral n (omega arith)).0.1;
  value = digits_value-decimal numerals n (omega arith);
})

-- digits of that shape are the decimal spelling of their number
pub respelled : (part : List ℕ) (n : ℕ) → AllDigits 10 part → 0 < length part → (get_or part 0 0 ≡ 48 → length part ≡ 1) → digits_value 10 part ≡ n → n < 2 ^ 16 → part ≡ decimal n
respelled part n digits some lead value small = sym (ap decimal (sym value) ∙ decimal-digits_value numerals part digits some lead (omega arith))

-- each digit is below the radix
pub digit_below : (radix : ℕ) (digits : List ℕ) (i : ℕ) → AllDigits radix digits → i < length digits → digit_value (get_or digits i 0) < radix
digit_below radix [] i h inside = absurd (omega arith)
digit_below radix (byte ∷ digits) zero h inside = h.0
digit_below radix (byte ∷ digits) (suc i) h inside = digit_below radix digits i h.1 (omega arith)

-- the number of the digits before one of five, times the radix, is below 2,097,152
pub short_value : (radix : ℕ) (digits : List ℕ) (i : ℕ) → radix ≤ 16 → AllDigits radix (take i digits) → i < length digits → length digits ≤ 5 → digits_value radix (take i digits) * radix < 2 ^ 21
short_value radix digits i most are_digits inside few =
    let below = digits_value-lt radix (take i digits) are_digits in
    let size = length-take i digits in
    let radix_to = pow-le-pow_left most (length (take i digits)) in
    let to_four : 16 ^ length (take i digits) ≤ 16 ^ 4 = pow-le-pow_right {n = 16} (omega arith) {i = length (take i digits)} {j = 4} (omega (arith, size, few, inside)) in
    let product = mul-le (digits_value radix (take i digits)) radix 65535 16 (omega (arith, below, radix_to, to_four)) most in
    omega (arith, product)

-- the number with one more digit
pub one_more : (radix : ℕ) (digits : List ℕ) (i : ℕ) → AllDigits radix (take i digits) → i < length digits → digit_value (get_or digits i 0) < radix
    → AllDigits radix (take (i + 1) digits) × (digits_value radix (take (i + 1) digits) ≡ digits_value radix (take i digits) * radix + digit_value (get_or digits i 0))
one_more radix digits i are_digits inside digit = (digits_more radix digits i inside are_digits digit, digits_value_more radix digits i inside)

-- a number whose spelling begins with a minus is negative
negative : (digits : List ℕ) (n : ℤ) → unsigned_abs n < 2 ^ 15 → 45 ∷ digits ≡ signed_decimal n → (size : ℕ) × (suc size < 2 ^ 15) × (n ≡ negsuc size) × (digits ≡ decimal (suc size))
negative digits (pos n) small is = let shape = shaped n (45 ∷ digits) (omega arith) is in let byte = digit_at (45 ∷ digits) 0 shape.digits shape.some in absurd (omega (arith, byte))
negative digits (negsuc n) small is = (n, small, refl, cc)

-- and what is read after the minus is its size
pub minus_read : (digits : List ℕ) (n : ℤ) (answer : Option ℕ) → unsigned_abs n < 2 ^ 15 → 45 ∷ digits ≡ signed_decimal n → ((m : ℕ) → m < 2 ^ 16 → digits ≡ decimal m → answer ≡ Some m)
    → (size : ℕ) × (suc size < 2 ^ 15) × (n ≡ negsuc size) × (answer ≡ Some (suc size))
minus_read digits n answer small is only = let spelled = negative digits n small is in (spelled.0, spelled.1, spelled.2, only (suc spelled.0) (omega (arith, spelled.1)) spelled.3)

pub signed_some : (n : ℤ) → unsigned_abs n < 2 ^ 15 → 0 < length (signed_decimal n)
signed_some (pos n) small = decimal_nonempty n (omega arith)
signed_some (negsuc n) small = omega arith

hex_bound : (n count : ℕ) → n < 16 ^ count → count ≤ 4 → n < 2 ^ 16
hex_bound n zero h few = omega arith
hex_bound n (suc zero) h few = omega arith
hex_bound n (suc (suc zero)) h few = omega arith
hex_bound n (suc (suc (suc zero))) h few = omega arith
hex_bound n (suc (suc (suc (suc zero)))) h few = omega arith
hex_bound n (suc (suc (suc (suc (suc count))))) h few = absurd (omega arith)

-- four hexadecimal digits spell a number of 16 bits
pub hex_small : (digits : List ℕ) → AllDigits 16 digits → length digits ≤ 4 → digits_value 16 digits < 2 ^ 16
hex_small digits are_digits few = hex_bound _ (length digits) (digits_value-lt 16 digits are_digits) few
