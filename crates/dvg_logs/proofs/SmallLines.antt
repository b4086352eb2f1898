-- Lines in small letters, without a CR at their end.
use Rattle.std.proofs.Common.{◌≡◌, ◌⊎◌, ◌<◌, ◌≤◌, ◌+◌, ◌*◌, ◌-◌, ◌∙◌, ℕ, List, [], ◌∷◌, ap, arith, eqb, false, get_or, inl, inr, length, refl, take, true, Bool}
use Rattle.std.specs.Prelude.{if◌then◌else◌}
use Rattle.std.proofs.lemmas.Bool.{cases_lt}
use Rattle.std.proofs.lemmas.Bool.Decides.{nat_tests}
use Rattle.std.proofs.lemmas.List.{length-map, map-append}
use Rattle.std.proofs.lemmas.Str.Ascii.{lowercase_is}
use Rattle.std.specs.Char.{digit_value, to_ascii_lowercase}
use Rattle.std.specs.Str.Lines.{strip_carriage_return}
use Rattle.std.specs.Str.Parse.{AllDigits, digits_value_after}
use Rattle.dvg_read.specs.Texts.{IsHex}
use Rattle.dvg_read.proofs.FirstBytes.{HasNone}
use Rattle.dvg_logs.specs.LogLines.{small}
use Rattle.dvg_logs.specs.LogLineTells.{AreNumbers}

-- ---- digits

same_digit_by : (c : ℕ) → digit_value c < 16 → (c < 65) ⊎ (65 ≤ c) → (c < 91) ⊎ (91 ≤ c)
    → digit_value (to_ascii_lowercase c) ≡ digit_value c
same_digit_by c digit (inl low) other = ap digit_value ((lowercase_is c).1 low)
same_digit_by c digit (inr high) (inr over) = ap digit_value ((lowercase_is c).2 (omega (arith, over)))
same_digit_by c digit (inr high) (inl below) =
    ap digit_value ((lowercase_is c).0 (high, omega (arith, below))) ∙ small_digit c high below
  where
    small_digit : (c : ℕ) → 65 ≤ c → c < 91 → digit_value (c + 32) ≡ digit_value c
    small_digit c high below = grind (arith, nat_tests)

same_digit : (c : ℕ) → digit_value c < 16 → digit_value (to_ascii_lowercase c) ≡ digit_value c
same_digit c digit = same_digit_by c digit (cases_lt c 65) (cases_lt c 91)

small_digits : (digits : List ℕ) → AllDigits 16 digits → AllDigits 16 (small digits)
small_digits [] h = tt
small_digits (c ∷ digits) h = (omega (arith, h.0, same_digit c h.0), small_digits digits h.1)

same_value : (digits : List ℕ) (n : ℕ) → AllDigits 16 digits → digits_value_after 16 n (small digits) ≡ digits_value_after 16 n digits
same_value [] n h = refl
same_value (c ∷ digits) n h =
    ap (λ d. digits_value_after 16 (n * 16 + d) (small digits)) (same_digit c h.0)
    ∙ same_value digits (n * 16 + digit_value c) h.1

small_hex : {count n : ℕ} {digits : List ℕ} → IsHex count n digits → IsHex count n (small digits)
small_hex {digits = digits} h = record {
  size = length-map digits to_ascii_lowercase ∙ h.size;
  digits = small_digits digits h.digits;
  value = same_value digits 0 h.digits ∙ h.value;
}

-- numbers are the same in small letters
pub small_numbers : {width count a n : ℕ} {bytes : List ℕ} → AreNumbers width count a n bytes → AreNumbers width count a n (small bytes)
small_numbers numbers = record {
  front = small numbers.front;
  back = small numbers.back;
  split = ap small numbers.split ∙ map-append to_ascii_lowercase numbers.front (32 ∷ numbers.back);
  address = small_hex numbers.address;
  number = small_hex numbers.number;
}

-- ---- the end of a line

stripped_by : (is : Bool) (line : List ℕ) → is ≡ false → (if is then take (length line - 1) line else line) ≡ line
stripped_by true line e = absurd cc
stripped_by false line e = refl

-- a line without a CR stays
pub stripped : (line : List ℕ) → HasNone 13 line → strip_carriage_return line ≡ line
stripped [] h = refl
stripped (byte ∷ line) h =
    stripped_by (eqb (get_or (byte ∷ line) (length (byte ∷ line) - 1) 0) 13) (byte ∷ line)
    (h (length (byte ∷ line) - 1) 0 (omega arith))
