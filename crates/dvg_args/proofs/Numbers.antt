-- Which numbers texts write.
use Rattle.std.proofs.Common.{◌≡◌, ◌∙◌, ◌<◌, ◌≤◌, ◌^◌, ◌&&◌, ◌==◌, ℕ, Bool, true, false, [], ◌∷◌, Some, None, ap, arith, cond, length, refl, sym}
use Rattle.std.specs.Prelude.{nat_le, nat_lt}
use Rattle.std.specs.Char.{digit_value}
use Rattle.std.specs.Cmp.Derive.{both_true}
use Rattle.std.specs.Int.{is_in_range}
use Rattle.std.specs.List.{list_all}
use Rattle.std.specs.Str.Parse.{AllDigits, IsNumeral, digits_value}
use Rattle.std.proofs.lemmas.Bool.{eq-eqb, false_from_ne_true, le-leb, leb-true, lt-ltb, ltb-true}
use Rattle.clap.specs.Words.{Text}
use Rattle.dvg_args.specs.Options.{decimal_in, hex_in, is_numeral}

first_true : (s t : Bool) → (s && t) ≡ true → s ≡ true
first_true true t e = refl
first_true false t e = e

second_true : (s t : Bool) → (s && t) ≡ true → t ≡ true
second_true true t e = e
second_true false t e = cc

-- ---- digits, by their test and by std's definitions

pass_test : (radix : ℕ) (ds : Text) → AllDigits radix ds → list_all (λ d. nat_lt (digit_value d) radix) ds ≡ true
pass_test radix [] h = refl
pass_test radix (d ∷ ds) h = both_true (lt-ltb _ _ h.0) (pass_test radix ds h.1)

by_test : (radix : ℕ) (ds : Text) → list_all (λ d. nat_lt (digit_value d) radix) ds ≡ true → AllDigits radix ds
by_test radix [] e = tt
by_test radix (d ∷ ds) e = (ltb-true _ _ (first_true _ _ e), by_test radix ds (second_true _ _ e))

numeral_passes : (radix : ℕ) (ds : Text) → IsNumeral radix ds → is_numeral radix ds ≡ true
numeral_passes radix ds h = both_true (lt-ltb 0 (length ds) h.0) (pass_test radix ds h.1)

is_one : (radix : ℕ) (ds : Text) → is_numeral radix ds ≡ true → IsNumeral radix ds
is_one radix ds e = (ltb-true 0 (length ds) (first_true _ _ e), by_test radix ds (second_true _ _ e))

chosen : {T : Type 0} (b : Bool) (x y : T) → b ≡ true → x ≡ cond b x y
chosen b x y e = sym (ap (λ b. cond b x y) e)

passed_over : {T : Type 0} (b : Bool) (x y : T) → (b ≡ true → ⊥) → y ≡ cond b x y
passed_over b x y h = sym (ap (λ b. cond b x y) (false_from_ne_true b h))

-- ---- decimal numbers

abbrev fits : ℕ → ℕ → Text → Bool
fits least most ds = is_in_range least most (digits_value 10 ds)

pub decimal_read : (least most n : ℕ) (ds : Text) → IsNumeral 10 ds → n ≡ digits_value 10 ds → least ≤ n → n ≤ most → Some n ≡ decimal_in least most ds
decimal_read least most n ds numeral is low high =
    let in_range : fits least most ds ≡ true =
    both_true (le-leb least (digits_value 10 ds) (omega arith)) (le-leb (digits_value 10 ds) most (omega arith)) in
    ap (λ k. Some k) is ∙ chosen (is_numeral 10 ds && fits least most ds) (Some (digits_value 10 ds)) None (both_true (numeral_passes 10 ds numeral) in_range)

pub decimal_none : (least most : ℕ) (ds : Text) → (IsNumeral 10 ds → least ≤ digits_value 10 ds → digits_value 10 ds ≤ most → ⊥) → None ≡ decimal_in least most ds
decimal_none least most ds h = passed_over (is_numeral 10 ds && fits least most ds) (Some (digits_value 10 ds)) None (λ e.
    let in_range = second_true (is_numeral 10 ds) (fits least most ds) e in
    h (is_one 10 ds (first_true (is_numeral 10 ds) (fits least most ds) e))
    (leb-true least (digits_value 10 ds) (first_true (nat_le least (digits_value 10 ds)) (nat_le (digits_value 10 ds) most) in_range))
    (leb-true (digits_value 10 ds) most (second_true (nat_le least (digits_value 10 ds)) (nat_le (digits_value 10 ds) most) in_range)))

-- ---- hexadecimal numbers of so many digits

abbrev has_digits : ℕ → Text → Bool
has_digits digits text = length text == digits

pub hex_read : (n digits : ℕ) (text : Text) → length text ≡ digits → IsNumeral 16 text → n ≡ digits_value 16 text → Some n ≡ hex_in digits text
hex_read n digits text size numeral is =
    ap (λ k. Some k) is ∙ chosen (has_digits digits text && is_numeral 16 text) (Some (digits_value 16 text)) None (both_true (eq-eqb _ _ size) (numeral_passes 16 text numeral))

pub hex_none : (digits : ℕ) (text : Text) → (IsNumeral 16 text → ⊥) → None ≡ hex_in digits text
hex_none digits text h =
    passed_over (has_digits digits text && is_numeral 16 text) (Some (digits_value 16 text)) None (λ e. h (is_one 16 text (second_true (has_digits digits text) (is_numeral 16 text) e)))

-- four digits write no more than FFFF
pub four_digits : (text : Text) → length text ≤ 4 → AllDigits 16 text → digits_value 16 text < 2 ^ 16
four_digits [] e h = omega arith
four_digits (a ∷ []) e h = omega (arith, h.0)
four_digits (a ∷ b ∷ []) e h = omega (arith, h.0, h.1.0)
four_digits (a ∷ b ∷ d ∷ []) e h = omega (arith, h.0, h.1.0, h.1.1.0)
four_digits (a ∷ b ∷ d ∷ f ∷ []) e h = omega (arith, h.0, h.1.0, h.1.1.0, h.1.1.1.0)
four_digits (a ∷ b ∷ d ∷ f ∷ g ∷ ds) e h = absurd (omega arith)
