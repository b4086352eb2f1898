-- How many digits a number has, by how many bits it has.
use Rattle.std.proofs.Common.{◌≡◌, ℕ, zero, suc, ◌+◌, ◌-◌, ◌*◌, ◌/◌, ◌%◌, ◌^◌, ◌<◌, ◌≤◌, Bool, true, ◌&&◌, ◌||◌}
use Rattle.std.proofs.Common.{◌⊎◌, inl, inr, ⊎_elim, eqb, leb, [], ◌∷◌, length, get_or, decimal, refl, ap, ◌∙◌, subst}
use Rattle.std.proofs.Common.{arith, eq-zero-or-pos}
use Rattle.std.proofs.Common.{length-append}
use lib.Count.{count_leading_zeros}
use Rattle.std.proofs.Math.Nat.{one-le-pow, pow-le-pow_right, pow-suc}
use Rattle.std.proofs.lemmas.Bool.{and_parts, cases_lt, eqb-true, leb-true, or_cases}
use Rattle.std.proofs.lemmas.Fmt.{decimal_nonempty, decimal_step, length-decimal-le}
use Rattle.std.proofs.lemmas.Nat.{leading_length}
use Rattle.dvg_print.specs.declared.eight_digits.TheConstants.{COUNTS}

-- a number from 10 ^ k on has more than k digits
more_digits : (k n : ℕ) → n < 2 ^ 64 → 10 ^ k ≤ n → k < length (decimal n)
more_digits zero n small some = decimal_nonempty n small
more_digits (suc k) n small high =
    let power : 10 ^ suc k ≡ 10 ^ k * 10 = pow-suc 10 k in
    let one : 1 ≤ 10 ^ k = one-le-pow k 10 (omega arith) in
    let step = ap length (decimal_step n (omega (arith, high, power, one)) small)
    ∙ length-append (decimal (n / 10)) ((48 + n % 10) ∷ []) in
    let shorter = more_digits k (n / 10) (omega arith) (omega (arith, high, power)) in
    omega (arith, step, shorter)

-- what the table has for a count of bits
abbrev added : ℕ → ℕ
added bits = get_or COUNTS (32 - bits) 0

-- the digits of the least such number
abbrev least : ℕ → ℕ
least bits = added bits / 2 ^ 32

-- what the table has makes that one more from a power of ten on
abbrev sums : ℕ → Bool
sums bits = eqb (added bits + 10 ^ least bits) ((least bits + 1) * 2 ^ 32)

abbrev is_power : ℕ → Bool
is_power bits = leb 1 (least bits) && leb (10 ^ least bits) (2 ^ 32)

-- no such number has fewer digits, and none has more than one more
abbrev begins : ℕ → Bool
begins bits = eqb (least bits) 1 || leb (2 * 10 ^ (least bits - 1)) (2 ^ bits)

abbrev ends : ℕ → Bool
ends bits = leb (2 ^ bits) (10 ^ (least bits + 1))

abbrev fits : ℕ → Bool
fits bits = (sums bits && is_power bits) && (begins bits && ends bits)

abbrev all_fit : ℕ → Bool
all_fit zero = true
all_fit (suc bits) = fits bits && all_fit bits

fits_below : (n bits : ℕ) → all_fit n ≡ true → bits < n → fits bits ≡ true
fits_below zero bits has low = absurd (omega arith)
fits_below (suc n) bits has low =
    elim (eq-zero-or-pos (n - bits)) [
      | inl none ↦ let is : bits ≡ n = omega arith in rw is (and_parts (fits n) (all_fit n) has).0
      | inr some ↦ fits_below n bits (and_parts (fits n) (all_fit n) has).1 (omega arith)
    ]

-- a number below 100,000,000 has fewer than 28 bits
few_bits : (n bits : ℕ) → n < 100000000 → 2 ^ bits ≤ 2 * n + 1 → bits < 28
few_bits n bits small low = ⊎_elim (λ few. few) many (cases_lt bits 28)
  where
    many : 28 ≤ bits → bits < 28
    many above =
        let power : 2 ^ 28 ≤ 2 ^ bits = pow-le-pow_right (omega arith) above in
        absurd (omega (arith, power, low, small))

-- the count of a number of so many bits, by what its table entry is
count_by : (n bits d entry power : ℕ) → n < 100000000 → n < 2 ^ bits → 2 ^ bits ≤ 2 * n + 1 → power ≡ 10 ^ d
    → entry + power ≡ (d + 1) * 2 ^ 32 → 1 ≤ d → power ≤ 2 ^ 32
    → (d ≡ 1) ⊎ (2 * 10 ^ (d - 1) ≤ 2 ^ bits) → 2 ^ bits ≤ 10 ^ (d + 1)
    → (n + entry) / 2 ^ 32 ≡ length (decimal n)
count_by n bits d entry power small high low is sum some room first last = ⊎_elim short long (cases_lt n power)
  where
    begins : d ≤ length (decimal n)
    begins = ⊎_elim one more first
      where
        one : d ≡ 1 → d ≤ length (decimal n)
        one single = omega (arith, single, decimal_nonempty n (omega (arith, small)))

        more : 2 * 10 ^ (d - 1) ≤ 2 ^ bits → d ≤ length (decimal n)
        more from =
            let above = more_digits (d - 1) n (omega (arith, small)) (omega (arith, from, low)) in
            omega (arith, above, some)

    short : n < power → (n + entry) / 2 ^ 32 ≡ length (decimal n)
    short below =
        let few = length-decimal-le d n some (subst (λ p. n < p) is below) (omega (arith, small)) in
        let value : (n + entry) / 2 ^ 32 ≡ d = omega (arith, below, sum, room) in
        omega (arith, few, begins, value)

    long : power ≤ n → (n + entry) / 2 ^ 32 ≡ length (decimal n)
    long above =
        let more = more_digits d n (omega (arith, small)) (subst (λ p. p ≤ n) is above) in
        let few = length-decimal-le (d + 1) n (omega arith) (omega (arith, high, last)) (omega (arith, small)) in
        let value : (n + entry) / 2 ^ 32 ≡ d + 1 = omega (arith, above, sum, small) in
        omega (arith, few, more, value)

-- the count of a number, by how many of its 32 bits are zeros before the first one
pub counted : (n zeros : ℕ) → n < 100000000 → zeros ≡ count_leading_zeros 32 n
    → (n + get_or COUNTS zeros 0) / 2 ^ 32 ≡ length (decimal n)
counted n zeros small is =
    let (bits, all, high, low) = leading_length 32 n (omega (arith, small)) in
    let here : zeros ≡ 32 - bits = omega (arith, is, all) in
    let fit = fits_below 28 bits refl (few_bits n bits small low) in
    let d = least bits in
    let (left, right) = and_parts (sums bits && is_power bits) (begins bits && ends bits) fit in
    let (sum, power) = and_parts (sums bits) (is_power bits) left in
    let (some, room) = and_parts (leb 1 d) (leb (10 ^ d) (2 ^ 32)) power in
    let (first, last) = and_parts (begins bits) (ends bits) right in
    let from = either d bits (or_cases (eqb d 1) (leb (2 * 10 ^ (d - 1)) (2 ^ bits)) first) in
    rw here (
    count_by n bits d (added bits) (10 ^ d) small high low refl (eqb-true _ _ sum) (leb-true _ _ some)
    (leb-true _ _ room) from (leb-true _ _ last)
    )
  where
    either : (d bits : ℕ) → (eqb d 1 ≡ true) ⊎ (leb (2 * 10 ^ (d - 1)) (2 ^ bits) ≡ true)
        → (d ≡ 1) ⊎ (2 * 10 ^ (d - 1) ≤ 2 ^ bits)
    either d bits (inl one) = inl (eqb-true _ _ one)
    either d bits (inr more) = inr (leb-true _ _ more)

-- no entry is great
abbrev all_low : ℕ → Bool
all_low zero = true
all_low (suc n) = leb (get_or COUNTS n 0) (2 ^ 36) && all_low n

low_below : (n place : ℕ) → all_low n ≡ true → place < n → get_or COUNTS place 0 ≤ 2 ^ 36
low_below zero place has low = absurd (omega arith)
low_below (suc n) place has low =
    let both = and_parts (leb (get_or COUNTS n 0) (2 ^ 36)) (all_low n) has in
    elim (eq-zero-or-pos (n - place)) [
      | inl none ↦ let is : place ≡ n = omega arith in rw is (leb-true (get_or COUNTS n 0) (2 ^ 36) both.0)
      | inr some ↦ low_below n place both.1 (omega arith)
    ]

pub entry_low : (place : ℕ) → place < 33 → get_or COUNTS place 0 ≤ 2 ^ 36
entry_low place low = low_below 33 place refl low
