-- The eight digits of a number below 100,000,000, by the two in each quarter of its bits.
use Rattle.std.proofs.Common.{◌≡◌, ℕ, zero, suc, ◌+◌, ◌-◌, ◌*◌, ◌/◌, ◌%◌, ◌^◌, ◌<◌, ◌≤◌, List, [], ◌∷◌, ◌++◌, length}
use Rattle.std.proofs.Common.{drop, decimal, bit_and, refl, sym, ap, ◌∙◌, ⊎_elim, arith}
use Rattle.std.proofs.Common.{length-append}
use Rattle.std.specs.Int.{to_le_bytes, w64}
use Rattle.std.proofs.lemmas.Bool.{cases_lt}
use Rattle.std.proofs.lemmas.Fmt.{decimal_digit, decimal_step}
use Rattle.std.proofs.lemmas.List.{drop-append-le, drop_at}
use Rattle.std.proofs.lemmas.Nat.{and_mask, and_mod, and_shr, shr_split}
use Rattle.dvg_print.specs.Numbering.{padded}

-- the lower bits and the upper bits under a mask
and_split : (x m k : ℕ) → bit_and x m ≡ bit_and (x / 2 ^ k) (m / 2 ^ k) * 2 ^ k + bit_and (x % 2 ^ k) (m % 2 ^ k)
and_split x m k =
    sym (shr_split (bit_and x m) k)
    ∙ ap (λ u. u * 2 ^ k + bit_and x m % 2 ^ k) (and_shr x m k)
    ∙ ap (λ r. bit_and (x / 2 ^ k) (m / 2 ^ k) * 2 ^ k + r) (and_mod x m k)

-- the hundreds of four digits in each half
pub hundreds_are : (a b : ℕ) → a < 10000 → b < 10000
    → bit_and ((a + b * 2 ^ 32) * 10486 / 2 ^ 20) 0x7F0000007F ≡ a / 100 + b / 100 * 2 ^ 32
hundreds_are a b low high =
    let x = (a + b * 2 ^ 32) * 10486 / 2 ^ 20 in
    let first : x % 2 ^ 32 % 2 ^ 7 ≡ a / 100 = omega arith in
    let last : x / 2 ^ 32 % 2 ^ 7 ≡ b / 100 = omega arith in
    let upper = bit_and (x / 2 ^ 32) 127 in
    let lower = bit_and (x % 2 ^ 32) 127 in
    let split : bit_and x 0x7F0000007F ≡ upper * 2 ^ 32 + lower = and_split x 0x7F0000007F 32 in
    split
    ∙ ap (λ u. u * 2 ^ 32 + lower) (and_mask (x / 2 ^ 32) 7 ∙ last)
    ∙ ap (λ r. b / 100 * 2 ^ 32 + r) (and_mask (x % 2 ^ 32) 7 ∙ first)
    ∙ omega arith

-- the tens of two digits in the lowest quarter, and what is above it
lane : (p rest m : ℕ) → p < 100
    → bit_and ((p + rest * 2 ^ 16) * 103 / 2 ^ 10) (15 + m * 2 ^ 16)
    ≡ p / 10 + bit_and (rest * 103 / 2 ^ 10) m * 2 ^ 16
lane p rest m low =
    let x = (p + rest * 2 ^ 16) * 103 / 2 ^ 10 in
    let mask = 15 + m * 2 ^ 16 in
    let here : mask % 2 ^ 16 ≡ 15 = omega arith in
    let more : mask / 2 ^ 16 ≡ m = omega arith in
    let digit : x % 2 ^ 16 % 2 ^ 4 ≡ p / 10 = omega arith in
    let up : x / 2 ^ 16 ≡ rest * 103 / 2 ^ 10 = omega arith in
    and_split x mask 16
    ∙ ap (λ k. bit_and (x / 2 ^ 16) (mask / 2 ^ 16) * 2 ^ 16 + bit_and (x % 2 ^ 16) k) here
    ∙ ap (λ k. bit_and (x / 2 ^ 16) (mask / 2 ^ 16) * 2 ^ 16 + k) (and_mask (x % 2 ^ 16) 4 ∙ digit)
    ∙ ap (λ k. bit_and (x / 2 ^ 16) k * 2 ^ 16 + p / 10) more
    ∙ ap (λ k. bit_and k m * 2 ^ 16 + p / 10) up
    ∙ omega arith

-- the tens of two digits in each quarter
pub tens_are : (p q r s : ℕ) → p < 100 → q < 100 → r < 100 → s < 100
    → bit_and ((p + q * 2 ^ 16 + r * 2 ^ 32 + s * 2 ^ 48) * 103 / 2 ^ 10) 0x000F000F000F000F
    ≡ p / 10 + q / 10 * 2 ^ 16 + r / 10 * 2 ^ 32 + s / 10 * 2 ^ 48
tens_are p q r s p-low q-low r-low s-low =
    let s-on = s + 0 * 2 ^ 16 in
    let r-on = r + s-on * 2 ^ 16 in
    let q-on = q + r-on * 2 ^ 16 in
    let last = lane s 0 0 s-low in
    let third = lane r s-on 15 r-low in
    let second = lane q r-on (15 + 15 * 2 ^ 16) q-low in
    let first = lane p q-on (15 + (15 + 15 * 2 ^ 16) * 2 ^ 16) p-low in
    let nested : p + q * 2 ^ 16 + r * 2 ^ 32 + s * 2 ^ 48 ≡ p + q-on * 2 ^ 16 = omega arith in
    ap (λ x. bit_and (x * 103 / 2 ^ 10) 0x000F000F000F000F) nested
    ∙ first
    ∙ ap (λ x. p / 10 + x * 2 ^ 16) (
    second ∙ ap (λ x. q / 10 + x * 2 ^ 16) (third ∙ ap (λ x. r / 10 + x * 2 ^ 16) last)
    )
    ∙ omega arith

-- eight digits in the bytes of a number, the first one lowest
abbrev in_bytes : (a b c d e f g h : ℕ) → ℕ
in_bytes a b c d e f g h = a + b * 2 ^ 8 + c * 2 ^ 16 + d * 2 ^ 24 + e * 2 ^ 32 + f * 2 ^ 40 + g * 2 ^ 48 + h * 2 ^ 56

abbrev text : (a b c d e f g h : ℕ) → List ℕ
text a b c d e f g h = (48 + a) ∷ (48 + b) ∷ (48 + c) ∷ (48 + d) ∷ (48 + e) ∷ (48 + f) ∷ (48 + g) ∷ (48 + h) ∷ []

-- they become text
pub bytes_are : (a b c d e f g h : ℕ) → a < 10 → b < 10 → c < 10 → d < 10 → e < 10 → f < 10 → g < 10 → h < 10
    → to_le_bytes w64 (in_bytes a b c d e f g h + 0x3030303030303030)
    ≡ text a b c d e f g h
bytes_are a b c d e f g h al bl cl dl el fl gl hl =
    let n = in_bytes a b c d e f g h + 0x3030303030303030 in
    let b0 : n % 256 ≡ 48 + a = omega arith in
    let b1 : n / 256 ^ 1 % 256 ≡ 48 + b = omega arith in
    let b2 : n / 256 ^ 2 % 256 ≡ 48 + c = omega arith in
    let b3 : n / 256 ^ 3 % 256 ≡ 48 + d = omega arith in
    let b4 : n / 256 ^ 4 % 256 ≡ 48 + e = omega arith in
    let b5 : n / 256 ^ 5 % 256 ≡ 48 + f = omega arith in
    let b6 : n / 256 ^ 6 % 256 ≡ 48 + g = omega arith in
    let b7 : n / 256 ^ 7 % 256 ≡ 48 + h = omega arith in
    λ i. b0 i ∷ b1 i ∷ b2 i ∷ b3 i ∷ b4 i ∷ b5 i ∷ b6 i ∷ b7 i ∷ []

-- the hundreds of a number's halves
pub hundreds_of : (n halves : ℕ) → n < 100000000 → halves ≡ n / 10000 + n % 10000 * 2 ^ 32
    → bit_and (halves * 10486 / 2 ^ 20) 0x7F0000007F ≡ n / 1000000 + n / 100 % 100 * 2 ^ 32
hundreds_of n halves small is =
    let first : n / 10000 / 100 ≡ n / 1000000 = omega arith in
    let last : n % 10000 / 100 ≡ n / 100 % 100 = omega arith in
    ap (λ h. bit_and (h * 10486 / 2 ^ 20) 0x7F0000007F) is
    ∙ hundreds_are (n / 10000) (n % 10000) (omega arith) (omega arith)
    ∙ ap (λ h. h + n % 10000 / 100 * 2 ^ 32) first ∙ ap (λ h. n / 1000000 + h * 2 ^ 32) last

-- the tens of its quarters
pub tens_of : (n quarters : ℕ) → n < 100000000
    → quarters ≡ n / 1000000 + n / 10000 % 100 * 2 ^ 16 + n / 100 % 100 * 2 ^ 32 + n % 100 * 2 ^ 48
    → bit_and (quarters * 103 / 2 ^ 10) 0x000F000F000F000F
    ≡ n / 1000000 / 10 + n / 10000 % 100 / 10 * 2 ^ 16 + n / 100 % 100 / 10 * 2 ^ 32 + n % 100 / 10 * 2 ^ 48
tens_of n quarters small is =
    ap (λ q. bit_and (q * 103 / 2 ^ 10) 0x000F000F000F000F) is
    ∙ tens_are (n / 1000000) (n / 10000 % 100) (n / 100 % 100) (n % 100) (omega arith) (omega arith) (omega arith)
    (omega arith)

-- tens and ones in turn, by two digits in each quarter
pub in_turn : (p q r s quarters tens : ℕ) → quarters ≡ p + q * 2 ^ 16 + r * 2 ^ 32 + s * 2 ^ 48
    → tens ≡ p / 10 + q / 10 * 2 ^ 16 + r / 10 * 2 ^ 32 + s / 10 * 2 ^ 48
    → (10 * tens ≤ quarters) × (tens + (quarters - 10 * tens) * 256
    ≡ in_bytes (p / 10) (p % 10) (q / 10) (q % 10) (r / 10) (r % 10) (s / 10) (s % 10))
in_turn p q r s quarters tens is tens-are =
    let left : quarters ≡ 10 * tens + (p % 10 + q % 10 * 2 ^ 16 + r % 10 * 2 ^ 32 + s % 10 * 2 ^ 48) = omega arith in
    (omega (arith, left), omega (arith, left, tens-are))

pub text_of : (n quarters tens : ℕ) → n < 100000000
    → quarters ≡ n / 1000000 + n / 10000 % 100 * 2 ^ 16 + n / 100 % 100 * 2 ^ 32 + n % 100 * 2 ^ 48
    → tens ≡ n / 1000000 / 10 + n / 10000 % 100 / 10 * 2 ^ 16 + n / 100 % 100 / 10 * 2 ^ 32 + n % 100 / 10 * 2 ^ 48
    → to_le_bytes w64 (tens + (quarters - 10 * tens) * 256 + 0x3030303030303030) ≡ padded 8 n
text_of n quarters tens small is tens-are =
    let p = n / 1000000 in
    let q = n / 10000 % 100 in
    let r = n / 100 % 100 in
    let s = n % 100 in
    let turn = in_turn p q r s quarters tens is tens-are in
    let d0 : p / 10 ≡ n / 10 / 10 / 10 / 10 / 10 / 10 / 10 % 10 = omega arith in
    let d1 : p % 10 ≡ n / 10 / 10 / 10 / 10 / 10 / 10 % 10 = omega arith in
    let d2 : q / 10 ≡ n / 10 / 10 / 10 / 10 / 10 % 10 = omega arith in
    let d3 : q % 10 ≡ n / 10 / 10 / 10 / 10 % 10 = omega arith in
    let d4 : r / 10 ≡ n / 10 / 10 / 10 % 10 = omega arith in
    let d5 : r % 10 ≡ n / 10 / 10 % 10 = omega arith in
    let d6 : s / 10 ≡ n / 10 % 10 = omega arith in
    let d7 : s % 10 ≡ n % 10 = omega arith in
    ap (λ v. to_le_bytes w64 (v + 0x3030303030303030)) turn.1
    ∙ bytes_are (p / 10) (p % 10) (q / 10) (q % 10) (r / 10) (r % 10) (s / 10) (s % 10) (omega arith) (omega arith)
    (omega arith) (omega arith) (omega arith) (omega arith) (omega arith) (omega arith)
    ∙ (λ i. text (d0 i) (d1 i) (d2 i) (d3 i) (d4 i) (d5 i) (d6 i) (d7 i))

-- how many there are
pub length_padded : (k n : ℕ) → length (padded k n) ≡ k
length_padded zero n = refl
length_padded (suc k) n =
    length-append (padded k (n / 10)) ((48 + n % 10) ∷ [])
    ∙ ap (λ l. l + 1) (length_padded k (n / 10)) ∙ omega arith

-- without the zeros they are the number
pub padded_text : (k n : ℕ) → n < 2 ^ 64 → length (decimal n) ≤ k
    → drop (k - length (decimal n)) (padded k n) ≡ decimal n
padded_text zero n small few = absurd (⊎_elim short long (cases_lt n 10))
  where
    short : n < 10 → ⊥
    short low = let one = ap length (decimal_digit n low) in omega (arith, one, few)

    long : 10 ≤ n → ⊥
    long high =
        let more = ap length (decimal_step n high small) ∙ length-append (decimal (n / 10)) ((48 + n % 10) ∷ []) in
        omega (arith, more, few)
padded_text (suc k) n small few = ⊎_elim short (long (padded_text k (n / 10))) (cases_lt n 10)
  where
    last : List ℕ
    last = (48 + n % 10) ∷ []

    short : n < 10 → drop (suc k - length (decimal n)) (padded (suc k) n) ≡ decimal n
    short low =
        let one : length (decimal n) ≡ 1 = ap length (decimal_digit n low) in
        let less : suc k - length (decimal n) ≡ k = omega (arith, one) in
        let same : 48 + n % 10 ≡ 48 + n = omega arith in
        ap (λ l. drop l (padded k (n / 10) ++ last)) less
        ∙ drop_at (padded k (n / 10)) last k (length_padded k (n / 10))
        ∙ ap (λ x. x ∷ []) same ∙ sym (decimal_digit n low)

    long : (n / 10 < 2 ^ 64 → length (decimal (n / 10)) ≤ k
        → drop (k - length (decimal (n / 10))) (padded k (n / 10)) ≡ decimal (n / 10))
        → 10 ≤ n → drop (suc k - length (decimal n)) (padded (suc k) n) ≡ decimal n
    long shorter high =
        let step = decimal_step n high small in
        let front = decimal (n / 10) in
        let more : length (decimal n) ≡ length front + 1 = ap length step ∙ length-append front last in
        let less : suc k - length (decimal n) ≡ k - length front = omega (arith, more) in
        let size = length_padded k (n / 10) in
        ap (λ l. drop l (padded k (n / 10) ++ last)) less
        ∙ drop-append-le (k - length front) (padded k (n / 10)) last (omega (arith, size))
        ∙ ap (λ xs. xs ++ last) (shorter (omega arith) (omega (arith, more, few)))
        ∙ sym step
