-- What the line of a stroke ends with.
use Rattle.std.proofs.Common.{◌≡◌, ℕ, zero, suc, ◌+◌, ◌-◌, ◌*◌, ◌/◌, ◌%◌, ◌^◌, ◌<◌, ◌≤◌, Bool, true, ◌&&◌, eqb}
use Rattle.std.proofs.Common.{List, [], ◌∷◌}
use Rattle.std.proofs.Common.{◌++◌, get_or, decimal, refl, sym, ap, ◌∙◌, inl, inr, arith, eq-zero-or-pos}
use Rattle.std.specs.Int.{to_le_bytes, w32}
use Rattle.std.proofs.lemmas.Bool.{and_parts, eqb-true}
use Rattle.std.proofs.lemmas.Fmt.{decimal_digit}
use Rattle.itoa.proofs.Decimal.{decimal_two}
use Rattle.dvg_print.specs.Lines.{spaced}
use Rattle.dvg_print.specs.declared.stroke_lines.TheConstants.{ENDS}

-- from this entry of the table on: this number, and one more in its third byte each time
abbrev goes_on : ℕ → ℕ → ℕ → Bool
goes_on from first zero = true
goes_on from first (suc n) = eqb (get_or ENDS (from + n) 0) (first + n * 2 ^ 16) && goes_on from first n

entry_below : (from first n k : ℕ) → goes_on from first n ≡ true → k < n → get_or ENDS (from + k) 0 ≡ first + k * 2 ^ 16
entry_below from first zero k goes low = absurd (omega arith)
entry_below from first (suc n) k goes low =
    let both = and_parts (eqb (get_or ENDS (from + n) 0) (first + n * 2 ^ 16)) (goes_on from first n) goes in
    elim (eq-zero-or-pos (n - k)) [
      | inl none ↦ let is : k ≡ n = omega arith in
          rw is (eqb-true (get_or ENDS (from + n) 0) (first + n * 2 ^ 16) both.0)
      | inr some ↦ entry_below from first n k both.1 (omega arith)
    ]

-- four bytes, the third of which is counted up
bytes_of : (a b c d k entry : ℕ) → a < 256 → b < 256 → c + k < 256 → d < 256
    → entry ≡ a + b * 2 ^ 8 + c * 2 ^ 16 + d * 2 ^ 24 + k * 2 ^ 16
    → to_le_bytes w32 entry ≡ a ∷ b ∷ (c + k) ∷ d ∷ []
bytes_of a b c d k entry al bl cl dl is =
    let b0 : entry % 256 ≡ a = omega arith in
    let b1 : entry / 256 ^ 1 % 256 ≡ b = omega arith in
    let b2 : entry / 256 ^ 2 % 256 ≡ c + k = omega arith in
    let b3 : entry / 256 ^ 3 % 256 ≡ d = omega arith in
    λ i. b0 i ∷ b1 i ∷ b2 i ∷ b3 i ∷ []

-- one digit, after a byte that doesn't count
pub short_end : (z : ℕ) → z < 10 → to_le_bytes w32 (get_or ENDS z 0) ≡ 48 ∷ 32 ∷ (48 + z) ∷ 10 ∷ []
short_end z low =
    let same : z ≡ 0 + z = omega arith in
    let entry : get_or ENDS z 0 ≡ 0x0A302030 + z * 2 ^ 16 =
    ap (λ n. get_or ENDS n 0) same ∙ entry_below 0 0x0A302030 10 z refl low in
    bytes_of 48 32 48 10 z (get_or ENDS z 0) (omega arith) (omega arith) (omega arith) (omega arith)
    (omega (arith, entry))

-- two digits
pub long_end : (z : ℕ) → 10 ≤ z → z < 16 → to_le_bytes w32 (get_or ENDS z 0) ≡ 32 ∷ 49 ∷ (48 + (z - 10)) ∷ 10 ∷ []
long_end z high low =
    let same : z ≡ 10 + (z - 10) = omega arith in
    let entry : get_or ENDS z 0 ≡ 0x0A303120 + (z - 10) * 2 ^ 16 =
    ap (λ n. get_or ENDS n 0) same ∙ entry_below 10 0x0A303120 6 (z - 10) refl (omega arith) in
    bytes_of 32 49 48 10 (z - 10) (get_or ENDS z 0) (omega arith) (omega arith) (omega arith) (omega arith)
    (omega (arith, entry))

pub short_text : (z : ℕ) (rest : List ℕ) → z < 10 → 32 ∷ (48 + z) ∷ 10 ∷ rest ≡ spaced (decimal z ∷ []) ++ 10 ∷ rest
short_text z rest low = ap (λ text. spaced (text ∷ []) ++ 10 ∷ rest) (sym (decimal_digit z low))

pub long_text : (z : ℕ) (rest : List ℕ) → 10 ≤ z → z < 16
    → 32 ∷ 49 ∷ (48 + (z - 10)) ∷ 10 ∷ rest ≡ spaced (decimal z ∷ []) ++ 10 ∷ rest
long_text z rest high low =
    let one : 49 ≡ 48 + z / 10 = omega arith in
    let last : 48 + (z - 10) ≡ 48 + z % 10 = omega arith in
    (λ i. 32 ∷ one i ∷ last i ∷ 10 ∷ rest)
    ∙ ap (λ text. spaced (text ∷ []) ++ 10 ∷ rest) (sym (decimal_two z high (omega arith)))
