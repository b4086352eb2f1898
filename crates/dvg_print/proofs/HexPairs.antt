-- The two hexadecimal digits of each byte.
use Rattle.std.proofs.Common.{◌≡◌, ℕ, zero, suc, ◌+◌, ◌-◌, ◌*◌, ◌/◌, ◌%◌, ◌<◌, Bool, true, ◌&&◌, T, eqb, [], ◌∷◌}
use Rattle.std.proofs.Common.{get_or, inl, inr, arith, eq-zero-or-pos, eqb→eq}
use Rattle.std.specs.Fmt.{digit_glyph}
use lib.Ieee.Fits.{and_l, and_r}
use Rattle.dvg_print.specs.Lines.{hex_2}
use Rattle.dvg_print.specs.declared.line.TheConstants.{PAIRS}

-- the table has the two digits of each byte below n
abbrev has_pairs : ℕ → Bool
has_pairs zero = true
has_pairs (suc n) =
    (eqb (get_or PAIRS (2 * n) 0) (digit_glyph true (n / 16 % 16))
    && eqb (get_or PAIRS (2 * n + 1) 0) (digit_glyph true (n % 16)))
    && has_pairs n

pair_below : (n byte : ℕ) → T (has_pairs n) → byte < n
    → get_or PAIRS (2 * byte) 0 ∷ get_or PAIRS (2 * byte + 1) 0 ∷ [] ≡ hex_2 byte
pair_below zero byte has low = absurd (omega arith)
pair_below (suc n) byte has low =
    elim (eq-zero-or-pos (n - byte)) [
      | inl none ↦ let is : byte ≡ n = omega arith in let here = and_l _ (has_pairs n) has in
          let first = eqb→eq _ _ (and_l _ _ here) in
          let last = eqb→eq _ _ (and_r _ _ here) in
          rw is (λ i. first i ∷ last i ∷ [])
      | inr some ↦ pair_below n byte (and_r _ (has_pairs n) has) (omega arith)
    ]

pub pair_at : (byte : ℕ) → byte < 256 → get_or PAIRS (2 * byte) 0 ∷ get_or PAIRS (2 * byte + 1) 0 ∷ [] ≡ hex_2 byte
pair_at byte low = pair_below 256 byte tt low
