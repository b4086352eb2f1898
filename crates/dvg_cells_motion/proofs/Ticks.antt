-- How many pulses came before a count, in numbers.
use Rattle.std.proofs.Common.{◌≡◌, ℕ, zero, suc, ◌+◌, ◌*◌, ◌/◌, ◌%◌, ◌^◌, ◌<◌, List, [], ◌∷◌, refl, sym, ap, ◌∙◌, arith}
use Rattle.std.proofs.Math.Nat.{div-one}
use Rattle.std.proofs.lemmas.Nat.{shr-shr}
use Rattle.dvg_gen.specs.Counting.{whole}
use Rattle.dvg_cells_core.specs.Cells.{mux, part}
use Rattle.dvg_cells_motion.specs.Pulses.{pulse, pulses}

-- the bits of a rate, the highest first
abbrev bits : ℕ → List ℕ
bits rate =
    part 9 1 rate ∷ part 8 1 rate ∷ part 7 1 rate ∷ part 6 1 rate ∷ part 5 1 rate ∷ part 4 1 rate ∷ part 3 1 rate
    ∷ part 2 1 rate ∷ part 1 1 rate ∷ part 0 1 rate ∷ []

-- which of these a count lets through: its lowest bit that is 0, from this one on, selects it
abbrev chosen : ℕ → List ℕ → ℕ → ℕ
chosen from [] count = 0
chosen from (b ∷ rest) count = mux (part from 1 count) (chosen (from + 1) rest count) b

-- the same, by halves of the count
abbrev let_through : List ℕ → ℕ → ℕ
let_through [] count = 0
let_through (b ∷ rest) count = mux (count % 2) (let_through rest (count / 2)) b

-- how many of these were let through before a count
abbrev given : List ℕ → ℕ → ℕ
given [] count = 0
given (b ∷ rest) count = b * ((count + 1) / 2) + given rest (count / 2)

by_halves : (from : ℕ) (bs : List ℕ) (count : ℕ) → chosen from bs count ≡ let_through bs (count / 2 ^ from)
by_halves from [] count = refl
by_halves from (b ∷ rest) count = rw (by_halves (from + 1) rest count, ← shr-shr count from 1) refl

one_more : (bs : List ℕ) (count : ℕ) → given bs (suc count) ≡ given bs count + let_through bs count
one_more [] count = refl
one_more (b ∷ rest) count = by (count % 2) refl (one_more rest (count / 2))
  where
    by : (s : ℕ) → count % 2 ≡ s → given rest (suc (count / 2)) ≡ given rest (count / 2) + let_through rest (count / 2)
        → given (b ∷ rest) (suc count) ≡ given (b ∷ rest) count + mux s (let_through rest (count / 2)) b
    by zero e before =
        let more : (suc count + 1) / 2 ≡ suc ((count + 1) / 2) = omega arith in
        let same : suc count / 2 ≡ count / 2 = omega arith in
        rw (more, same) (omega arith)
    by (suc zero) e before =
        let same : (suc count + 1) / 2 ≡ (count + 1) / 2 = omega arith in
        let more : suc count / 2 ≡ suc (count / 2) = omega arith in
        rw (same, more, before) (omega arith)
    by (suc (suc n)) e before = absurd (omega arith)

none_yet : (bs : List ℕ) → given bs 0 ≡ 0
none_yet [] = refl
none_yet (b ∷ rest) = rw (none_yet rest) (omega arith)

pulses_are_given : (rate count : ℕ) → pulses rate count ≡ given (bits rate) count
pulses_are_given rate zero = sym (none_yet (bits rate))
pulses_are_given rate (suc count) =
    ap (λ n. n + pulse rate count) (pulses_are_given rate count)
    ∙ ap (λ n. given (bits rate) count + n) (by_halves 0 (bits rate) count ∙ ap (let_through (bits rate)) (div-one count))
    ∙ sym (one_more (bits rate) count)

pub pulses_are : (rate scale : ℕ) → rate < 1024 → scale < 10 → pulses rate (2 * 2 ^ scale) ≡ whole (rate * 2 ^ scale)
pulses_are rate zero h k = pulses_are_given rate 2 ∙ (omega arith)
pulses_are rate (suc zero) h k = pulses_are_given rate 4 ∙ (omega arith)
pulses_are rate (suc (suc zero)) h k = pulses_are_given rate 8 ∙ (omega arith)
pulses_are rate (suc (suc (suc zero))) h k = pulses_are_given rate 16 ∙ (omega arith)
pulses_are rate (suc (suc (suc (suc zero)))) h k = pulses_are_given rate 32 ∙ (omega arith)
pulses_are rate (suc (suc (suc (suc (suc zero))))) h k = pulses_are_given rate 64 ∙ (omega arith)
pulses_are rate (suc (suc (suc (suc (suc (suc zero)))))) h k = pulses_are_given rate 128 ∙ (omega arith)
pulses_are rate (suc (suc (suc (suc (suc (suc (suc zero))))))) h k = pulses_are_given rate 256 ∙ (omega arith)
pulses_are rate (suc (suc (suc (suc (suc (suc (suc (suc zero)))))))) h k = pulses_are_given rate 512 ∙ (omega arith)
pulses_are rate (suc (suc (suc (suc (suc (suc (suc (suc (suc zero))))))))) h k = pulses_are_given rate 1024 ∙ (omega arith)
pulses_are rate (suc (suc (suc (suc (suc (suc (suc (suc (suc (suc n)))))))))) h k = absurd (omega arith)
