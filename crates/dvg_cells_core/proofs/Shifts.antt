-- Moves of the beam: the cells' sums are those of the definition.
use Rattle.std.proofs.Common.{◌≡◌, ℕ, zero, suc, ◌+◌, ◌-◌, ◌*◌, ◌%◌, ◌<◌, ◌≤◌, false, [], ◌∷◌, inl, inr, refl, ap, ◌∙◌, arith}
use Rattle.std.proofs.lemmas.Bool.{cases_lt, lt-ltb, le-ltb, le-leb, lt-leb, ne_eqb}
use Rattle.std.specs.Prelude.{nat_eq, if◌then◌else◌, ◌⊎◌}
use Rattle.dvg_code.specs.Fields.{signed}
use Rattle.dvg_gen.specs.declared.beam.Beam.{Beam}
use Rattle.dvg_gen.specs.Drawing.{unit, shifted, line}
use Rattle.dvg_cells_core.specs.Cells.{add, sub, shl, mux, lt, bit, some}

-- how far, as the cells have it
abbrev pub way : ℕ → ℕ → ℕ
way size sum = mux (lt sum 10) (shl 21 size sum) 0

abbrev pub shift : ℕ → ℕ → ℕ → ℕ → ℕ
shift from sign size sum = mux sign (sub 21 from (way size sum)) (add 21 from (way size sum))

-- it is the product, modulo 2,097,152
way_is : (sum size : ℕ) → way size sum ≡ size * unit sum % 2097152
way_is sum size = by (cases_lt sum 10)
  where
    by : (sum < 10) ⊎ (10 ≤ sum) → way size sum ≡ size * unit sum % 2097152
    by (inl less) = rw (lt-ltb sum 10 less, le-leb sum 9 (omega arith))
    by (inr over) = rw (le-ltb sum 10 over, lt-leb sum 9 (omega arith)) (omega arith)

moved_up : (from t : ℕ) → (from + t % 2097152) % 2097152 ≡ (from + t) % 2097152
moved_up from t = omega arith

none_moved : (from u : ℕ) → from < 2097152 → (from + (2097152 - 0 * u % 2097152)) % 2097152 ≡ (from + 0 * u) % 2097152
none_moved from u h = omega arith

pub shift_is : (from sign size sum : ℕ) → from < 2097152 → sign < 2 → sum < 16
    → shift from sign size sum ≡ shifted from (signed sign size) (unit sum)
shift_is from zero size sum inside bit small =
    ap (λ w. (from + w) % 2097152) (way_is sum size) ∙ moved_up from (size * unit sum)
shift_is from (suc zero) zero sum inside bit small =
    ap (λ w. (from + (2097152 - w)) % 2097152) (way_is sum 0) ∙ none_moved from (unit sum) inside
shift_is from (suc zero) (suc size) sum inside bit small =
    ap (λ w. (from + (2097152 - w)) % 2097152) (way_is sum (suc size))
shift_is from (suc (suc n)) size sum inside bit small = absurd (omega arith)

-- the stroke that is shown is the one that is drawn
pub line_is : (from to : Beam) (z : ℕ)
    → (if nat_eq (some z) 0 then [] else record { x0 = from.x; y0 = from.y; x1 = to.x; y1 = to.y; z = z } ∷ []) ≡ line from to z
line_is from to zero = refl
line_is from to (suc z) =
    let not_zero : nat_eq (suc z) 0 ≡ false = ne_eqb (suc z) 0 (λ e. absurd (omega arith)) in
    rw not_zero refl

-- SVEC: a magnitude of 256 times as much
negative : (from n u : ℕ) → 1 ≤ n → shifted from (signed 1 n) u ≡ (from + (2097152 - n * u % 2097152)) % 2097152
negative from zero u some = absurd (omega arith)
negative from (suc n) u some = refl

times : (m u : ℕ) → (0 + 256 * m) * u ≡ m * (256 * u)
times m u = omega arith

pub hop_is : (from sign size u : ℕ) → sign < 2
    → shifted from (signed sign (0 + 256 * size)) u ≡ shifted from (signed sign size) (256 * u)
hop_is from zero size u bit = ap (λ w. (from + w) % 2097152) (times size u)
hop_is from (suc zero) zero u bit = ap (λ w. (from + w) % 2097152) (times 0 u)
hop_is from (suc zero) (suc size) u bit = negative from (0 + 256 * suc size) u (omega arith)
    ∙ ap (λ w. (from + (2097152 - w % 2097152)) % 2097152) (times (suc size) u)
hop_is from (suc (suc n)) size u bit = absurd (omega arith)
