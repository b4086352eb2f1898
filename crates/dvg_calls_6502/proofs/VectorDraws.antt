-- A short vector draws what the long one draws.
use Rattle.std.proofs.Common.{◌≡◌, ℕ, suc, ◌+◌, ◌-◌, ◌*◌, ◌/◌, ◌%◌, ◌≤◌, Bool, true, false, refl, sym, ap, ◌∙◌, arith}
use Rattle.std.proofs.Common.{eqb-true, leb-true}
use Rattle.std.proofs.Math.Nat.{mul_assoc}
use Rattle.std.specs.Prelude.{nat_eq, nat_le, ◌&&◌, if◌then◌else◌, ℤ, pos, negsuc, unsigned_abs}
use Rattle.dvg_code.specs.declared.instr.Instr.{Instr}
use Rattle.dvg_code.specs.declared.instr.Instr.TheVariants.{Vctr, Svec}
use Rattle.dvg_code.specs.Ranges.{InRange}
use Rattle.dvg_gen.specs.declared.beam.Beam.{Beam}
use Rattle.dvg_gen.specs.Drawing.{moved, drawn, shifted, unit, line}
use Rattle.dvg_calls_6502.specs.Moves.{is_vector, is_short, in_256s, vector, VectorDraws}
use Rattle.dvg_calls_6502.proofs.Memory.{both_true}

-- a number of 256s is as many times 256
times : (n u : ℕ) → n % 256 ≡ 0 → n / 256 * (256 * u) ≡ n * u
times n u whole =
    let k = n / 256 in
    let n_is : k * 256 ≡ n = omega (arith, whole) in
    sym (mul_assoc k 256 u) ∙ ap (λ m. m * u) n_is

shifted_same : (from : ℕ) (d : ℤ) (u : ℕ) → unsigned_abs d % 256 ≡ 0 → shifted from (in_256s d) (256 * u) ≡ shifted from d u
shifted_same from (pos n) u whole = ap (λ k. (from + k) % 2097152) (times n u whole)
shifted_same from (negsuc n) u whole =
    let up : suc (n / 256) ≡ suc n / 256 = omega (arith, whole) in
    ap (λ k. (from + (2097152 - k * (256 * u) % 2097152)) % 2097152) up
    ∙ ap (λ k. (from + (2097152 - k % 2097152)) % 2097152) (times (suc n) u whole)

small : (d : ℤ) → unsigned_abs d ≤ 1023 → unsigned_abs d % 256 ≡ 0 → unsigned_abs (in_256s d) ≤ 3
small (pos n) less whole = omega (arith, less)
small (negsuc n) less whole = omega (arith, less, whole)

module _ (scale : ℕ) (dx dy : ℤ) (z : ℕ) (is : is_vector scale dx dy ≡ true) (z_small : z ≤ 15) where
  abbrev fits : (nat_le scale 9 ≡ true) × ((nat_le (unsigned_abs dx) 1023 && nat_le (unsigned_abs dy) 1023) ≡ true)
  fits = both_true (nat_le scale 9) _ is

  abbrev moves : (nat_le (unsigned_abs dx) 1023 ≡ true) × (nat_le (unsigned_abs dy) 1023 ≡ true)
  moves = both_true (nat_le (unsigned_abs dx) 1023) (nat_le (unsigned_abs dy) 1023) fits.1

  abbrev Same : Instr → Type 0
  Same instr = InRange instr × ((beam : Beam) → (moved beam instr ≡ moved beam (Vctr scale dx dy z))
      × (drawn beam instr ≡ drawn beam (Vctr scale dx dy z)))

  range : InRange (Vctr scale dx dy z)
  range = (
    leb-true scale 9 fits.0,
    leb-true (unsigned_abs dx) 1023 moves.0,
    leb-true (unsigned_abs dy) 1023 moves.1,
    z_small,
  )

  long : Same (Vctr scale dx dy z)
  long = (range, λ beam. (refl, refl))

  short : is_short scale dx dy ≡ true → Same (Svec scale (in_256s dx) (in_256s dy) z)
  short so =
      let two = both_true (nat_eq (unsigned_abs dy % 256) 0 && nat_eq (unsigned_abs dx % 256) 0) _ so in
      let whole = both_true (nat_eq (unsigned_abs dy % 256) 0) (nat_eq (unsigned_abs dx % 256) 0) two.0 in
      let scales = both_true (nat_le 2 scale) (nat_le scale 5) two.1 in
      let y = eqb-true (unsigned_abs dy % 256) 0 whole.0 in
      let x = eqb-true (unsigned_abs dx % 256) 0 whole.1 in (
        (
          leb-true 2 scale scales.0,
          leb-true scale 5 scales.1,
          small dx (leb-true (unsigned_abs dx) 1023 moves.0) x,
          small dy (leb-true (unsigned_abs dy) 1023 moves.1) y,
          z_small,
        ),
        λ beam. (at beam x y, ap (λ to. line beam to z) (at beam x y)),
      )
    where
      at : (beam : Beam) → unsigned_abs dx % 256 ≡ 0 → unsigned_abs dy % 256 ≡ 0
          → moved beam (Svec scale (in_256s dx) (in_256s dy) z) ≡ moved beam (Vctr scale dx dy z)
      at beam x y =
          let u = unit ((beam.scale + scale) % 16) in
          ap (λ k. record { x = k; y = shifted beam.y (in_256s dy) (256 * u); scale = beam.scale })
          (shifted_same beam.x dx u x)
          ∙ ap (λ k. record { x = shifted beam.x dx u; y = k; scale = beam.scale }) (shifted_same beam.y dy u y)

  either : (t : Bool) → is_short scale dx dy ≡ t
      → Same (if t then Svec scale (in_256s dx) (in_256s dy) z else Vctr scale dx dy z)
  either true so = short so
  either false so = long

  same : Same (vector scale dx dy z)
  same = either (is_short scale dx dy) refl

pub vector_draws : VectorDraws
vector_draws scale dx dy z is z_small = same scale dx dy z is z_small
