-- Sums that the cells take in another order than the definition.
use Rattle.std.proofs.Common.{◌≡◌, ℕ, zero, suc, ◌+◌, ◌-◌, ◌*◌, ◌/◌, ◌%◌, ◌<◌, Bool, true, false, not, refl, sym, ap, ◌∙◌, arith}
use Rattle.std.proofs.Common.{inl, inr}
use Rattle.std.specs.Prelude.{nat_eq, nat_le, ◌&&◌, if◌then◌else◌}
use Rattle.std.proofs.lemmas.Bool.Decides.{leb_tells}
use Rattle.dvg_calls_6502.specs.Processor.{Cpu, bit_of, flags_byte, is_so, target, carried, borrowed}
use Rattle.dvg_cells_core.specs.Cells.{bit, both, eq, mux, none, some}
use Rattle.dvg_cells_cpu.specs.Cells.{ge}

pub bit_is : (b : Bool) → bit b ≡ bit_of b
bit_is true = refl
bit_is false = refl

pub flat : (d : ℕ) → d + 0 ≡ d
flat d = omega arith

-- the lower byte is all of it
pub whole : (d n : ℕ) → d / 1 % n ≡ d % n
whole d n = let e : d / 1 ≡ d = omega arith in ap (λ k. k % n) e

-- a bit is a flag
pub low_bit : (r : ℕ) → r < 2 → r ≡ bit (nat_eq r 1)
low_bit zero less = refl
low_bit (suc zero) less = refl
low_bit (suc (suc n)) less = absurd (omega arith)

-- and so is the lowest bit
pub lowest : (r : ℕ) → r / 1 % 2 ≡ bit (nat_eq (r % 2) 1)
lowest r = whole r 2 ∙ low_bit (r % 2) (omega arith)

pub zero_is : (r : ℕ) → none r ≡ bit (nat_eq r 0)
zero_is r = by (nat_eq r 0)
  where
    by : (b : Bool) → (if b then 1 else 0) ≡ bit b
    by true = refl
    by false = refl

pub zero_by : (r s : ℕ) → r ≡ s → none r ≡ bit (nat_eq s 0)
zero_by r s e = zero_is r ∙ ap (λ r. bit (nat_eq r 0)) e

pub minus_by : (r s : ℕ) → r ≡ s → bit (nat_le 128 r) ≡ bit (nat_le 128 s)
minus_by r s e = ap (λ r. bit (nat_le 128 r)) e

-- the two bytes of an address
pub rejoined : (p : ℕ) → p < 65536 → p / 1 % 256 + 256 * (p / 256 % 256) ≡ p
rejoined p less = let e : p / 1 ≡ p = omega arith in omega arith

pub differs : (r m : ℕ) → m < 256 → (r + (256 - m)) % 256 ≡ (r + 256 - m) % 256
differs r m less = let e : r + (256 - m) ≡ r + 256 - m = omega arith in ap (λ k. k % 256) e

pub doubled : (m : ℕ) → (m + m) % 256 ≡ 2 * m % 256
doubled m = let e : m + m ≡ 2 * m = omega arith in ap (λ k. k % 256) e

pub rolled_left : (m : ℕ) (c : Bool) → ((m + m) % 256 + bit c) % 256 ≡ (2 * m + bit_of c) % 256
rolled_left m true = omega arith
rolled_left m false = omega arith

pub halved : (m : ℕ) → m < 256 → m / 2 % 128 ≡ m / 2
halved m less = omega arith

pub rolled_right : (m : ℕ) (c : Bool) → m < 256 → m / 2 % 128 + 128 * bit c ≡ m / 2 + 128 * bit_of c
rolled_right m true less = omega arith
rolled_right m false less = omega arith

pub over_of : (m : ℕ) → bit (nat_le 64 (m / 1 % 128)) ≡ bit (nat_le 64 (m % 128))
over_of m = ap (λ k. bit (nat_le 64 k)) (whole m 128)

-- SBC adds the complement
pub complement : (m : ℕ) → m < 256 → (255 + (256 - m)) % 256 ≡ 255 - m
complement m less = omega arith

pub complement_in : (m : ℕ) → 255 - m < 256
complement_in m = omega arith

-- a sum with the carry, of `made`, which is m
pub add_result : (a m : ℕ) (c : Bool) (made : ℕ) → made ≡ m
    → ((a + made) % 512 + bit c) % 512 / 1 % 256 ≡ (a + m + bit_of c) % 256
add_result a m true made e = whole (((a + made) % 512 + 1) % 512) 256 ∙ omega arith
add_result a m false made e = whole (((a + made) % 512 + 0) % 512) 256 ∙ omega arith

pub add_carry : (a m : ℕ) (c : Bool) (made : ℕ) → made ≡ m → a < 256 → m < 256
    → ((a + made) % 512 + bit c) % 512 / 256 % 2 ≡ bit (nat_le 256 (a + m + bit_of c))
add_carry a m true made e la lm = elim (leb_tells 256 (a + m + 1)) [
  | inl t ↦ let is = t.1 in let one : ((a + made) % 512 + 1) % 512 / 256 % 2 ≡ 1 = omega arith in one ∙ ap bit (sym t.0)
  | inr t ↦ let is = t.1 in let none : ((a + made) % 512 + 1) % 512 / 256 % 2 ≡ 0 = omega arith in none ∙ ap bit (sym t.0)
]
add_carry a m false made e la lm = elim (leb_tells 256 (a + m + 0)) [
  | inl t ↦ let is = t.1 in let one : ((a + made) % 512 + 0) % 512 / 256 % 2 ≡ 1 = omega arith in one ∙ ap bit (sym t.0)
  | inr t ↦ let is = t.1 in let none : ((a + made) % 512 + 0) % 512 / 256 % 2 ≡ 0 = omega arith in none ∙ ap bit (sym t.0)
]

signs : (p q : Bool) → both (bit p) (none (bit q)) ≡ bit (p && not q)
signs true true = refl
signs true false = refl
signs false q = refl

sum_sign : (a m : ℕ) (c : Bool) (made : ℕ) → made ≡ m
    → ((a + made) % 512 + bit c) % 512 / 128 % 2 ≡ (a + m + bit_of c) % 256 / 128
sum_sign a m true made e = omega arith
sum_sign a m false made e = omega arith

-- V, of a sum whose sign the cells have
over_by : (a m made sum k : ℕ) → made ≡ m → a < 256 → m < 256 → sum / 128 % 2 ≡ k % 256 / 128
    → both (eq (a / 128 % 2) (made / 128 % 2)) (none (eq (a / 128 % 2) (sum / 128 % 2)))
    ≡ bit (nat_eq (a / 128) (m / 128) && not (nat_eq (a / 128) (k % 256 / 128)))
over_by a m made sum k e la lm r =
    let p : a / 128 % 2 ≡ a / 128 = omega arith in
    let q : made / 128 % 2 ≡ m / 128 = omega arith in
    ap (λ k. both (eq k (made / 128 % 2)) (none (eq k (sum / 128 % 2)))) p
    ∙ ap (λ k. both (eq (a / 128) k) (none (eq (a / 128) (sum / 128 % 2)))) q
    ∙ ap (λ k. both (eq (a / 128) (m / 128)) (none (eq (a / 128) k))) r
    ∙ signs (nat_eq (a / 128) (m / 128)) (nat_eq (a / 128) (k % 256 / 128))

pub add_over : (a m : ℕ) (c : Bool) (made : ℕ) → made ≡ m → a < 256 → m < 256
    → both (eq (a / 128 % 2) (made / 128 % 2)) (none (eq (a / 128 % 2) (((a + made) % 512 + bit c) % 512 / 128 % 2)))
    ≡ bit (nat_eq (a / 128) (m / 128) && not (nat_eq (a / 128) ((a + m + bit_of c) % 256 / 128)))
add_over a m c made e la lm =
    over_by a m made (((a + made) % 512 + bit c) % 512) (a + m + bit_of c) e la lm (sum_sign a m c made e)

-- the sum by digits that the cells make, of which the lower one is put in order so
abbrev pub lower : ℕ → ℕ → Bool → ℕ
lower a made c = ((a / 1 % 16 + made / 1 % 16) % 32 + bit c) % 32

abbrev pub joining : (ordered a made : ℕ) → ℕ
joining ordered a made = (0 + 16 * ((a / 16 % 16 + made / 16 % 16) % 32) + ordered) % 512

abbrev pub carrying : ℕ → ℕ
carrying low = mux (ge low 10) ((low / 1 % 16 + 6) % 16 + 16 * 1) low

abbrev pub borrowing : ℕ → ℕ
borrowing low = mux (ge low 16) low ((low / 1 % 16 + 10) % 16)

abbrev pub summed : ℕ → ℕ → Bool → ℕ
summed a made c = joining (carrying (lower a made c)) a made

abbrev pub subtracted : ℕ → ℕ → Bool → ℕ
subtracted a made c = joining (borrowing (lower a made c)) a made

lower_is : (a m : ℕ) (c : Bool) (made : ℕ) → made ≡ m → lower a made c ≡ a % 16 + m % 16 + bit_of c
lower_is a m true made e = omega arith
lower_is a m false made e = omega arith

lower_in : (a m : ℕ) (c : Bool) → a % 16 + m % 16 + bit_of c < 32
lower_in a m true = omega arith
lower_in a m false = omega arith

carrying_is : (low : ℕ) → carrying low ≡ carried low
carrying_is low = by (nat_le 10 low)
  where
    by : (t : Bool) → mux (bit t) ((low / 1 % 16 + 6) % 16 + 16 * 1) low ≡ (if t then 16 + (low + 6) % 16 else low)
    by true = omega arith
    by false = refl

carried_in : (low : ℕ) → low < 32 → carried low < 32
carried_in low less = by (nat_le 10 low)
  where
    by : (t : Bool) → (if t then 16 + (low + 6) % 16 else low) < 32
    by true = omega arith
    by false = less

borrowing_is : (low : ℕ) → borrowing low ≡ borrowed low
borrowing_is low = by (nat_le 16 low)
  where
    by : (t : Bool) → mux (bit t) low ((low / 1 % 16 + 10) % 16) ≡ (if t then low else (low + 10) % 16)
    by true = refl
    by false = omega arith

borrowed_in : (low : ℕ) → low < 32 → borrowed low < 32
borrowed_in low less = by (nat_le 16 low)
  where
    by : (t : Bool) → (if t then low else (low + 10) % 16) < 32
    by true = less
    by false = omega arith

joined_is : (a m made ordered : ℕ) → made ≡ m → a < 256 → m < 256 → ordered < 32
    → joining ordered a made ≡ 16 * (a / 16) + 16 * (m / 16) + ordered
joined_is a m made ordered e la lm less = omega arith

abbrev pub by_digits : (ℕ → ℕ) → ℕ → ℕ → Bool → ℕ
by_digits ordered a m c = 16 * (a / 16) + 16 * (m / 16) + ordered (a % 16 + m % 16 + bit_of c)

summed_is : (a m : ℕ) (c : Bool) (made : ℕ) → made ≡ m → a < 256 → m < 256 → summed a made c ≡ by_digits carried a m c
summed_is a m c made e la lm =
    let low = a % 16 + m % 16 + bit_of c in
    ap (λ k. joining (carrying k) a made) (lower_is a m c made e)
    ∙ ap (λ k. joining k a made) (carrying_is low)
    ∙ joined_is a m made (carried low) e la lm (carried_in low (lower_in a m c))

subtracted_is : (a m : ℕ) (c : Bool) (made : ℕ) → made ≡ m → a < 256 → m < 256
    → subtracted a made c ≡ by_digits borrowed a m c
subtracted_is a m c made e la lm =
    let low = a % 16 + m % 16 + bit_of c in
    ap (λ k. joining (borrowing k) a made) (lower_is a m c made e)
    ∙ ap (λ k. joining k a made) (borrowing_is low)
    ∙ joined_is a m made (borrowed low) e la lm (borrowed_in low (lower_in a m c))

-- ADC: A, N, C and V, with D as it may be
pub sum_result : (a m : ℕ) (c d : Bool) (made : ℕ) → made ≡ m → a < 256 → m < 256
    → mux (bit d) (mux (ge (summed a made c) 160) ((summed a made c / 1 % 256 + 96) % 256) (summed a made c / 1 % 256))
    (((a + made) % 512 + bit c) % 512 / 1 % 256)
    ≡ (if d && nat_le 160 (by_digits carried a m c) then by_digits carried a m c + 96
    else (if d then by_digits carried a m c else a + m + bit_of c)) % 256
sum_result a m c false made e la lm = add_result a m c made e
sum_result a m c true made e la lm =
    ap (λ k. mux (ge k 160) ((k / 1 % 256 + 96) % 256) (k / 1 % 256)) (summed_is a m c made e la lm)
    ∙ by (by_digits carried a m c) (nat_le 160 (by_digits carried a m c))
  where
    by : (k : ℕ) (t : Bool) → mux (bit t) ((k / 1 % 256 + 96) % 256) (k / 1 % 256) ≡ (if t then k + 96 else k) % 256
    by k true = omega arith
    by k false = omega arith

pub sum_minus : (a m : ℕ) (c d : Bool) (made : ℕ) → made ≡ m → a < 256 → m < 256
    → bit (nat_le 128 (mux (some (bit d)) (summed a made c) (((a + made) % 512 + bit c) % 512) / 1 % 256))
    ≡ bit (nat_le 128 ((if d then by_digits carried a m c else a + m + bit_of c) % 256))
sum_minus a m c false made e la lm = minus_by _ _ (add_result a m c made e)
sum_minus a m c true made e la lm =
    ap (λ k. bit (nat_le 128 (k / 1 % 256))) (summed_is a m c made e la lm)
    ∙ minus_by _ _ (whole (by_digits carried a m c) 256)

pub sum_carry : (a m : ℕ) (c d : Bool) (made : ℕ) → made ≡ m → a < 256 → m < 256
    → mux (some (bit d)) (ge (summed a made c) 160) (((a + made) % 512 + bit c) % 512 / 256 % 2)
    ≡ bit (if d then nat_le 160 (by_digits carried a m c) else nat_le 256 (a + m + bit_of c))
sum_carry a m c false made e la lm = add_carry a m c made e la lm
sum_carry a m c true made e la lm = ap (λ k. bit (nat_le 160 k)) (summed_is a m c made e la lm)

pub sum_over : (a m : ℕ) (c d : Bool) (made : ℕ) → made ≡ m → a < 256 → m < 256
    → both (eq (a / 128 % 2) (made / 128 % 2))
    (none (eq (a / 128 % 2) (mux (some (bit d)) (summed a made c) (((a + made) % 512 + bit c) % 512) / 128 % 2)))
    ≡ bit (nat_eq (a / 128) (m / 128)
    && not (nat_eq (a / 128) ((if d then by_digits carried a m c else a + m + bit_of c) % 256 / 128)))
sum_over a m c false made e la lm = add_over a m c made e la lm
sum_over a m c true made e la lm =
    over_by a m made (summed a made c) (by_digits carried a m c) e la lm
    (ap (λ k. k / 128 % 2) (summed_is a m c made e la lm) ∙ sign (by_digits carried a m c))
  where
    sign : (k : ℕ) → k / 128 % 2 ≡ k % 256 / 128
    sign k = omega arith

-- SBC: A, with D as it may be; m is the complement
pub difference_result : (a m : ℕ) (c d : Bool) (made : ℕ) → made ≡ m → a < 256 → m < 256
    → mux (bit d) (mux (((a + made) % 512 + bit c) % 512 / 256 % 2) (subtracted a made c / 1 % 256)
    ((subtracted a made c / 1 % 256 + 160) % 256))
    (((a + made) % 512 + bit c) % 512 / 1 % 256)
    ≡ (if d then (if nat_le 256 (a + m + bit_of c) then by_digits borrowed a m c else by_digits borrowed a m c + 160)
    else a + m + bit_of c) % 256
difference_result a m c false made e la lm = add_result a m c made e
difference_result a m c true made e la lm =
    ap (λ k. mux k (subtracted a made c / 1 % 256) ((subtracted a made c / 1 % 256 + 160) % 256))
    (add_carry a m c made e la lm)
    ∙ ap (λ k. mux (bit (nat_le 256 (a + m + bit_of c))) (k / 1 % 256) ((k / 1 % 256 + 160) % 256))
    (subtracted_is a m c made e la lm)
    ∙ by (by_digits borrowed a m c) (nat_le 256 (a + m + bit_of c))
  where
    by : (k : ℕ) (t : Bool) → mux (bit t) (k / 1 % 256) ((k / 1 % 256 + 160) % 256) ≡ (if t then k else k + 160) % 256
    by k true = omega arith
    by k false = omega arith

leads : (pc m : ℕ) (b : Bool) → ((pc + 2) % 65536 + (m + 256 * (if nat_eq (bit b) 0 then 0 else 255))) % 65536
    ≡ (pc + 2 + m + (if b then 65536 - 256 else 0)) % 65536
leads pc m true = omega arith
leads pc m false = omega arith

-- a branch on this flag, taken where it is so
pub branched : (pc m : ℕ) (when b : Bool) → pc < 65533
    → mux (eq (bit b) (bit when)) (((pc + 2) % 65536 + (m + 256 * (if nat_eq (bit (nat_le 128 m)) 0 then 0 else 255))) % 65536)
    ((pc + 2) % 65536)
    ≡ (if is_so when b then target pc m else pc + 2)
branched pc m true true less = leads pc m (nat_le 128 m)
branched pc m true false less = omega arith
branched pc m false true less = omega arith
branched pc m false false less = leads pc m (nat_le 128 m)

-- the flags as a byte, of which bit 4 says whether an instruction pushes it
pub flags_is : (cpu : Cpu) (asked : Bool)
    → bit cpu.c + 2 * (bit cpu.z + 2 * (bit cpu.i + 2 * (bit cpu.d + 2 * (bit asked + 2 * (1 + 2 * (bit cpu.v + 2 * bit cpu.n))))))
    ≡ flags_byte asked cpu
flags_is cpu asked =
    let n = bit_is cpu.n in let v = bit_is cpu.v in let d = bit_is cpu.d in let i = bit_is cpu.i in let z = bit_is cpu.z in
    let c = bit_is cpu.c in let b = bit_is asked in omega arith
