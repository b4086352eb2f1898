-- Wires of one bit are tests.
use Rattle.std.proofs.Common.{◌≡◌, ℕ, zero, suc, ◌+◌, ◌/◌, ◌<◌, Bool, true, false, not, refl, sym, ap, ◌∙◌, arith, eqb-true}
use Rattle.std.specs.Prelude.{nat_eq, ◌&&◌, ◌||◌, if◌then◌else◌}
use Rattle.std.proofs.lemmas.Bool.{eq-eqb}
use Rattle.dvg_cells_core.specs.Cells.{bit, both, either, mux, none, part}

pub none_is : (a : ℕ) → none a ≡ bit (nat_eq a 0)
none_is a = by (nat_eq a 0)
  where
    by : (t : Bool) → (if t then 1 else 0) ≡ bit t
    by true = refl
    by false = refl

pub none_bit : (t : Bool) → none (bit t) ≡ bit (not t)
none_bit true = refl
none_bit false = refl

pub both_bit : (t u : Bool) → both (bit t) (bit u) ≡ bit (t && u)
both_bit true true = refl
both_bit true false = refl
both_bit false u = refl

pub either_bit : (t u : Bool) → either (bit t) (bit u) ≡ bit (t || u)
either_bit true u = refl
either_bit false true = refl
either_bit false false = refl

pub mux_bit : (t : Bool) (x y : ℕ) → mux (bit t) x y ≡ (if t then x else y)
mux_bit true x y = refl
mux_bit false x y = refl

-- a wire that fits
pub bit_of : (a : ℕ) → a < 2 → a ≡ bit (nat_eq a 1)
bit_of zero less = refl
bit_of (suc zero) less = refl
bit_of (suc (suc n)) less = absurd (omega arith)

pub and_both : (t u v : Bool) → ((t && u) && v) ≡ (t && (u && v))
and_both true u v = refl
and_both false u v = refl

pub same_test : (t u : Bool) → (t ≡ true → u ≡ true) → (u ≡ true → t ≡ true) → t ≡ u
same_test true u f g = sym (f refl)
same_test false true f g = g refl
same_test false false f g = refl

-- a reset is taken, and a cycle begins
pub resets_is : (reset bites answers : ℕ) → reset < 2 → bites < 2
    → both (either reset bites) (none answers) ≡ bit ((nat_eq reset 1 || nat_eq bites 1) && nat_eq answers 0)
resets_is reset bites answers r b =
    ap (λ n. both (either n bites) (none answers)) (bit_of reset r)
    ∙ ap (λ n. both (either (bit (nat_eq reset 1)) n) (none answers)) (bit_of bites b)
    ∙ ap (λ n. both n (none answers)) (either_bit (nat_eq reset 1) (nat_eq bites 1))
    ∙ ap (both (bit (nat_eq reset 1 || nat_eq bites 1))) (none_is answers)
    ∙ both_bit (nat_eq reset 1 || nat_eq bites 1) (nat_eq answers 0)

pub access_is : (ready answers reset bites : ℕ) → ready < 2 → reset < 2 → bites < 2
    → mux ready (both (none answers) (none (either reset bites))) 0
    ≡ bit (nat_eq ready 1 && (nat_eq answers 0 && not (nat_eq reset 1 || nat_eq bites 1)))
access_is ready answers reset bites d r b =
    ap (λ n. mux ready (both (none answers) (none (either n bites))) 0) (bit_of reset r)
    ∙ ap (λ n. mux ready (both (none answers) (none (either (bit (nat_eq reset 1)) n))) 0) (bit_of bites b)
    ∙ ap (λ n. mux ready (both (none answers) (none n)) 0) (either_bit (nat_eq reset 1) (nat_eq bites 1))
    ∙ ap (λ n. mux ready (both (none answers) n) 0) (none_bit (nat_eq reset 1 || nat_eq bites 1))
    ∙ ap (λ n. mux ready (both n (bit (not (nat_eq reset 1 || nat_eq bites 1)))) 0) (none_is answers)
    ∙ ap (λ n. mux ready n 0) (both_bit (nat_eq answers 0) (not (nat_eq reset 1 || nat_eq bites 1)))
    ∙ ap (λ n. mux n (bit (nat_eq answers 0 && not (nat_eq reset 1 || nat_eq bites 1))) 0) (bit_of ready d)
    ∙ chosen (nat_eq ready 1) (nat_eq answers 0 && not (nat_eq reset 1 || nat_eq bites 1))
  where
    chosen : (t u : Bool) → mux (bit t) (bit u) 0 ≡ bit (t && u)
    chosen true u = refl
    chosen false u = refl

-- an area of the outputs, by bits 12 to 15 and 9 to 11
pub area_is : (a k : ℕ) → a < 65536 → k < 8 → (nat_eq (part 12 4 a) 3 && nat_eq (part 9 3 a) k) ≡ nat_eq (a / 0x200) (24 + k)
area_is a k small less = same_test (nat_eq (part 12 4 a) 3 && nat_eq (part 9 3 a) k) (nat_eq (a / 0x200) (24 + k)) to from
  where
    to : (nat_eq (part 12 4 a) 3 && nat_eq (part 9 3 a) k) ≡ true → nat_eq (a / 0x200) (24 + k) ≡ true
    to e = by (nat_eq (part 12 4 a) 3) (nat_eq (part 9 3 a) k) refl refl e
      where
        by : (t u : Bool) → nat_eq (part 12 4 a) 3 ≡ t → nat_eq (part 9 3 a) k ≡ u → (t && u) ≡ true
            → nat_eq (a / 0x200) (24 + k) ≡ true
        by true true p q e =
            let three = eqb-true (part 12 4 a) 3 p in let its = eqb-true (part 9 3 a) k q in
            eq-eqb (a / 0x200) (24 + k) (omega arith)
        by true false p q e = absurd (cc)
        by false u p q e = absurd (cc)

    from : nat_eq (a / 0x200) (24 + k) ≡ true → (nat_eq (part 12 4 a) 3 && nat_eq (part 9 3 a) k) ≡ true
    from e =
        let its = eqb-true (a / 0x200) (24 + k) e in
        ap (λ t. t && nat_eq (part 9 3 a) k) (eq-eqb (part 12 4 a) 3 (omega arith)) ∙ eq-eqb (part 9 3 a) k (omega arith)
