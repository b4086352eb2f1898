-- A test of all numbers below one fails where it fails of one.
use Rattle.std.proofs.Common.{◌≡◌, ℕ, zero, suc, ◌+◌, ◌<◌, ◌&&◌, Bool, true, false, refl, sym, ◌∙◌, ap, arith, inl, inr, ◌≤◌, ◌⊎◌}
use Rattle.std.proofs.lemmas.Bool.Decides.{nat_tests}
use Rattle.std.proofs.Math.Nat.{eq-or-lt_of_le}
use Rattle.dvg_game_words.specs.Checker.{all_under, is_code, places}

and_false : (b : Bool) → (b && false) ≡ false
and_false true = refl
and_false false = refl

pub all_under_fails : (p : ℕ → Bool) (n k : ℕ) → k < n → p k ≡ false → all_under n p ≡ false
all_under_fails p zero k h e = absurd (omega arith)
all_under_fails p (suc n) k h e =
    elim (eq-or-lt_of_le {n = k} {m = n} (omega arith)) as (λ _. (p n && all_under n p) ≡ false) [
      | inl same ↦ (let f : p n ≡ false = ap p (sym same) ∙ e in rw f)
      | inr less ↦ (let f : all_under n p ≡ false = all_under_fails p n k less e in rw f (and_false (p n)))
    ]

-- and where it holds of all, it holds of each
pub under : (n : ℕ) (p : ℕ → Bool) → all_under n p ≡ true → (i : ℕ) → i < n → p i ≡ true
under n p all i less = by (p i) refl
  where
    by : (b : Bool) → p i ≡ b → p i ≡ true
    by true is = is
    by false is = absurd (let e : false ≡ true = sym (all_under_fails p n i less is) ∙ all in cc)

-- a test that holds of all below one, and of that one
pub all_under_more : (p : ℕ → Bool) (n : ℕ) → all_under n p ≡ true → p n ≡ true → all_under (n + 1) p ≡ true
all_under_more p n h e = let s : n + 1 ≡ suc n = omega arith in rw s (rw (e, h))

pub all_under_same : (p q : ℕ → Bool) (n : ℕ) → ((k : ℕ) → k < n → p k ≡ q k) → all_under n p ≡ all_under n q
all_under_same p q zero h = refl
all_under_same p q (suc n) h =
    let one : p n ≡ q n = h n (omega arith) in
    let more : all_under n p ≡ all_under n q = all_under_same p q n (λ k less. h k (omega arith)) in
    rw (one, more)

pub all_under_full : (p : ℕ → Bool) (n m : ℕ) → n ≡ m → all_under n p ≡ true → all_under m p ≡ true
all_under_full p n m e h = ap (λ k. all_under k p) (sym e) ∙ h

pub places_are : 5491 ≡ places
unfolding places
places_are = refl

pub code_true : (at : ℕ) → 0x6A87 ≤ at → at < 0x7FFA → is_code at ≡ true
unfolding places
code_true at low high = grind (arith, nat_tests)

pub code_false : (at : ℕ) → (at < 0x6A87) ⊎ (0x7FFA ≤ at) → is_code at ≡ false
unfolding places
code_false at out = grind (arith, nat_tests)
