-- Places that are fine, or in a list.
use Rattle.std.proofs.Common.{◌≡◌, ℕ, zero, suc, ◌+◌, ◌<◌, ◌≤◌, ◌||◌, Bool, true, false, List, [], ◌∷◌, ◌++◌, refl, sym, ◌∙◌, ap, subst, arith, inl, inr, eq-eqb}
use Rattle.std.specs.Prelude.{nat_eq, Option}
use Rattle.std.proofs.Math.Nat.{eq-or-lt_of_le}
use Rattle.dvg_game_words.specs.Checker.{fine_at, first, noted, places}
use Rattle.dvg_game_check.specs.declared.note.Note.{Note}
use Rattle.dvg_game_check.specs.declared.reason.Broken.{Broken}
use Rattle.dvg_game_check.specs.Rules.{HasBytes, notes_in}
use Rattle.dvg_game_check.specs.Why.{HasBroken, listed}

neither : (a b : Bool) → (a || b) ≡ false → (a ≡ false) × (b ≡ false)
neither true b h = absurd (let e : true ≡ false = h in cc)
neither false b h = (refl, h)

both_not : (a b : Bool) → a ≡ false → b ≡ false → (a || b) ≡ false
both_not a b h k = rw (h, k)

pub not_before : (all : List Broken) (one : Broken) (n : ℕ) → listed (all ++ one ∷ []) n ≡ false
    → (listed all n ≡ false) × (nat_eq one.at n ≡ false)
not_before [] one n h = (refl, (neither (nat_eq one.at n) false h).0)
not_before (x ∷ all) one n h =
    let two = neither (nat_eq x.at n) (listed (all ++ one ∷ []) n) h in
    let more = not_before all one n two.1 in
    (both_not (nat_eq x.at n) (listed all n) two.0 more.0, more.1)

module _ (bytes : List ℕ) (notes : List (Option Note)) where
  -- one more place, which is in the list
  pub more_listed : (all : List Broken) (one : Broken) (n : ℕ) → one.at ≡ first + n → HasBroken bytes notes all n
      → HasBroken bytes notes (all ++ one ∷ []) (n + 1)
  more_listed all one n is has k less out rom at_bytes =
      elim (eq-or-lt_of_le {n = k} {m = n} (omega (arith, less)))
      as (λ _. fine_at (notes_in notes) rom (first + k) (noted (notes_in notes) (first + k)) ≡ true) [
        | inl same ↦ absurd (let e : true ≡ false =
            sym (eq-eqb one.at (first + k) (is ∙ ap (λ m. first + m) (sym same)))
            ∙ (not_before all one (first + k) out).1 in cc)
        | inr fewer ↦ has k fewer (not_before all one (first + k) out).0 rom at_bytes
      ]

  -- one more, which is fine
  pub more_fine : (all : List Broken) (n : ℕ) → ((rom : ℕ → ℕ) → HasBytes bytes rom
      → fine_at (notes_in notes) rom (first + n) (noted (notes_in notes) (first + n)) ≡ true)
      → HasBroken bytes notes all n → HasBroken bytes notes all (n + 1)
  more_fine all n fine has k less out rom at_bytes =
      elim (eq-or-lt_of_le {n = k} {m = n} (omega (arith, less)))
      as (λ _. fine_at (notes_in notes) rom (first + k) (noted (notes_in notes) (first + k)) ≡ true) [
        | inl same ↦ subst (λ m. fine_at (notes_in notes) rom (first + m) (noted (notes_in notes) (first + m)) ≡ true) (sym same)
            (fine rom at_bytes)
        | inr fewer ↦ has k fewer out rom at_bytes
      ]
