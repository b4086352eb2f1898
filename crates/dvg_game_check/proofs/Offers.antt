-- What is in a list is at one of its places.
use Rattle.std.proofs.Common.{◌≡◌, ℕ, zero, suc, ◌<◌, ◌||◌, Bool, true, false, List, [], ◌∷◌, length, get_or, refl, sym, ◌∙◌, ap, arith, eqb-true}
use Rattle.std.specs.Prelude.{nat_eq}
use Rattle.dvg_game_check.specs.Brought.{has}

-- where a list has a number, it is at one of its places
pub place_of : (xs : List ℕ) (n : ℕ) → has xs n ≡ true → (k : ℕ) × (k < length xs) × (get_or xs k 0 ≡ n)
place_of [] n h = absurd (cc)
place_of (x ∷ xs) n h = by (nat_eq x n) refl (place_of xs n)
  where
    by : (b : Bool) → nat_eq x n ≡ b → (has xs n ≡ true → (k : ℕ) × (k < length xs) × (get_or xs k 0 ≡ n))
        → (k : ℕ) × (k < length (x ∷ xs)) × (get_or (x ∷ xs) k 0 ≡ n)
    by true e rest = (zero, omega arith, eqb-true x n e)
    by false e rest =
        let p = rest (ap (λ b. b || has xs n) (sym e) ∙ h) in (suc p.0, omega (arith, p.1), p.2)
