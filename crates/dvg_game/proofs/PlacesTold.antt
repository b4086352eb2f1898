-- Which places lines are told of.
use Rattle.std.proofs.Common.{◌≡◌, ℕ, ◌+◌, ◌-◌, ◌<◌, ◌≤◌, ◌||◌, ◌⊎◌, ⊎_elim, inl, inr, Bool, true, false, List, [], ◌∷◌, ◌++◌, length, map, take, get_or, refl, sym, ap, ◌∙◌, subst, arith, eq-eqb}
use Rattle.std.proofs.lemmas.Bool.{eqb-true}
use Rattle.std.specs.Prelude.{All, nat_eq, Option}
use Rattle.std.proofs.lemmas.List.{take_more, map-append}
use Rattle.std.proofs.lemmas.List.Elements.{All-cons, All-head, All-nil, All-push, All-tail}
use Rattle.dvg_game_words.specs.Checker.{fine_at, first, noted, places}
use Rattle.dvg_game_check.specs.declared.note.Note.{Note}
use Rattle.dvg_game_check.specs.declared.reason.Broken.{Broken}
use Rattle.dvg_game_check.specs.Program.{IsBadAt}
use Rattle.dvg_game_check.specs.Rules.{HasBytes, notes_in}
use Rattle.dvg_game_check.specs.Why.{AreBroken, IsBroken, listed}
use Rattle.dvg_game.specs.declared.told.PlaceLine.{PlaceLine}
use Rattle.dvg_game.specs.Telling.{IsLineOf, TellBroken, addresses, is_told}

abbrev pub places_of : List Broken → List ℕ
places_of all = map (λ broken. broken.at) all

-- one more line
pub one_more : {A : Type 0} (all : List Broken) (i : ℕ) (d : Broken) (lines more : List (PlaceLine A)) (line : PlaceLine A) → i < length all
    → more ≡ lines ++ line ∷ [] → line.at ≡ (get_or all i d).at → IsLineOf line
    → (addresses lines ≡ places_of (take i all)) × All IsLineOf lines
    → (addresses more ≡ places_of (take (i + 1) all)) × All IsLineOf more
one_more all i d lines more line low e is form h = (
  ap addresses e ∙ map-append (λ line. line.at) lines (line ∷ [])
      ∙ ap (λ l. l ++ line.at ∷ []) h.0 ∙ ap (λ a. places_of (take i all) ++ a ∷ []) is
      ∙ sym (map-append (λ broken. broken.at) (take i all) (get_or all i d ∷ []))
      ∙ sym (ap places_of (take_more all i d low)),
  subst (All IsLineOf) (sym e) (All-push IsLineOf lines line h.1 form),
)

told_is : (all : List Broken) (at : ℕ) → is_told (places_of all) at ≡ listed all at
told_is [] at = refl
told_is (one ∷ all) at = ap (λ b. nat_eq one.at at || b) (told_is all at)

either_of : (a b : Bool) → (a || b) ≡ true → (a ≡ true) ⊎ (b ≡ true)
either_of true b h = inl refl
either_of false b h = inr h

or_true : (a b : Bool) → b ≡ true → (a || b) ≡ true
or_true true b h = refl
or_true false b h = h

true_or : (a b : Bool) → a ≡ true → (a || b) ≡ true
true_or true b h = refl
true_or false b h = cc

-- what holds at each place of a list holds of the places
all_of : (P : ℕ → Type 0) (xs : List Broken) → ((at : ℕ) → listed xs at ≡ true → P at) → All P (places_of xs)
all_of P [] h = All-nil P
all_of P (x ∷ xs) h =
    All-cons P x.at (places_of xs) (h x.at (true_or (nat_eq x.at x.at) (listed xs x.at) (eq-eqb x.at x.at refl)))
    (all_of P xs (λ at e. h at (or_true (nat_eq x.at at) (listed xs at) e)))

module _ (bytes : List ℕ) (notes : List (Option Note)) where
  bad_of : (all : List Broken) → All (IsBroken bytes notes) all → (at : ℕ) → listed all at ≡ true → IsBadAt bytes notes at
  bad_of [] h at e = absurd (let f : false ≡ true = e in cc)
  bad_of (x ∷ xs) h at e = ⊎_elim
      (λ same. subst (IsBadAt bytes notes) (eqb-true x.at at same) (All-head (IsBroken bytes notes) x xs h).bad)
      (λ more. bad_of xs (All-tail (IsBroken bytes notes) x xs h) at more)
      (either_of (nat_eq x.at at) (listed xs at) e)

  others_of : (all : List Broken) → AreBroken bytes notes all → (at : ℕ) → first ≤ at → at < first + places → listed all at ≡ false
      → (rom : ℕ → ℕ) → HasBytes bytes rom → fine_at (notes_in notes) rom at (noted (notes_in notes) at) ≡ true
  others_of all broken at low high out rom has =
      let is : first + (at - first) ≡ at = omega (arith, low) in
      subst (λ a. fine_at (notes_in notes) rom a (noted (notes_in notes) a) ≡ true) is
      (broken.others (at - first) (omega (arith, low, high)) (subst (λ a. listed all a ≡ false) (sym is) out) rom has)

  -- the places of the same broken ones, in any order
  pub told_broken : (all ordered : List Broken) (told : List ℕ) → AreBroken bytes notes all
      → ((at : ℕ) → listed ordered at ≡ listed all at) → told ≡ places_of ordered → TellBroken bytes notes told
  told_broken all ordered told broken same is = record {
    each = subst (All (IsBadAt bytes notes)) (sym is)
        (all_of (IsBadAt bytes notes) ordered (λ at e. bad_of all broken.each at (sym (same at) ∙ e)));
    others = λ at low high out. others_of all broken at low high
        (sym (same at) ∙ sym (told_is ordered at) ∙ ap (λ l. is_told l at) (sym is) ∙ out);
  }
