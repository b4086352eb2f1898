-- Names that are given once, and one name more.
use Rattle.std.proofs.Common.{◌≡◌, ◌<◌, ℕ, List, [], ◌∷◌, ◌++◌, length, get_or, refl, sym, ap, subst, ◌∙◌, arith, append-nil}
use Rattle.std.proofs.Common.{length-append, Option, Some, None, All}
use Rattle.std.proofs.lemmas.List.{get_or_append_left, get_or_default}
use Rattle.std.proofs.lemmas.List.Elements.{filter_map-append}
use Rattle.std.proofs.lemmas.List.Quantifiers.{all_pairs_push}
use Rattle.std.proofs.Math.Seq.{get_or-append_seam}
use Rattle.std.specs.List.{AllPairs, cons_option}
use Rattle.std.specs.Option.{option_to_list}
use Rattle.dvg_rows.specs.FreshNames.{IsAgain, IsFresh}
use Rattle.dvg_rows.specs.RowPlaces.{AreDistinct, names_of}
use Rattle.dvg_rows.specs.Rows.{Row}

-- ---- lists

-- what holds of each item holds of those of a front
pub all_front : {X : Type 0} (P : X → Type 0) (xs ys : List X) → All P (xs ++ ys) → All P xs
all_front P xs ys h = λ k d low.
    subst P (get_or_append_left xs ys d k low) (h k d (omega (arith, length-append xs ys, low)))

pub all_last : {X : Type 0} (P : X → Type 0) (xs : List X) (y : X) → All P (xs ++ y ∷ []) → P y
all_last P xs y h =
    subst P (get_or-append_seam xs y [] y) (h (length xs) y (omega (arith, length-append xs (y ∷ []))))

pub pairs_front : {X : Type 0} (R : X → X → Type 0) (xs ys : List X) → AllPairs R (xs ++ ys) → AllPairs R xs
pairs_front R xs ys h = λ i j d low inside.
    subst (λ x. R x (get_or xs j d)) (get_or_append_left xs ys d i (omega (arith, low, inside)))
    (subst (λ y. R (get_or (xs ++ ys) i d) y) (get_or_append_left xs ys d j inside)
    (h i j d low (omega (arith, length-append xs ys, inside))))

pub pairs_last : {X : Type 0} (R : X → X → Type 0) (xs : List X) (y : X) → AllPairs R (xs ++ y ∷ [])
    → (k : ℕ) (d : X) → k < length xs → R (get_or xs k d) y
pairs_last R xs y h k d low =
    subst (λ x. R x y) (get_or_append_left xs (y ∷ []) d k low)
    (subst (λ z. R (get_or (xs ++ y ∷ []) k d) z) (get_or-append_seam xs y [] d)
    (h k (length xs) d low (omega (arith, length-append xs (y ∷ [])))))

-- ---- one name more

pub distinct_push : (names : List (List ℕ)) (name : Option (List ℕ)) → AreDistinct names → IsFresh names name
    → AreDistinct (names ++ option_to_list name)
distinct_push names None once fresh = subst AreDistinct (sym (append-nil names)) once
distinct_push names (Some name) once fresh =
    all_pairs_push (λ name other. name ≡ other → ⊥) names name once
    (λ k d low same. fresh (k, low, get_or_default names k name d low ∙ same))

pub again_breaks : (names : List (List ℕ)) (name : Option (List ℕ)) → IsAgain names name
    → AreDistinct (names ++ option_to_list name) → ⊥
again_breaks names None again once = absurd again
again_breaks names (Some name) again once =
    pairs_last (λ name other. name ≡ other → ⊥) names name once again.0 name again.1 again.2

pub as_list : (name : Option (List ℕ)) → cons_option name [] ≡ option_to_list name
as_list None = refl
as_list (Some name) = refl

-- the names of rows with one row more
pub names_more : (rows : List Row) (row : Row) → names_of (rows ++ row ∷ []) ≡ names_of rows ++ option_to_list row.name
names_more rows row =
    filter_map-append (λ (row : Row). row.name) rows (row ∷ []) ∙ ap (λ l. names_of rows ++ l) (as_list row.name)
