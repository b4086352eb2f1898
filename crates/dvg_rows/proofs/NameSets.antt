-- Names in a set.
use Rattle.std.proofs.Common.{◌≡◌, ℕ, List, [], ◌∷◌, Bool, true, false, not, Contains, ap, refl, sym, ◌∙◌, ◌||◌, nat_eq}
use Rattle.std.proofs.lemmas.Bool.{false≢true}
use Rattle.std.proofs.lemmas.Bool.Decides.{Decides-eqb}
use Rattle.std.proofs.lemmas.Map.Views.{Contains-from_any, list_any-from_Contains}
use Rattle.std.specs.Borrow.{Bor}
use Rattle.std.specs.Cmp.Lexicographic.{nat_list_eq_equiv, pointwise, pointwise_decides}
use Rattle.std.specs.List.{list_any}
use Rattle.dvg_read.specs.LineParts.{bytes_of}

abbrev is_same : Bor (List ℕ) → Bor (List ℕ) → Bool
is_same name other = pointwise nat_eq name.now other.now

-- whether one of these has the same bytes
any_bytes : (names : List (Bor (List ℕ))) (name : Bor (List ℕ))
    → list_any (pointwise nat_eq name.now) (bytes_of names) ≡ list_any (is_same name) names
any_bytes [] name = refl
any_bytes (other ∷ names) name = ap (λ b. is_same name other || b) (any_bytes names name)

-- a name that the set has is among these
pub among : (names : List (Bor (List ℕ))) (name : Bor (List ℕ)) → list_any (is_same name) names ≡ true
    → Contains (bytes_of names) name.now
among names name h =
    Contains-from_any (λ x y. (pointwise_decides Decides-eqb x y).0) name.now (bytes_of names) (any_bytes names name ∙ h)

-- a name that it lacks isn't
pub not_among : (names : List (Bor (List ℕ))) (name : Bor (List ℕ)) → list_any (is_same name) names ≡ false
    → ¬ Contains (bytes_of names) name.now
not_among names name h is =
    false≢true (sym h ∙ sym (any_bytes names name) ∙ list_any-from_Contains nat_list_eq_equiv name.now (bytes_of names) is)

-- what is stated of a name that is added
pub lacked : (added has : Bool) → added ≡ true → added ≡ not has → has ≡ false
lacked added true e f = absurd cc
lacked added false e f = refl

pub had : (added has : Bool) → added ≡ false → added ≡ not has → has ≡ true
had added true e f = refl
had added false e f = absurd cc
