-- The nearest name at a word or before it.
use Rattle.std.proofs.Common.{◌≡◌, ◌+◌, ◌<◌, ◌≤◌, ℕ, List, [], ◌∷◌, ◌++◌, All, MatchOption, Option, Some, None, ap, append_assoc, arith, get_or, inl, inr, length, refl, subst, sym, take, ◌∙◌}
use Rattle.std.proofs.lemmas.List.{take_all, take_more}
use Rattle.std.proofs.lemmas.Bool.{cases_lt}
use Rattle.std.proofs.lemmas.List.Elements.{All-append, All-cons, All-nil, All-push, All-weaker}
use Rattle.dvg_named.specs.declared.meaning.RomName.{RomName}
use Rattle.dvg_blame.specs.Refusals.{IsNameBefore, IsNearer}

-- what was found among names
abbrev pub Found : ℕ → List RomName → Option RomName → Type 0
Found a names found = MatchOption found (All (λ name. a < name.address) names) (IsNameBefore names a)

-- no name before the nearest is nearer
pub none_nearer : (a : ℕ) (names : List RomName) (found name : RomName) → IsNameBefore names a found → found.address ≤ name.address
    → All (λ n. n.address ≤ a → n.address ≤ name.address) names
none_nearer a names found name is le =
    let P : RomName → Type 0 = λ n. n.address ≤ a → n.address ≤ name.address in
    subst (All P) (sym is.cut) (All-append P is.before (found ∷ is.after)
    (All-weaker (λ n. n.address ≤ a → n.address ≤ found.address) P (λ n h low. let m = h low in omega (arith, m, le)) is.before is.earlier)
    (All-cons P found is.after (λ low. le)
    (All-weaker (λ n. n.address ≤ a → n.address < found.address) P (λ n h low. let m = h low in omega (arith, m, le)) is.after is.later)))

-- one name more, which is nearer
pub nearer : (a : ℕ) (names : List RomName) (found : Option RomName) (name : RomName) → Found a names found → IsNearer a found name
    → Found a (names ++ name ∷ []) (Some name)
nearer a names None name none low = record {
  before = names;
  after = [];
  cut = refl;
  low = low;
  earlier = All-weaker (λ n. a < n.address) (λ n. n.address ≤ a → n.address ≤ name.address) (λ n high l. absurd (omega (arith, high, l))) names none;
  later = All-nil (λ n. n.address ≤ a → n.address < name.address);
}
nearer a names (Some f) name is near = record {
  before = names;
  after = [];
  cut = refl;
  low = near.1;
  earlier = none_nearer a names f name is near.0;
  later = All-nil (λ n. n.address ≤ a → n.address < name.address);
}

-- one name more, which isn't
pub farther : (a : ℕ) (names : List RomName) (found : Option RomName) (name : RomName) → Found a names found → ¬ IsNearer a found name
    → Found a (names ++ name ∷ []) found
farther a names None name none far =
    All-push (λ n. a < n.address) names name none (elim (cases_lt a name.address) [ inl lt ↦ lt | inr le ↦ absurd (far le) ])
farther a names (Some f) name is far = record {
  before = is.before;
  after = is.after ++ name ∷ [];
  cut = ap (λ l. l ++ name ∷ []) is.cut ∙ append_assoc is.before (f ∷ is.after) (name ∷ []);
  low = is.low;
  earlier = is.earlier;
  later = All-push (λ n. n.address ≤ a → n.address < f.address) is.after name is.later
      (λ low. elim (cases_lt name.address f.address) [ inl lt ↦ lt | inr le ↦ absurd (far (le, low)) ]);
}

-- the step of a loop over names
module _ (a : ℕ) (names : List RomName) (i : ℕ) (d : RomName) (found new : Option RomName) (low : i < length names) (is : Found a (take i names) found) where
  pub nearer_at : IsNearer a found (get_or names i d) → new ≡ Some (get_or names i d) → Found a (take (i + 1) names) new
  nearer_at near e = subst (λ f. Found a (take (i + 1) names) f) (sym e)
      (subst (λ l. Found a l (Some (get_or names i d))) (sym (take_more names i d low)) (nearer a (take i names) found (get_or names i d) is near))

  pub farther_at : ¬ IsNearer a found (get_or names i d) → new ≡ found → Found a (take (i + 1) names) new
  farther_at far e = subst (λ f. Found a (take (i + 1) names) f) (sym e)
      (subst (λ l. Found a l found) (sym (take_more names i d low)) (farther a (take i names) found (get_or names i d) is far))

pub found_in : (a : ℕ) (names : List RomName) (i : ℕ) (found : Option RomName) → length names ≤ i → Found a (take i names) found → Found a names found
found_in a names i found all is = subst (λ l. Found a l found) (take_all i names all) is
