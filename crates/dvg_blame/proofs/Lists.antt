-- Lists that a loop goes over, and texts that grow.
use Rattle.std.proofs.Common.{◌≡◌, ◌∙◌, ◌+◌, ◌<◌, ◌≤◌, ℕ, List, ◌∷◌, ◌++◌, All, ap, append_assoc, drop, flat_map, get_or, length, subst, sym, take}
use Rattle.std.specs.Prelude.{Err, Ok, OnOk, Result, is_err, false}
use Rattle.std.proofs.lemmas.List.{append-nil, drop_more, take-append-drop, take_all}
use Rattle.std.proofs.lemmas.List.Elements.{All-more}
use Rattle.std.proofs.Math.ListN.{drop_of_length-le}
use Rattle.dvg_blame.specs.Refusals.{IsFirst}

-- the item at a place, and those after it
pub next_at : {X : Type 0} (xs : List X) (i : ℕ) (x : X) → i < length xs → x ≡ get_or xs i x → drop i xs ≡ x ∷ drop (i + 1) xs
next_at xs i x low is = drop_more xs i x low ∙ ap (λ y. y ∷ drop (i + 1) xs) (sym is)

-- the text of that item, and of those after it
pub text_at : {X A : Type 0} (f : X → List A) (xs : List X) (i : ℕ) (x : X) → i < length xs → x ≡ get_or xs i x
    → flat_map f (drop i xs) ≡ f x ++ flat_map f (drop (i + 1) xs)
text_at f xs i x low is = ap (flat_map f) (next_at xs i x low is)

-- a text grew by the first of two parts that are to come
pub grew : {A : Type 0} (old part new rest whole : List A) → new ≡ old ++ part → old ++ (part ++ rest) ≡ whole → new ++ rest ≡ whole
grew old part new rest whole is before = ap (λ l. l ++ rest) is ∙ append_assoc old part rest ∙ before

-- the text of the next item was added
pub added : {X A : Type 0} (f : X → List A) (xs : List X) (i : ℕ) (x : X) (old new whole : List A) → i < length xs → x ≡ get_or xs i x
    → new ≡ old ++ f x → old ++ flat_map f (drop i xs) ≡ whole → new ++ flat_map f (drop (i + 1) xs) ≡ whole
added f xs i x old new whole low is more before =
    grew old (f x) new (flat_map f (drop (i + 1) xs)) whole more (ap (λ l. old ++ l) (sym (text_at f xs i x low is)) ∙ before)

-- no item is left
pub done : {X A : Type 0} (f : X → List A) (xs : List X) (i : ℕ) (text whole : List A) → length xs ≤ i → text ++ flat_map f (drop i xs) ≡ whole → text ≡ whole
done f xs i text whole all is = sym (append-nil text) ∙ ap (λ l. text ++ flat_map f l) (sym (drop_of_length-le xs all)) ∙ is

-- what holds of the items before a place and of that at it
pub all_at : {X : Type 0} (P : X → Type 0) (xs : List X) (i : ℕ) (x : X) → i < length xs → x ≡ get_or xs i x → All P (take i xs) → P x → All P (take (i + 1) xs)
all_at P xs i x low is all p = All-more P xs i x low all (subst P is p)

pub all_in : {X : Type 0} (P : X → Type 0) (xs : List X) (i : ℕ) → length xs ≤ i → All P (take i xs) → All P xs
all_in P xs i low all = subst (All P) (take_all i xs low) all

-- the item at a place is the first that isn't good
pub first_at : {X : Type 0} (Good Bad : X → Type 0) (xs : List X) (i : ℕ) (x : X) → i < length xs → x ≡ get_or xs i x → All Good (take i xs) → Bad x → IsFirst Good Bad xs
first_at Good Bad xs i x low is good bad = record {
  before = take i xs;
  item = x;
  after = drop (i + 1) xs;
  cut = sym (take-append-drop i xs) ∙ ap (λ l. take i xs ++ l) (next_at xs i x low is);
  good = good;
  bad = bad;
}

-- what holds where a call didn't fail
pub of_ok : {T E P : Type 0} (result : Result T E) → is_err result ≡ false → OnOk result P → P
of_ok (Ok x) e p = p
of_ok (Err x) e p = cc
