-- The first row that wants a name which isn't given, section after section.
use Rattle.std.proofs.Common.{◌≡◌, ◌<◌, ◌≤◌, ℕ, ◌+◌, List, [], ◌∷◌, ◌++◌, length, map, take, get_or, refl, sym, ap, subst, ◌∙◌, arith, suc, zero, Option, Some, None, IfNone, is_some, true, false, slice_get, All}
use Rattle.std.proofs.lemmas.List.{length-take-le, map_more, take_all, take_more}
use Rattle.std.proofs.lemmas.List.Elements.{All-append, All-contains, All-contains_itself, All-push, Contains-append_left, Contains-append_right}
use Rattle.dvg_rows.specs.declared.part.Part.{Part}
use Rattle.dvg_named.specs.FirstUnknown.{FirstOf, IsFirstOf, WantsNone, all_sections, entries_held}
use Rattle.dvg_named.specs.LineNumbers.{Entry, entries_from, entries_last}
use Rattle.dvg_named.specs.Places.{Laid}
use Rattle.dvg_named.specs.SketchReading.{section_in}
use Rattle.dvg_named.proofs.EntriesMore.{entries_snoc}
use Rattle.dvg_named.proofs.UnknownRows.{first_left, first_right, none_kept}

all_left : {X : Type 0} (P : X → Type 0) (xs ys : List X) → All P (xs ++ ys) → All P xs
all_left P xs ys all = λ k d low. All-contains P (xs ++ ys) (get_or xs k d) all
    (Contains-append_left xs ys (get_or xs k d) (All-contains_itself xs k d low))

all_right : {X : Type 0} (P : X → Type 0) (xs ys : List X) → All P (xs ++ ys) → All P ys
all_right P xs ys all = λ k d low. All-contains P (xs ++ ys) (get_or ys k d) all
    (Contains-append_right xs ys (get_or ys k d) (All-contains_itself ys k d low))

-- ---- where a section stands

pub section_at : {A : Type 0} (closed : List (Part A)) (last : Part A) (i : ℕ) (part : Part A) → i < length closed
    → part ≡ get_or closed i part → slice_get (all_sections closed last) i ≡ Some (section_in part)
section_at [] last i part low is = absurd (omega (arith, low))
section_at (first ∷ others) last zero part low is = ap (λ p. Some (section_in p)) (sym is)
section_at (first ∷ others) last (suc i) part low is = section_at others last i part (omega (arith, low)) is

pub last_at : {A : Type 0} (closed : List (Part A)) (last : Part A)
    → slice_get (all_sections closed last) (length closed) ≡ Some (section_in last)
last_at [] last = refl
last_at (first ∷ others) last = last_at others last

-- ---- the rows of sections

abbrev NoneIn : (Entry → Type 0) → List Entry → Type 0
NoneIn P entries = All (λ entry. ¬ P entry) entries

module _ {A : Type 0} (P : Entry → Type 0) where
  -- none in the sections before one, and none in that one
  pub none_more : (closed : List (Part A)) (i : ℕ) (part : Part A) → i < length closed → part ≡ get_or closed i part
      → NoneIn P (entries_from 0 (take i closed)) → NoneIn P (entries_last i part) → NoneIn P (entries_from 0 (take (i + 1) closed))
  none_more closed i part low is before here =
      let count : 0 + length (take i closed) ≡ i = omega (arith, low, length-take-le i closed (omega (arith, low))) in
      let all : entries_from 0 (take (i + 1) closed) ≡ entries_from 0 (take i closed) ++ entries_last i part =
      ap (entries_from 0) (take_more closed i part low ∙ ap (λ p. take i closed ++ p ∷ []) (sym is))
      ∙ entries_snoc 0 (take i closed) part ∙ ap (λ n. entries_from 0 (take i closed) ++ entries_last n part) count in
      subst (NoneIn P) (sym all)
      (All-append (λ entry. ¬ P entry) (entries_from 0 (take i closed)) (entries_last i part) before here)

  found_from : (s : ℕ) (closed : List (Part A)) (i : ℕ) (part : Part A) (n : ℕ) → i < length closed
      → part ≡ get_or closed i part → NoneIn P (entries_from s (take i closed)) → IsFirstOf P (entries_last (s + i) part) n
      → IsFirstOf P (entries_from s closed) n
  found_from s [] i part n low is none h = absurd (omega (arith, low))
  found_from s (first ∷ others) zero part n low is none h =
      first_left P (entries_last s first) (entries_from (s + 1) others) n
      (subst (λ p. IsFirstOf P (entries_last s p) n) is
      (subst (λ m. IsFirstOf P (entries_last m part) n) (omega arith) h))
  found_from s (first ∷ others) (suc i) part n low is none h =
      let front = entries_last s first in
      let rest = entries_from (s + 1) (take i others) in
      let at : s + suc i ≡ s + 1 + i = omega arith in
      first_right P front (entries_from (s + 1) others) (Some n)
      (all_left (λ entry. ¬ P entry) front rest none)
      (found_from (s + 1) others i part n (omega (arith, low)) is (all_right (λ entry. ¬ P entry) front rest none)
      (subst (λ m. IsFirstOf P (entries_last m part) n) at h))

  -- none in the sections before one, and here is the first
  pub found_here : (closed : List (Part A)) (last : Part A) (i : ℕ) (part : Part A) (n : ℕ) → i < length closed
      → part ≡ get_or closed i part → NoneIn P (entries_from 0 (take i closed)) → IsFirstOf P (entries_last i part) n
      → IsFirstOf P (entries_held closed last) n
  found_here closed last i part n low is none h =
      first_left P (entries_from 0 closed) (entries_last (length closed) last) n
      (found_from 0 closed i part n low is none (subst (λ m. IsFirstOf P (entries_last m part) n) (omega arith) h))

  pub some_here : (closed : List (Part A)) (last : Part A) (i : ℕ) (part : Part A) (found : Option ℕ) → i < length closed
      → part ≡ get_or closed i part → NoneIn P (entries_from 0 (take i closed)) → is_some found ≡ true
      → FirstOf P (entries_last i part) found → FirstOf P (entries_held closed last) found
  some_here closed last i part None low is none some h = absurd cc
  some_here closed last i part (Some n) low is none some h = found_here closed last i part n low is none h

  -- none in all sections before the last one
  pub found_last : (closed : List (Part A)) (last : Part A) (i : ℕ) (found : Option ℕ) → length closed ≤ i
      → NoneIn P (entries_from 0 (take i closed)) → FirstOf P (entries_last (length closed) last) found
      → FirstOf P (entries_held closed last) found
  found_last closed last i found all none h =
      first_right P (entries_from 0 closed) (entries_last (length closed) last) found
      (subst (λ l. NoneIn P (entries_from 0 l)) (take_all i closed all) none) h

-- ---- whether a row was found

pub some_known : (P : Type 0) (found : Option ℕ) → is_some found ≡ true → IfNone found P
some_known P None some = absurd cc
some_known P (Some n) some = tt

pub none_found : (found : Option ℕ) → is_some found ≡ false → found ≡ None
none_found None none = refl
none_found (Some n) none = absurd cc

-- ---- sections of which no row wants it

pub known_more : {A : Type 0} (laid : List Laid) (closed : List (Part A)) (i : ℕ) (part : Part A) → i < length closed
    → part ≡ get_or closed i part → All (WantsNone laid) (map section_in (take i closed)) → WantsNone laid (section_in part)
    → All (WantsNone laid) (map section_in (take (i + 1) closed))
known_more laid closed i part low is before here =
    subst (All (WantsNone laid))
    (sym (map_more section_in closed i part low ∙ ap (λ p. map section_in (take i closed) ++ section_in p ∷ []) (sym is)))
    (All-push (WantsNone laid) (map section_in (take i closed)) (section_in part) before here)

pub known_all : {A : Type 0} (laid : List Laid) (closed : List (Part A)) (last : Part A) (i : ℕ) (found : Option ℕ)
    → length closed ≤ i → All (WantsNone laid) (map section_in (take i closed)) → IfNone found (WantsNone laid (section_in last))
    → IfNone found (All (WantsNone laid) (all_sections closed last))
known_all laid closed last i found all before here =
    none_kept found here (λ none. All-push (WantsNone laid) (map section_in closed) (section_in last)
    (subst (λ l. All (WantsNone laid) (map section_in l)) (take_all i closed all) before) none)
