-- The items of a listing are those of the cutting of its words.
use Rattle.std.proofs.Common.{◌≡◌, ℕ, ◌+◌, List, [], ◌∷◌, ◌++◌, length, map, refl, sym, ap, subst, ◌∙◌, None}
use Rattle.std.specs.Iterator.{Yields}
use Rattle.dvg_code.specs.declared.instr.Instr.{Instr}
use Rattle.dvg_code.specs.declared.listing.Listed.{Listed}
use Rattle.dvg_code.specs.declared.listing.Listed.TheVariants.{At, Cut}
use Rattle.dvg_code.specs.declared.listing.Listing.{Listing}
use Rattle.dvg_code.specs.Spelling.{Spells}
use Rattle.dvg_code.specs.Cutting.{IsCut, IsRest, Placed, Cuts, ends, goes}
use Rattle.dvg_code.specs.Listing.{NextListed, listed_rest, place_of, words_left}
use Rattle.dvg_code.proofs.Unique.{same_front, rest_begins_none, cut_is_rest}
use Rattle.dvg_code.proofs.Cuttings.{same_cuts}

-- the item of an instruction
abbrev listed : Placed → Listed
listed item = At item.place item.instr

-- what a cutting gives that no item was taken of
abbrev given : List Placed → ℕ → List ℕ → List Listed
given items end rest = map listed items ++ listed_rest end rest

-- the front that a listing gave is the first of each cutting of its words
pub record GoesOn (place : ℕ) (after : List ℕ) (item : Placed) (items : List Placed) (end : ℕ) (rest : List ℕ) : Type 0 where
  pub more : List Placed
  pub is : items ≡ item ∷ more
  pub cuts : Cuts (place + length item.words) after more end rest

pub goes_on : (place end : ℕ) (words front after rest : List ℕ) (instr : Instr) (items : List Placed) → Spells instr front → words ≡ front ++ after
    → Cuts place words items end rest → GoesOn place after (record { place = place; instr = instr; words = front }) items end rest
goes_on place end words front after rest instr items spelled parts (ends is_rest) =
    absurd (rest_begins_none words is_rest instr (length front) (record { front = front; after = after; parts = parts; spells = spelled; counted = refl }))
goes_on place end words front after rest instr items spelled parts (goes {instr = b} {front = front'} {after = after'} {items = more} spelled' parts' cuts) =
    let same = same_front b instr front' front after' after spelled' spelled (sym parts' ∙ parts) in
    record {
      more = more;
      is = cc (same.0, same.1);
      cuts = subst (λ f. Cuts (place + length f) after more end rest) same.1 (subst (λ l. Cuts (place + length front') l more end rest) same.2 cuts);
    }

-- a cut has a word
no_cut_of_none : (words : List ℕ) → IsCut words → words ≡ [] → ⊥
no_cut_of_none words cut e = let one = cut.2 in cc

-- where no words are left, nothing is given any more
gave_none : (s t : Listing) (xs : List Listed) → words_left s ≡ [] → Yields NextListed s xs t → xs ≡ []
gave_none s t [] e y = refl
gave_none s t (At place instr ∷ xs) e y = absurd (rest_begins_none [] tt instr (length y.1.1.0) (record { front = y.1.1.0; after = words_left y.0; parts = sym e ∙ y.1.1.2; spells = y.1.1.1; counted = refl }))
gave_none s t (Cut place ∷ xs) e y = absurd (no_cut_of_none (words_left s) y.1.1 e)

-- a cutting of a rest has no item
pub only_rest : (place end : ℕ) (words rest : List ℕ) (items : List Placed) → IsRest words → Cuts place words items end rest → (items ≡ []) × (end ≡ place) × (rest ≡ words)
only_rest place end words rest items is_rest cuts = same_cuts place end place words rest words items [] cuts (ends is_rest)

-- a cut is the last item of a listing
cut_is_listed : (words : List ℕ) (place : ℕ) → IsCut words → listed_rest place words ≡ Cut place ∷ []
cut_is_listed words place cut = ap (listed_rest place) cut.2

-- what a listing gave is a front of what the cutting of its words gives, and all of it where the listing went to its end
pub record Gave (items : List Placed) (end : ℕ) (rest : List ℕ) (xs : List Listed) (t : Listing) : Type 0 where
  pub more : List Listed
  pub is : given items end rest ≡ xs ++ more
  pub whole : (u : Listing) → NextListed t None u → more ≡ []

pub gave : (s t : Listing) (xs : List Listed) (items : List Placed) (end : ℕ) (rest : List ℕ) → Yields NextListed s xs t
    → Cuts (place_of s) (words_left s) items end rest → Gave items end rest xs t
gave s t [] items end rest y cuts = record {
  more = given items end rest;
  is = refl;
  whole = λ u step.
      let none : words_left s ≡ [] = ap words_left y ∙ step.0 in
      let same = only_rest (place_of s) end [] rest items tt (subst (λ l. Cuts (place_of s) l items end rest) none cuts) in
      ap (λ l. map listed l ++ listed_rest end rest) same.0 ∙ ap (listed_rest end) same.2;
}
gave s t (At place instr ∷ xs) items end rest y cuts =
    let j = y.0 in
    let step = y.1 in
    let front = step.1.0 in
    let on = goes_on (place_of s) end (words_left s) front (words_left j) rest instr items step.1.1 step.1.2 cuts in
    let further = gave j t xs on.more end rest y.2 (subst (λ k. Cuts k (words_left j) on.more end rest) (sym step.1.3) on.cuts) in
    record {
      more = further.more;
      is = ap (λ l. given l end rest) on.is ∙ ap (λ k. At k instr ∷ given on.more end rest) (sym step.0) ∙ ap (λ l. At place instr ∷ l) further.is;
      whole = further.whole;
    }
gave s t (Cut place ∷ xs) items end rest y cuts =
    let j = y.0 in
    let step = y.1 in
    let same = only_rest (place_of s) end (words_left s) rest items (cut_is_rest (words_left s) step.1) cuts in
    let last : listed_rest end rest ≡ Cut place ∷ [] =
    ap (listed_rest end) same.2 ∙ ap (λ k. listed_rest k (words_left s)) same.1 ∙ cut_is_listed (words_left s) (place_of s) step.1 ∙ ap (λ k. Cut k ∷ []) (sym step.0) in
    let none = gave_none j t xs step.2 y.2 in
    record {
      more = [];
      is = ap (λ l. given l end rest) same.0 ∙ last ∙ ap (λ l. Cut place ∷ (l ++ [])) (sym none);
      whole = λ u step. refl;
    }
