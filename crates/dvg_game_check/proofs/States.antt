-- What is found of all places, once that of one is known.
use Rattle.std.proofs.Common.{◌≡◌, ◌≢◌, ℕ, zero, suc, ◌+◌, ◌-◌, ◌<◌, ◌≤◌, ◌&&◌, Bool, true, false, refl, sym, ◌∙◌, ap, subst, arith, get_or, length, set, ◌⊎◌, inl, inr, ◌++◌}
use Rattle.std.specs.Prelude.{Option, None, Some, List, [], ◌∷◌, nat_eq, nat_le, nat_lt, if◌then◌else◌}
use Rattle.std.proofs.lemmas.Bool.{eqb-true, leb-true, ltb-true}
use Rattle.std.proofs.Common.{eq-eqb}
use Rattle.std.proofs.lemmas.List.{get_or-set_other}
use Rattle.std.proofs.lemmas.Grind.{get_or-set_at}
use Rattle.std.proofs.Math.ListN.{get_or-append}
use Rattle.std.proofs.Math.Nat.{eq-or-lt_of_le}
use Rattle.std.proofs.Math.Seq.{get_or-append_seam}
use Rattle.dvg_game_check.specs.declared.note.Note.{Note as MadeNote}
use Rattle.dvg_game_check.specs.Rules.{notes_in, option_meant}
use Rattle.dvg_game_words.specs.Checker.{Notes, first, is_code, noted, places}
use Rattle.dvg_game_check.specs.declared.state.State.{State}
use Rattle.dvg_game_check.specs.Least.{AreUnder, UnderAt, found_meant, state_meant, states_in}
use Rattle.dvg_game_check.proofs.Loops.{code_true}
use Rattle.dvg_game_check.proofs.Suited.{both}

pub from_first : (at : ℕ) → is_code at ≡ true → (first ≤ at) × (at < first + places)
from_first at h =
    let two = both (nat_le first at) (nat_lt at (first + places)) h in
    (leb-true first at two.0, ltb-true at (first + places) two.1)

-- of places where no code stands, nothing is said
pub where_code : (found notes : Notes) → ((at : ℕ) → is_code at ≡ true → UnderAt (found at) (notes at)) → AreUnder found notes
where_code found notes h at = by (is_code at) refl
  where
    by : (b : Bool) → is_code at ≡ b → UnderAt (noted found at) (noted notes at)
    by true e = subst (λ b. UnderAt (if b then found at else None) (if b then notes at else None)) (sym e) (h at e)
    by false e = subst (λ b. UnderAt (if b then found at else None) (if b then notes at else None)) (sym e) tt

pub at_code : (found notes : Notes) → AreUnder found notes → (at : ℕ) → is_code at ≡ true → UnderAt (found at) (notes at)
at_code found notes h at e = subst (λ b. UnderAt (if b then found at else None) (if b then notes at else None)) e (h at)

pub noted_is : (notes : Notes) (at : ℕ) → is_code at ≡ true → noted notes at ≡ notes at
noted_is notes at e = ap (λ b. if b then notes at else None) e

pub under_set : (states : List (Option State)) (i at : ℕ) (s : State) (notes : Notes) → i < length states → at ≡ first + i
    → is_code at ≡ true → AreUnder (states_in states) notes → UnderAt (Some (state_meant s)) (noted notes at)
    → AreUnder (states_in (set states i (Some s))) notes
under_set states i at s notes less is code under here =
    where_code (states_in (set states i (Some s))) notes (λ b e. by b e (nat_eq (b - first) i) refl)
  where
    by : (b : ℕ) → is_code b ≡ true → (same : Bool) → nat_eq (b - first) i ≡ same
        → UnderAt (states_in (set states i (Some s)) b) (notes b)
    by b e true k =
        let n : b - first ≡ i = eqb-true (b - first) i k in
        let low = (from_first b e).0 in
        let two : at ≡ b = omega (arith, is, n, low) in
        let new : found_meant (get_or (set states i (Some s)) (b - first) None) ≡ Some (state_meant s) =
        ap found_meant (get_or-set_at states i (b - first) (Some s) None n less) in
        subst (λ note. UnderAt note (notes b)) (sym new)
        (subst (λ note. UnderAt (Some (state_meant s)) note) (ap (noted notes) two ∙ noted_is notes b e) here)
    by b e false k =
        let other : b - first ≢ i = λ same. (let f : false ≡ true = sym k ∙ eq-eqb (b - first) i same in cc) in
        let old : found_meant (get_or (set states i (Some s)) (b - first) None) ≡ found_meant (get_or states (b - first) None) =
        ap found_meant (get_or-set_other states i (b - first) (Some s) None other) in
        subst (λ note. UnderAt note (notes b)) (sym old) (at_code (states_in states) notes under b e)

-- of no place anything is found
pub nothing_more : (states : List (Option State)) → ((k : ℕ) → get_or states k None ≡ None)
    → (k : ℕ) → get_or (states ++ None ∷ []) k None ≡ None
nothing_more [] h zero = refl
nothing_more [] h (suc k) = refl
nothing_more (s ∷ states) h zero = h 0
nothing_more (s ∷ states) h (suc k) = nothing_more states (λ j. h (suc j)) k

pub nothing_under : (states : List (Option State)) → ((k : ℕ) → get_or states k None ≡ None) → (notes : Notes)
    → AreUnder (states_in states) notes
nothing_under states h notes =
    where_code (states_in states) notes
    (λ at e. subst (λ note. UnderAt note (notes at)) (sym (ap found_meant (h (at - first)))) tt)

-- the notes of so many places are under those that are accepted
abbrev pub UnderFor : List (Option MadeNote) → Notes → ℕ → Type 0
UnderFor made notes n = (k : ℕ) → k < n → UnderAt (option_meant (get_or made k None)) (noted notes (first + k))

pub under_more : (made : List (Option MadeNote)) (one : Option MadeNote) (notes : Notes) (n : ℕ) → length made ≡ n
    → UnderAt (option_meant one) (noted notes (first + n)) → UnderFor made notes n → UnderFor (made ++ one ∷ []) notes (n + 1)
under_more made one notes n long here old k less =
    elim (eq-or-lt_of_le {n = k} {m = n} (omega (arith, less)))
    as (λ _. UnderAt (option_meant (get_or (made ++ one ∷ []) k None)) (noted notes (first + k))) [
      | inl same ↦
          let there : get_or (made ++ one ∷ []) k None ≡ one =
          ap (λ j. get_or (made ++ one ∷ []) j None) (same ∙ sym long) ∙ get_or-append_seam made one [] None in
          subst (λ note. UnderAt (option_meant note) (noted notes (first + k))) (sym there)
          (subst (λ j. UnderAt (option_meant one) (noted notes (first + j))) (sym same) here)
      | inr fewer ↦
          subst (λ note. UnderAt (option_meant note) (noted notes (first + k)))
          (sym (get_or-append made (one ∷ []) None k (omega (arith, fewer, long)))) (old k fewer)
    ]

pub under_all : (made : List (Option MadeNote)) (notes : Notes) → UnderFor made notes places → AreUnder (notes_in made) notes
under_all made notes h =
    where_code (notes_in made) notes (λ at e.
    let range = from_first at e in
    let n : first + (at - first) ≡ at = omega (arith, range.0) in
    let less : at - first < places = omega (arith, range.0, range.1) in
    let one : UnderAt (notes_in made at) (noted notes at) =
    subst (λ a. UnderAt (option_meant (get_or made (at - first) None)) (noted notes a)) n (h (at - first) less) in
    subst (λ note. UnderAt (notes_in made at) note) (noted_is notes at e) one)

pub under_index : (states : List (Option State)) (notes : Notes) (i : ℕ) → i < 5491 → AreUnder (states_in states) notes
    → UnderAt (found_meant (get_or states i None)) (noted notes (first + i))
under_index states notes i less under =
    let at : ℕ = first + i in
    let code : is_code at ≡ true = code_true at (omega arith) (omega (arith, less)) in
    let e : at - first ≡ i = omega arith in
    let one : UnderAt (states_in states at) (noted notes at) =
    subst (λ note. UnderAt (states_in states at) note) (sym (noted_is notes at code)) (at_code (states_in states) notes under at code) in
    subst (λ j. UnderAt (found_meant (get_or states j None)) (noted notes at)) e one
