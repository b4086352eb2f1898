-- The first row that wants a name which isn't given, row after row and section after section.
use Rattle.std.proofs.Common.{◌≡◌, ◌<◌, ◌≤◌, ℕ, List, [], ◌∷◌, ◌++◌, length, get_or, refl, sym, ap, subst, ◌∙◌, arith, suc, zero, Bool, true, false, IsTrue, Option, Some, None, IfSome, IfNone, slice_get, All, append_assoc}
use Rattle.std.proofs.lemmas.List.{length-map}
use Rattle.std.proofs.lemmas.List.Elements.{All-append, All-cons, All-nil}
use Rattle.std.proofs.lemmas.Option.{slice_get_within}
use Rattle.std.specs.Option.{is_some}
use mathlib.Core.Bool.{not}
use Rattle.dvg_rows.specs.declared.source.Source.{Source}
use Rattle.dvg_rows.specs.declared.part.Part.{Part}
use Rattle.dvg_rows.specs.declared.row.Head as held_head
use Rattle.dvg_rows.specs.declared.row.Row as held_row
use Rattle.dvg_named.specs.FirstUnknown.{FirstOf, IsFirstOf, WantsIn, WantsNone, WantsRow, section_held}
use Rattle.dvg_rows.specs.HeldRows.{rows_of}
use Rattle.dvg_named.specs.LineNumbers.{Entry, entries_last, entries_of, entry_of}
use Rattle.dvg_named.specs.Places.{Laid}
use Rattle.dvg_rows.specs.RowValues.{row_of}
use Rattle.dvg_rows.specs.Rows.{Row}
use Rattle.dvg_named.specs.Sections.{Section}
use Rattle.dvg_named.specs.SketchReading.{section_in}
use Rattle.dvg_named.specs.Ungiven.{IsFirstUngiven, WantsAt}

-- a test that finds nothing
pub none_iff : {X : Type 0} {P : X → Type 0} {Q : Type 0} (found : Option X) (r : Bool) → is_some found ≡ not r
    → IfSome found P → IfNone found Q → ((x : X) → P x → Q → ⊥) → (IsTrue r → Q) × (Q → IsTrue r)
none_iff None true e p q both = (λ h. q, λ h. refl)
none_iff None false e p q both = absurd cc
none_iff (Some x) true e p q both = absurd cc
none_iff (Some x) false e p q both = (λ h. absurd (cc), λ h. absurd (both x p h))

-- what follows where nothing is found
pub none_kept : {X : Type 0} {P Q : Type 0} (found : Option X) → IfNone found P → (P → Q) → IfNone found Q
none_kept None h f = f h
none_kept (Some x) h f = h

-- ---- first of two lists

pub first_left : (P : Entry → Type 0) (xs ys : List Entry) (n : ℕ) → IsFirstOf P xs n → IsFirstOf P (xs ++ ys) n
first_left P xs ys n h = record {
  before = h.before;
  entry = h.entry;
  after = h.after ++ ys;
  cut = ap (λ l. l ++ ys) h.cut ∙ append_assoc h.before (h.entry ∷ h.after) ys;
  none = h.none;
  is = h.is;
  number = h.number;
}

pub first_right : (P : Entry → Type 0) (xs ys : List Entry) (found : Option ℕ) → All (λ entry. ¬ P entry) xs
    → FirstOf P ys found → FirstOf P (xs ++ ys) found
first_right P xs ys None none h = All-append (λ entry. ¬ P entry) xs ys none h
first_right P xs ys (Some n) none h = record {
  before = xs ++ h.before;
  entry = h.entry;
  after = h.after;
  cut = ap (λ l. xs ++ l) h.cut ∙ sym (append_assoc xs h.before (h.entry ∷ h.after));
  none = All-append (λ entry. ¬ P entry) xs h.before none h.none;
  is = h.is;
  number = h.number;
}

-- ---- the rows of one section

module _ (laid : List Laid) (sections : List Section) (s : ℕ) (section : Section)
    (inside : slice_get sections s ≡ Some section) where
  abbrev P : Entry → Type 0
  P = WantsIn laid sections

  in_section : (row : held_row.Row) (source : Source) → WantsRow laid section (row_of row) → P (entry_of s row source)
  in_section row source h = record { section = section; inside = inside; wants = h }

  of_section : (row : held_row.Row) (source : Source) → P (entry_of s row source) → WantsRow laid section (row_of row)
  of_section row source h =
      let both : Some h.section ≡ Some section = sym h.inside ∙ inside in
      let same : h.section ≡ section = cc in
      subst (λ section. WantsRow laid section (row_of row)) same h.wants

  abbrev Nowhere : List held_row.Row → Type 0
  Nowhere rows = (place : ℕ) (row : Row) → slice_get (rows_of rows) place ≡ Some row → ¬ WantsRow laid section row

  none_of : (rows : List held_row.Row) (sources : List Source) → Nowhere rows → All (λ entry. ¬ P entry) (entries_of s rows sources)
  none_of [] sources none = All-nil (λ entry. ¬ P entry)
  none_of (row ∷ rows) [] none = All-nil (λ entry. ¬ P entry)
  none_of (row ∷ rows) (source ∷ sources) none =
      All-cons (λ entry. ¬ P entry) (entry_of s row source) (entries_of s rows sources)
      (λ wants. none 0 (row_of row) refl (of_section row source wants))
      (none_of rows sources (λ place other stands. none (suc place) other stands))

  first_of : (rows : List held_row.Row) (sources : List Source) (place : ℕ) (row : Row) (d : Source)
      → slice_get (rows_of rows) place ≡ Some row → WantsRow laid section row
      → ((earlier : ℕ) (row : Row) → earlier < place → slice_get (rows_of rows) earlier ≡ Some row → ¬ WantsRow laid section row)
      → place < length sources → IsFirstOf P (entries_of s rows sources) (get_or sources place d).number
  first_of [] sources place row d stands wants none low = absurd cc
  first_of (held ∷ rows) [] place row d stands wants none low = absurd (omega (arith, low))
  first_of (held ∷ rows) (source ∷ sources) zero row d stands wants none low =
      let same : row_of held ≡ row = cc in
      record {
        before = [];
        entry = entry_of s held source;
        after = entries_of s rows sources;
        cut = refl;
        none = All-nil (λ entry. ¬ P entry);
        is = in_section held source (subst (WantsRow laid section) (sym same) wants);
        number = refl;
      }
  first_of (held ∷ rows) (source ∷ sources) (suc place) row d stands wants none low =
      first_right P (entry_of s held source ∷ []) (entries_of s rows sources) (Some (get_or sources place d).number)
      (All-cons (λ entry. ¬ P entry) (entry_of s held source) []
      (λ here. none 0 (row_of held) (omega arith) refl (of_section held source here)) (All-nil (λ entry. ¬ P entry)))
      (first_of rows sources place row d stands wants
      (λ earlier other before is. none (suc earlier) other (omega (arith, before)) is) (omega (arith, low)))

pub wants_at : (laid : List Laid) (section : Section) (place : ℕ) (row : Row) → slice_get section.rows place ≡ Some row
    → WantsRow laid section row → WantsAt laid section place
wants_at laid section place row stands h = record {
  row = row;
  stands = stands;
  doing = h.doing;
  does = h.does;
  ungiven = h.ungiven;
}

wants_row : (laid : List Laid) (section : Section) (place : ℕ) → (h : WantsAt laid section place) → WantsRow laid section h.row
wants_row laid section place h = record { doing = h.doing; does = h.does; ungiven = h.ungiven }

-- no row, where none of so many wants it
pub wants_nowhere : (laid : List Laid) (head : Option held_head.Head) (rows : List held_row.Row) (n : ℕ) → length rows ≤ n
    → ((k : ℕ) → k < n → ¬ WantsAt laid (section_held head rows) k) → WantsNone laid (section_held head rows)
wants_nowhere laid head rows n all none place wants =
    let low = slice_get_within (rows_of rows) place wants.row wants.stands in
    let count = length-map rows row_of in
    none place (omega (arith, low, count, all)) wants

module _ {A : Type 0} (laid : List Laid) (part : Part A) (sections : List Section) (s : ℕ)
    (inside : slice_get sections s ≡ Some (section_in part)) where
  pub none_in : WantsNone laid (section_in part) → All (λ entry. ¬ WantsIn laid sections entry) (entries_last s part)
  none_in none = none_of laid sections s (section_in part) inside part.rows.items part.sources.items
      (λ place row stands wants. none place (wants_at laid (section_in part) place row stands wants))

  pub first_in : (place : ℕ) (source : Source) → IsFirstUngiven laid (section_in part) place → place < length part.sources.items
      → source ≡ get_or part.sources.items place source
      → IsFirstOf (WantsIn laid sections) (entries_last s part) source.number
  first_in place source h low is =
      subst (λ (source : Source). IsFirstOf (WantsIn laid sections) (entries_last s part) source.number) (sym is)
      (first_of laid sections s (section_in part) inside part.rows.items part.sources.items place h.wants.row source
      h.wants.stands (wants_row laid (section_in part) place h.wants)
      (λ earlier row before stands wants. h.first earlier before (wants_at laid (section_in part) earlier row stands wants))
      low)
