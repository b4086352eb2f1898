-- Each row of a sketch stands in one of its lines.
use Rattle.std.proofs.Common.{◌≡◌, ◌⊎◌, ◌∙◌, ℕ, zero, suc, inl, inr, List, [], ◌∷◌, ◌++◌, Some, length, ap, append_assoc, arith, refl, slice_get, subst, sym, length-append}
use Rattle.dvg_read.specs.Texts.{unpassed}
use Rattle.dvg_rows.specs.Rows.{IsRowLine, Row}
use Rattle.dvg_named.specs.Sections.{Section, Spelled, SpellsSketch, sections}
use Rattle.dvg_named.specs.SketchSteps.{SketchTakes, adds, begins, begun, tells, tops, with_row}
use Rattle.dvg_named.proofs.RowsStay.{HasAt, HasRow, at_top}

-- ---- a row of a section with a row more

pub no_row : (row : Row) → HasRow [] row → ⊥
no_row row h = let count = ap length h.cut in omega (arith, count, length-append h.before (row ∷ h.after))

row_cases : (rows before after : List Row) (next row : Row) → rows ++ next ∷ [] ≡ before ++ row ∷ after
    → HasRow rows row ⊎ (row ≡ next)
row_cases [] [] after next row e = inr (cc)
row_cases [] (first ∷ before) after next row e =
    let count = ap length e in absurd (omega (arith, count, length-append before (row ∷ after)))
row_cases (first ∷ rows) [] after next row e =
    let same : first ≡ row = cc in
    inl (record { before = []; after = rows; cut = ap (λ row. row ∷ rows) same })
row_cases (first ∷ rows) (other ∷ before) after next row e = more (row_cases rows before after next row (cc))
  where
    more : HasRow rows row ⊎ (row ≡ next) → HasRow (first ∷ rows) row ⊎ (row ≡ next)
    more (inl h) = inl (record { before = first ∷ h.before; after = h.after; cut = ap (λ l. first ∷ l) h.cut })
    more (inr same) = inr same

-- the row at a place is one of these
pub row_at : (rows : List Row) (place : ℕ) (row : Row) → slice_get rows place ≡ Some row → HasRow rows row
row_at [] place row is = absurd cc
row_at (first ∷ rows) zero row is =
    let same : first ≡ row = cc in
    record { before = []; after = rows; cut = ap (λ row. row ∷ rows) same }
row_at (first ∷ rows) (suc place) row is =
    let h = row_at rows place row is in
    record { before = first ∷ h.before; after = h.after; cut = ap (λ l. first ∷ l) h.cut }

-- ---- a row of a sketch with a line more

-- it stood there, or it is the row of this section that the line spells
abbrev Came : List Section → (place : ℕ) → Row → (last : ℕ) → Row → Type 0
Came all place row last next = HasAt all place row ⊎ ((place ≡ last) × (row ≡ next))

further : (first : Section) (all : List Section) (place last : ℕ) (row next : Row) → Came all place row last next
    → Came (first ∷ all) (suc place) row (suc last) next
further first all place last row next (inl h) = inl (record { section = h.section; stands = h.stands; inside = h.inside })
further first all place last row next (inr (at, is)) = inr (ap suc at, is)

from_last : (front : List Section) (last : Section) (next : Row) (place : ℕ) (row : Row)
    → HasAt (front ++ with_row last next ∷ []) place row → Came (front ++ last ∷ []) place row (length front) next
from_last [] last next zero row h =
    let both : Some (with_row last next) ≡ Some h.section = h.stands in
    let same : h.section ≡ with_row last next = cc in
    let inside = subst (λ (section : Section). HasRow section.rows row) same h.inside in
    by_row (row_cases last.rows inside.before inside.after next row inside.cut)
  where
    by_row : HasRow last.rows row ⊎ (row ≡ next) → Came (last ∷ []) zero row zero next
    by_row (inl inside) = inl (record { section = last; stands = refl; inside = inside })
    by_row (inr same) = inr (refl, same)
from_last [] last next (suc place) row h = let none = h.stands in absurd cc
from_last (first ∷ front) last next zero row h = inl (record { section = h.section; stands = h.stands; inside = h.inside })
from_last (first ∷ front) last next (suc place) row h =
    let rest : HasAt (front ++ with_row last next ∷ []) place row =
    record { section = h.section; stands = h.stands; inside = h.inside } in
    further first (front ++ last ∷ []) place (length front) row next (from_last front last next place row rest)

from_begun : (all : List Section) (next : Section) (place : ℕ) (row : Row) → next.rows ≡ []
    → HasAt (all ++ next ∷ []) place row → HasAt all place row
from_begun [] next zero row none h =
    let both : Some next ≡ Some h.section = h.stands in
    let same : h.section ≡ next = cc in
    absurd (no_row row (subst (λ rows. HasRow rows row) none (subst (λ (section : Section). HasRow section.rows row) same h.inside)))
from_begun [] next (suc place) row none h = let stands = h.stands in absurd cc
from_begun (first ∷ all) next zero row none h = record { section = h.section; stands = h.stands; inside = h.inside }
from_begun (first ∷ all) next (suc place) row none h =
    let rest : HasAt (all ++ next ∷ []) place row =
    record { section = h.section; stands = h.stands; inside = h.inside } in
    let found = from_begun all next place row none rest in
    record { section = found.section; stands = found.stands; inside = found.inside }

-- the row stood there, or the line spells it
abbrev pub Comes : Spelled → Spelled → List ℕ → (place : ℕ) → Row → Type 0
Comes s t l place row = HasAt (sections s) place row ⊎ ((place ≡ length t.others) × IsRowLine row l)

spelled_row : (s t : Spelled) (l : List ℕ) (place last : ℕ) (row next : Row) → IsRowLine next l → last ≡ length t.others
    → Came (sections s) place row last next → Comes s t l place row
spelled_row s t l place last row next is e (inl h) = inl h
spelled_row s t l place last row next is e (inr (at, same)) =
    inr (at ∙ e, subst (λ row. IsRowLine row l) (sym same) is)

pub comes : (s t : Spelled) (l : List ℕ) (place : ℕ) (row : Row) → SketchTakes s l t → HasAt (sections t) place row
    → Comes s t l place row
comes s t l place row (tells g) h = inl h
comes s t l place row (tops {first = first} next is) h =
    spelled_row s t l place 0 row next is refl (from_last [] (at_top first) next place row h)
comes s t l place row (adds {rom = rom} {first = first} before section next e may is) h =
    spelled_row s t l place (suc (length before)) row next is
    (omega (arith, length-append before (with_row section next ∷ [])))
    (subst (λ others. Came (at_top first ∷ others) place row (suc (length before)) next) (sym e)
    (from_last (at_top first ∷ before) section next place row h))
comes s t l place row (begins {first = first} {others = others} head is) h =
    inl (from_begun (at_top first ∷ others) (begun head) place row refl h)

-- ---- the line of a row

-- the row stands in its line among these; as many sections begin up to it as part of the lines spells
pub record StandsInLine (ls : List (List ℕ)) (place : ℕ) (row : Row) : Type 0 where
  pub before : List (List ℕ)
  pub line : List ℕ
  pub after : List (List ℕ)
  pub cut : ls ≡ before ++ line ∷ after
  pub part : Spelled
  pub up_to : SpellsSketch part (unpassed before ++ line ∷ [])
  pub inside : place ≡ length part.others
  pub spelled : IsRowLine row line

-- so it does among more lines
pub line_stays : (ls : List (List ℕ)) (next : List ℕ) (place : ℕ) (row : Row) → StandsInLine ls place row
    → StandsInLine (ls ++ next ∷ []) place row
line_stays ls next place row h = record {
  before = h.before;
  line = h.line;
  after = h.after ++ next ∷ [];
  cut = ap (λ l. l ++ next ∷ []) h.cut ∙ append_assoc h.before (h.line ∷ h.after) (next ∷ []);
  part = h.part;
  up_to = h.up_to;
  inside = h.inside;
  spelled = h.spelled;
}

pub line_comes : (ls : List (List ℕ)) (next : List ℕ) (s t : Spelled) (place : ℕ) (row : Row)
    → SpellsSketch t (unpassed ls ++ next ∷ [])
    → (HasAt (sections s) place row → StandsInLine ls place row) → Comes s t next place row
    → StandsInLine (ls ++ next ∷ []) place row
line_comes ls next s t place row spelled old (inl h) = line_stays ls next place row (old h)
line_comes ls next s t place row spelled old (inr (at, is)) = record {
  before = ls;
  line = next;
  after = [];
  cut = refl;
  part = t;
  up_to = spelled;
  inside = at;
  spelled = is;
}
