-- A row of a section stays in it, whatever lines come after.
use Rattle.std.proofs.Common.{◌≡◌, ◌∙◌, ℕ, zero, suc, List, [], ◌∷◌, ◌++◌, Some, length, ap, append_assoc, arith, refl, slice_get, subst, length-append}
use Rattle.dvg_read.specs.Texts.{parts}
use Rattle.dvg_read.proofs.Steps.{Leads, here, on}
use Rattle.dvg_rows.specs.Rows.{IsRowLine, Row, top}
use Rattle.dvg_named.specs.Sections.{Section, Spelled, SpellsSketch, sections}
use Rattle.dvg_named.specs.SketchSteps.{SketchTakes, adds, begins, begun, tells, tops, with_row}
use Rattle.dvg_named.proofs.OneSketch.{front_spells, head_is_no_row, one_row, tells_no_row}

-- the row is one of these
pub record HasRow (rows : List Row) (row : Row) : Type 0 where
  pub before : List Row
  pub after : List Row
  pub cut : rows ≡ before ++ row ∷ after

last_row : (rows : List Row) (row : Row) → HasRow (rows ++ row ∷ []) row
last_row rows row = record { before = rows; after = []; cut = refl }

row_stays : (rows : List Row) (next row : Row) → HasRow rows row → HasRow (rows ++ next ∷ []) row
row_stays rows next row h = record {
  before = h.before;
  after = h.after ++ next ∷ [];
  cut = ap (λ l. l ++ next ∷ []) h.cut ∙ append_assoc h.before (row ∷ h.after) (next ∷ []);
}

-- the row is one of the section at a place
pub record HasAt (all : List Section) (place : ℕ) (row : Row) : Type 0 where
  pub section : Section
  pub stands : slice_get all place ≡ Some section
  pub inside : HasRow section.rows row

abbrev deeper : (first : Section) (all : List Section) (place : ℕ) (row : Row) → HasAt all place row
    → HasAt (first ∷ all) (suc place) row
deeper first all place row h = record { section = h.section; stands = h.stands; inside = h.inside }

-- where a section more stands
section_stays : (all : List Section) (next : Section) (place : ℕ) (row : Row) → HasAt all place row
    → HasAt (all ++ next ∷ []) place row
section_stays [] next place row h = let none = h.stands in absurd cc
section_stays (first ∷ all) next zero row h = record { section = h.section; stands = h.stands; inside = h.inside }
section_stays (first ∷ all) next (suc place) row h =
    let rest : HasAt all place row = record { section = h.section; stands = h.stands; inside = h.inside } in
    deeper first (all ++ next ∷ []) place row (section_stays all next place row rest)

-- where the last section has a row more
last_stays : (front : List Section) (last : Section) (next : Row) (place : ℕ) (row : Row)
    → HasAt (front ++ last ∷ []) place row → HasAt (front ++ with_row last next ∷ []) place row
last_stays [] last next zero row h =
    let both : Some last ≡ Some h.section = h.stands in
    let same : h.section ≡ last = cc in
    record {
      section = with_row last next;
      stands = refl;
      inside = row_stays last.rows next row (subst (λ (section : Section). HasRow section.rows row) same h.inside);
    }
last_stays [] last next (suc place) row h = let none = h.stands in absurd cc
last_stays (first ∷ front) last next zero row h = record { section = h.section; stands = h.stands; inside = h.inside }
last_stays (first ∷ front) last next (suc place) row h =
    let rest : HasAt (front ++ last ∷ []) place row =
    record { section = h.section; stands = h.stands; inside = h.inside } in
    deeper first (front ++ with_row last next ∷ []) place row (last_stays front last next place row rest)

-- the rows at the top, as a section
abbrev pub at_top : List Row → Section
at_top rows = record { head = top; rows = rows }

stays_by : (s t : Spelled) (l : List ℕ) (place : ℕ) (row : Row) → SketchTakes s l t → HasAt (sections s) place row
    → HasAt (sections t) place row
stays_by s t l place row (tells g) h = h
stays_by s t l place row (tops {first = first} next is) h = last_stays [] (at_top first) next place row h
stays_by s t l place row (adds {first = first} before section next e may is) h =
    last_stays (at_top first ∷ before) section next place row
    (subst (λ others. HasAt (at_top first ∷ others) place row) e h)
stays_by s t l place row (begins {first = first} {others = others} head is) h =
    section_stays (at_top first ∷ others) (begun head) place row h

-- a row that stands in a section stays there, once more lines are read
pub stands_after : (s t : Spelled) (ls : List (List ℕ)) (place : ℕ) (row : Row) → Leads SketchTakes s ls t
    → HasAt (sections s) place row → HasAt (sections t) place row
stands_after s t [] place row here h = h
stands_after s t (l ∷ ls) place row (on {t = mid} g p) h =
    stands_after mid t ls place row p (stays_by s mid l place row g h)

-- ---- the row of the last line

seam : (front : List Section) (last : Section) → slice_get (front ++ last ∷ []) (length front) ≡ Some last
seam [] last = refl
seam (first ∷ front) last = seam front last

added : (first : List Row) (before : List Section) (section : Section) (row : Row)
    → HasAt (at_top first ∷ (before ++ with_row section row ∷ [])) (length (before ++ with_row section row ∷ [])) row
added first before section row =
    let count : length (before ++ with_row section row ∷ []) ≡ suc (length before) =
    omega (arith, length-append before (with_row section row ∷ [])) in
    record {
      section = with_row section row;
      stands = ap (slice_get (at_top first ∷ (before ++ with_row section row ∷ []))) count
          ∙ seam before (with_row section row);
      inside = last_row section.rows row;
    }

stands_last : (s t : Spelled) (l : List ℕ) (row : Row) → SketchTakes s l t → IsRowLine row l
    → HasAt (sections t) (length t.others) row
stands_last s t l row (tells g) is = absurd (tells_no_row g is)
stands_last s t l row (tops {first = first} other also) is =
    let same : other ≡ row = one_row (parts l) is also in
    record {
      section = at_top (first ++ other ∷ []);
      stands = refl;
      inside = subst (HasRow (first ++ other ∷ [])) same (last_row first other);
    }
stands_last s t l row (adds {first = first} before section other e may also) is =
    let same : other ≡ row = one_row (parts l) is also in
    subst (HasAt (at_top first ∷ (before ++ with_row section other ∷ [])) (length (before ++ with_row section other ∷ [])))
    same (added first before section other)
stands_last s t l row (begins head h) is = absurd (head_is_no_row h is)

only_line : (s t : Spelled) (l : List ℕ) → Leads SketchTakes s (l ∷ []) t → SketchTakes s l t
only_line s t l (on g here) = g

-- where lines spell a sketch up to the line of a row, the row is in its last section
pub stands_in : (part : Spelled) (before : List (List ℕ)) (line : List ℕ) (row : Row)
    → SpellsSketch part (before ++ line ∷ []) → IsRowLine row line → HasAt (sections part) (length part.others) row
stands_in part before line row spelled is =
    let (front, also, leads) = front_spells part before (line ∷ []) spelled in
    stands_last front part line row (only_line front part line leads) is
