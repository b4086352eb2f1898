-- A row or a section more, in what the reader of a sketch holds.
use Rattle.std.proofs.Common.{◌≡◌, ℕ, List, [], ◌∷◌, ◌++◌, sym, ap, subst, ◌∙◌, Option, None, Result, Ok, Err, OnOk}
use Rattle.std.proofs.lemmas.List.{map-append}
use Rattle.std.specs.Option.{option_to_list}
use Rattle.dvg_read.specs.LineParts.{bytes_of}
use Rattle.dvg_read.specs.RomTexts.{RomText}
use Rattle.dvg_read.specs.Texts.{parts}
use Rattle.dvg_rows.specs.declared.given_names.GivenNames.{GivenNames}
use Rattle.dvg_read.specs.declared.fault.LineFault.{LineFault}
use Rattle.dvg_read.specs.declared.fault.LineFault.TheVariants.{Memory, NameGivenAgain, OutOfRom, Overlap}
use Rattle.dvg_rows.specs.declared.part.Part.{Part}
use Rattle.dvg_named.specs.declared.reading.Reading.{Reading}
use Rattle.dvg_rows.specs.declared.rom_area.RomArea.{RomArea}
use Rattle.dvg_rows.specs.declared.row.Row as held_row
use Rattle.dvg_rows.specs.FreshNames.{IsAgain, IsFresh, StopsNames}
use Rattle.dvg_rows.specs.HeldRows.{rows_of}
use Rattle.dvg_named.specs.SketchFaults.{DraftsFit, GivesOnce, LieApart, RomFits}
use Rattle.dvg_rows.specs.RowPlaces.{size}
use Rattle.dvg_named.specs.ReadParts.{sketch_of}
use Rattle.dvg_rows.specs.RomAreas.{StopsArea, Takes}
use Rattle.dvg_named.specs.RowMoves.{IsCounted, IsFrameHead, IsFull, IsRomHead}
use Rattle.dvg_rows.specs.Rows.{Head, IsRowLine, Row, frame, rom, top}
use Rattle.dvg_rows.specs.RowValues.{row_of}
use Rattle.dvg_named.specs.Sections.{MayStand, Spelled}
use Rattle.dvg_named.specs.SketchReading.{Breaks, KeepsAll, Reads, ReadsMore, StopsSketch, closed_in, head_in, section_in, spelled_in}
use Rattle.dvg_named.specs.SketchSteps.{SketchTakes, with_row}
use Rattle.dvg_named.proofs.OneSketch.{head_is_no_row, one_row, tells_no_row}
use Rattle.dvg_named.proofs.ReadCuts.{goes_row, nothing_goes}
use Rattle.dvg_named.proofs.ReadMoves.{frame_full, frame_row, frame_twice, rom_out_of, rom_overlaps, rom_row, rom_twice}

pub on_ok : {A E : Type 0} (r : Result A E) {P Q : Type 0} → OnOk r P → (P → Q) → OnOk r Q
on_ok (Ok x) h f = f h
on_ok (Err e) h f = h

-- ---- a row

-- a section with a row more
pub section_pushed : {A : Type 0} (old new : Part A) (row : held_row.Row) → new.head ≡ old.head
    → new.rows.items ≡ old.rows.items ++ row ∷ [] → section_in new ≡ with_row (section_in old) (row_of row)
section_pushed old new row same pushed =
    let rows : rows_of new.rows.items ≡ rows_of old.rows.items ++ row_of row ∷ [] =
    ap rows_of pushed ∙ map-append row_of old.rows.items (row ∷ []) in
    let head : head_in new.head ≡ head_in old.head = ap head_in same in
    cc

-- why a name stops a line
pub names_stop : (fault : LineFault) (names : List (List ℕ)) (name : Option (List ℕ)) (sketch : Spelled) (line : List ℕ)
    → StopsNames names name fault → (IsAgain names name → Breaks (λ now. ¬ GivesOnce now) sketch line)
    → StopsSketch fault sketch line
names_stop NameGivenAgain names name sketch line h again = again h
names_stop Memory names name sketch line h again = tt
names_stop _ names name sketch line h again = absurd h

frame_may : (head : Head) (row : Row) → IsFrameHead head → MayStand head row
frame_may top row h = tt
frame_may (frame name) row h = tt
frame_may (rom address) row h = absurd h

module _ {A : Type 0} (old : Reading A) (row : held_row.Row) (stated : RomText) (line : List ℕ) (reads : Reads stated old)
    (spelled : IsRowLine (row_of row) line) where
  pub frame_added : (last : Part A) (names : GivenNames A) (count : ℕ) → IsFrameHead (head_in old.last.head)
      → section_in last ≡ with_row (section_in old.last) (row_of row)
      → bytes_of names.given.keys ≡ bytes_of old.names.given.keys ++ option_to_list (row_of row).name
      → IsFresh (bytes_of old.names.given.keys) (row_of row).name → IsCounted old.count (row_of row).doing count
      → ReadsMore stated old line (record old { last = last; names = names; count = count })
  frame_added last names count head pushed given fresh counted =
      let closed = closed_in old in
      let kept = frame_row stated closed (rows_of old.last.rows.items) (row_of row) (bytes_of old.frame_names.given.keys)
      (bytes_of old.rom_names.given.keys) (bytes_of old.names.given.keys) old.count old.area (head_in old.last.head) head
      reads.keeps fresh count counted in
      record {
        now = stated;
        goes = subst (λ s. SketchTakes (spelled_in stated old) line (sketch_of stated closed s)) (sym pushed)
            (goes_row stated closed (section_in old.last) (row_of row) line (frame_may (head_in old.last.head) (row_of row) head) spelled);
        reads = record {
          rom = reads.rom;
          keeps =
              subst (λ s. KeepsAll stated closed s (bytes_of old.frame_names.given.keys) (bytes_of old.rom_names.given.keys) (bytes_of names.given.keys) count old.area)
              (sym pushed)
              (subst (λ l. KeepsAll stated closed (with_row (section_in old.last) (row_of row)) (bytes_of old.frame_names.given.keys) (bytes_of old.rom_names.given.keys) l count old.area)
              (sym given) kept);
        };
      }

  pub frame_given : (fault : LineFault) → IsFrameHead (head_in old.last.head)
      → StopsNames (bytes_of old.names.given.keys) (row_of row).name fault → StopsSketch fault (spelled_in stated old) line
  frame_given fault head stops =
      names_stop fault (bytes_of old.names.given.keys) (row_of row).name (spelled_in stated old) line stops
      (λ again. frame_twice stated (closed_in old) (rows_of old.last.rows.items) (row_of row)
      (bytes_of old.frame_names.given.keys) (bytes_of old.rom_names.given.keys) (bytes_of old.names.given.keys) old.count
      old.area (head_in old.last.head) head reads.keeps again line spelled)

  pub frame_filled : IsFrameHead (head_in old.last.head) → IsFresh (bytes_of old.names.given.keys) (row_of row).name
      → IsFull old.count (row_of row).doing
      → Breaks (λ now. GivesOnce now × (¬ DraftsFit now)) (spelled_in stated old) line
  frame_filled head fresh full =
      frame_full stated (closed_in old) (rows_of old.last.rows.items) (row_of row) (bytes_of old.frame_names.given.keys)
      (bytes_of old.rom_names.given.keys) (bytes_of old.names.given.keys) old.count old.area (head_in old.last.head) head
      reads.keeps fresh line spelled full

  -- ---- a row of the ROM

  pub rom_added : (head : Head) → head ≡ head_in old.last.head → IsRomHead head → MayStand (rom None) (row_of row)
      → (last : Part A) (names : GivenNames A) (area : RomArea)
      → section_in last ≡ with_row (section_in old.last) (row_of row)
      → bytes_of names.given.keys ≡ bytes_of old.rom_names.given.keys ++ option_to_list (row_of row).name
      → IsFresh (bytes_of old.rom_names.given.keys) (row_of row).name → Takes (size (row_of row ∷ [])) old.area area
      → ReadsMore stated old line (record old { last = last; rom_names = names; area = area })
  rom_added top e head may last names area pushed given fresh takes = absurd head
  rom_added (frame name) e head may last names area pushed given fresh takes = absurd head
  rom_added (rom address) e head may last names area pushed given fresh takes =
      let closed = closed_in old in
      let rows = rows_of old.last.rows.items in
      let kept = rom_row stated closed address rows (row_of row) (bytes_of old.frame_names.given.keys)
      (bytes_of old.rom_names.given.keys) (bytes_of old.names.given.keys) old.count old.area
      (subst (λ head. KeepsAll stated closed (record { head = head; rows = rows }) (bytes_of old.frame_names.given.keys) (bytes_of old.rom_names.given.keys) (bytes_of old.names.given.keys) old.count old.area) (sym e) reads.keeps)
      may fresh area takes in
      let is : section_in last ≡ record { head = rom address; rows = rows ++ row_of row ∷ [] } =
      pushed ∙ ap (λ head. with_row (record { head = head; rows = rows }) (row_of row)) (sym e) in
      record {
        now = stated;
        goes = subst (λ s. SketchTakes (spelled_in stated old) line (sketch_of stated closed s)) (sym pushed)
            (goes_row stated closed (section_in old.last) (row_of row) line (subst (λ head. MayStand head (row_of row)) e may) spelled);
        reads = record {
          rom = reads.rom;
          keeps =
              subst (λ s. KeepsAll stated closed s (bytes_of old.frame_names.given.keys) (bytes_of names.given.keys) (bytes_of old.names.given.keys) old.count area)
              (sym is)
              (subst (λ l. KeepsAll stated closed (record { head = rom address; rows = rows ++ row_of row ∷ [] }) (bytes_of old.frame_names.given.keys) l (bytes_of old.names.given.keys) old.count area)
              (sym given) kept);
        };
      }

  module _ (address : Option ℕ) (e : rom address ≡ head_in old.last.head) (may : MayStand (rom None) (row_of row)) where
    abbrev rows : List Row
    rows = rows_of old.last.rows.items

    keeps : KeepsAll stated (closed_in old) (record { head = rom address; rows = rows }) (bytes_of old.frame_names.given.keys)
        (bytes_of old.rom_names.given.keys) (bytes_of old.names.given.keys) old.count old.area
    keeps =
        subst (λ head. KeepsAll stated (closed_in old) (record { head = head; rows = rows }) (bytes_of old.frame_names.given.keys) (bytes_of old.rom_names.given.keys) (bytes_of old.names.given.keys) old.count old.area)
        (sym e) reads.keeps

    abbrev as_rom : Spelled
    as_rom = sketch_of stated (closed_in old) (record { head = rom address; rows = rows })

    is_as : as_rom ≡ spelled_in stated old
    is_as = ap (λ head. sketch_of stated (closed_in old) (record { head = head; rows = rows })) e

    given_by : (fault : LineFault) → StopsNames (bytes_of old.rom_names.given.keys) (row_of row).name fault
        → StopsSketch fault (spelled_in stated old) line
    given_by fault stops =
        names_stop fault (bytes_of old.rom_names.given.keys) (row_of row).name (spelled_in stated old) line stops
        (λ again. subst (λ s. Breaks (λ now. ¬ GivesOnce now) s line) is_as
        (rom_twice stated (closed_in old) address rows (row_of row) (bytes_of old.frame_names.given.keys)
        (bytes_of old.rom_names.given.keys) (bytes_of old.names.given.keys) old.count old.area keeps may line spelled again))

    area_by : (fault : LineFault) → IsFresh (bytes_of old.rom_names.given.keys) (row_of row).name
        → StopsArea (size (row_of row ∷ [])) old.area fault → StopsSketch fault (spelled_in stated old) line
    area_by OutOfRom fresh over =
        subst (λ s. Breaks (λ now. GivesOnce now × DraftsFit now × (¬ RomFits now)) s line) is_as
        (rom_out_of stated (closed_in old) address rows (row_of row) (bytes_of old.frame_names.given.keys)
        (bytes_of old.rom_names.given.keys) (bytes_of old.names.given.keys) old.count old.area keeps may fresh line spelled over)
    area_by Overlap fresh h =
        subst (λ s. Breaks (λ now. GivesOnce now × DraftsFit now × RomFits now × (¬ LieApart now)) s line) is_as
        (rom_overlaps stated (closed_in old) address rows (row_of row) (bytes_of old.frame_names.given.keys)
        (bytes_of old.rom_names.given.keys) (bytes_of old.names.given.keys) old.count old.area keeps may fresh h.0 line spelled h.1)
    area_by _ fresh h = absurd h

  pub rom_given : (head : Head) → head ≡ head_in old.last.head → IsRomHead head → MayStand (rom None) (row_of row)
      → (fault : LineFault) → StopsNames (bytes_of old.rom_names.given.keys) (row_of row).name fault
      → StopsSketch fault (spelled_in stated old) line
  rom_given top e head may fault stops = absurd head
  rom_given (frame name) e head may fault stops = absurd head
  rom_given (rom address) e head may fault stops = given_by address e may fault stops

  pub rom_stops : (head : Head) → head ≡ head_in old.last.head → IsRomHead head → MayStand (rom None) (row_of row)
      → (fault : LineFault) → IsFresh (bytes_of old.rom_names.given.keys) (row_of row).name
      → StopsArea (size (row_of row ∷ [])) old.area fault → StopsSketch fault (spelled_in stated old) line
  rom_stops top e head may fault fresh stops = absurd head
  rom_stops (frame name) e head may fault fresh stops = absurd head
  rom_stops (rom address) e head may fault fresh stops = area_by address e may fault fresh stops

  may_not : (head : Head) → IsRomHead head → ¬ MayStand (rom None) (row_of row) → ¬ MayStand head (row_of row)
  may_not top head none = absurd head
  may_not (frame name) head none = absurd head
  may_not (rom address) head none = none

  -- a row that may not stand in the ROM
  pub rom_refused : IsRomHead (head_in old.last.head) → ¬ MayStand (rom None) (row_of row) → (now : Spelled)
      → ¬ SketchTakes (spelled_in stated old) line now
  rom_refused head none now =
      nothing_goes stated (closed_in old) (section_in old.last) line now reads.keeps.starts
      (λ bare empty rom tells. tells_no_row tells spelled)
      (λ head is. head_is_no_row is spelled)
      (λ other is. subst (λ row. ¬ MayStand (head_in old.last.head) row) (sym (one_row (parts line) spelled is))
      (may_not (head_in old.last.head) head none))
