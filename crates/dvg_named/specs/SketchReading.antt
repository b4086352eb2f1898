-- What the reader of a sketch holds after some lines, and what one line more makes of it (for private contracts).
use Rattle.std.specs.Prelude.{◌≡◌, ℕ, List, [], ◌∷◌, ◌++◌, Option, None, Some, map}
use Rattle.dvg_read.specs.LineParts.{bytes_of}
use Rattle.dvg_read.specs.RomTexts.{RomText}
use Rattle.dvg_read.specs.declared.fault.LineFault.{LineFault}
use Rattle.dvg_read.specs.declared.fault.LineFault.TheVariants.{Full, Memory, NameGivenAgain}
use Rattle.dvg_read.specs.declared.fault.LineFault.TheVariants.{OutOfRom, Overlap, Syntax}
use Rattle.dvg_rows.specs.declared.rom_area.RomArea.{RomArea}
use Rattle.dvg_rows.specs.declared.part.Part.{Part}
use Rattle.dvg_named.specs.declared.reading.Reading.{Reading}
use Rattle.dvg_rows.specs.declared.row.Head as held_head
use Rattle.dvg_rows.specs.HeldRows.{rows_of}
use Rattle.dvg_named.specs.SketchFaults.{DraftsFit, GivesOnce, KeepsLimits, LieApart, RomFits}
use Rattle.dvg_named.specs.ReadParts.{KeepsArea, KeepsFrame, KeepsNext, StartsAtTop, frame_names, rom_names, sketch_of}
use Rattle.dvg_rows.specs.RowValues.{head_of}
use Rattle.dvg_rows.specs.Rows.{Head, top}
use Rattle.dvg_named.specs.Sections.{Section, Spelled, rom_sections}
use Rattle.dvg_named.specs.SketchSteps.{SketchTakes, begun}
use Rattle.dvg_named.specs.StatedRoms.{HoldsStated}

-- how a section begins: that at the top has no line that begins it
abbrev pub head_in : Option held_head.Head → Head
head_in None = top
head_in (Some head) = head_of head

-- a section
abbrev pub section_in : {A : Type 0} → Part A → Section
section_in part = record { head = head_in part.head; rows = rows_of part.rows.items }

-- a sketch within the limits, cut so, and what is kept of it
pub record KeepsAll (stated : RomText) (closed : List Section) (last : Section) (of_frames of_rom names : List (List ℕ))
    (count : ℕ) (held : RomArea) : Type 0 where
  pub starts : StartsAtTop closed last
  pub limits : KeepsLimits (sketch_of stated closed last)
  pub frames : of_frames ≡ frame_names (sketch_of stated closed last)
  pub roms : of_rom ≡ rom_names (sketch_of stated closed last)
  pub frame : KeepsFrame last.head last.rows names count
  pub next : KeepsNext stated closed last.head last.rows held.next
  pub area : KeepsArea stated (rom_sections (sketch_of stated closed last)) held

-- the sections before the last one
abbrev pub closed_in : {A : Type 0} → Reading A → List Section
closed_in reading = map section_in reading.closed.items

-- what the lines spell that were read, after lines that tell this of the ROM
abbrev pub spelled_in : {A : Type 0} → RomText → Reading A → Spelled
spelled_in stated reading = sketch_of stated (closed_in reading) (section_in reading.last)

-- the reader holds what lines spell, within the limits
pub record Reads {A : Type 0} (stated : RomText) (reading : Reading A) : Type 0 where
  pub rom : HoldsStated stated reading.rom
  pub keeps : KeepsAll stated (closed_in reading) (section_in reading.last) (bytes_of reading.frame_names.given.keys)
      (bytes_of reading.rom_names.given.keys) (bytes_of reading.names.given.keys) reading.count reading.area

-- a line more was read: what is spelled goes on, within the limits
pub record ReadsMore {A : Type 0} (stated : RomText) (old : Reading A) (line : List ℕ) (new : Reading A) : Type 0 where
  pub now : RomText
  pub goes : SketchTakes (spelled_in stated old) line (spelled_in now new)
  pub reads : Reads now new

-- with the line more a sketch is spelled that breaks a limit in this way
pub record Breaks (limit : Spelled → Type 0) (sketch : Spelled) (line : List ℕ) : Type 0 where
  pub now : Spelled
  pub goes : SketchTakes sketch line now
  pub breaks : limit now

-- why a line more isn't taken
abbrev pub StopsSketch : LineFault → Spelled → List ℕ → Type 0
StopsSketch Syntax sketch line = (now : Spelled) → ¬ SketchTakes sketch line now
StopsSketch NameGivenAgain sketch line = Breaks (λ now. ¬ GivesOnce now) sketch line
StopsSketch Full sketch line = Breaks (λ now. GivesOnce now × (¬ DraftsFit now)) sketch line
StopsSketch OutOfRom sketch line = Breaks (λ now. GivesOnce now × DraftsFit now × (¬ RomFits now)) sketch line
StopsSketch Overlap sketch line =
    Breaks (λ now. GivesOnce now × DraftsFit now × RomFits now × (¬ LieApart now)) sketch line
StopsSketch Memory sketch line = Unit {0}
StopsSketch _ sketch line = ⊥

-- with one line more, of which this holds, what is spelled goes on, within the limits
abbrev pub AddsLine : {A : Type 0} → (IsLine : List ℕ → Type 0) → (old new : Reading A) → Type 0
AddsLine IsLine old new = (stated : RomText) (line : List ℕ) → Reads stated old → IsLine line
    → ReadsMore stated old line new

-- why one line more, of which this holds, isn't taken
abbrev pub StopsLine : {A : Type 0} → (IsLine : List ℕ → Type 0) → Reading A → LineFault → Type 0
StopsLine IsLine reading fault = (stated : RomText) (line : List ℕ) → Reads stated reading → IsLine line
    → StopsSketch fault (spelled_in stated reading) line

-- no row was read, and no section begun
abbrev pub IsBare : {A : Type 0} → Reading A → Type 0
IsBare reading = (closed_in reading ≡ []) × ((section_in reading.last).rows ≡ [])

-- the last section is closed, and another one begins
pub record Opens {A : Type 0} (old : Reading A) (head : Head) (new : Reading A) : Type 0 where
  pub rom : new.rom ≡ old.rom
  pub closed : closed_in new ≡ closed_in old ++ section_in old.last ∷ []
  pub opened : section_in new.last ≡ begun head
  pub frame_names : new.frame_names ≡ old.frame_names
  pub rom_names : new.rom_names ≡ old.rom_names
  pub names : bytes_of new.names.given.keys ≡ []
  pub count : new.count ≡ 0
  pub area : new.area ≡ old.area
