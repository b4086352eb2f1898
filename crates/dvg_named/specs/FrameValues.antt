-- Frames of a sketch, as the reader holds them.
use Rattle.std.specs.Prelude.{◌<◌, ℕ, List, [], ◌∷◌, All, Option, None, map}
use Rattle.std.specs.List.{AllZip}
use Rattle.dvg_read.specs.RomTexts.{RomText}
use Rattle.dvg_rows.specs.declared.part.Part.{Part}
use Rattle.dvg_named.specs.declared.frame_rows.FrameRows as held
use Rattle.dvg_rows.specs.HeldRows.{rows_of}
use Rattle.dvg_rows.specs.RowValues.{name_of}
use Rattle.dvg_rows.specs.Rows.{Head, Row, frame, rom, top}
use Rattle.dvg_named.specs.ReadParts.{sketch_of}
use Rattle.dvg_named.specs.Sections.{FrameRows, Section, Spelled, frame_of}
use Rattle.dvg_named.specs.SketchReading.{section_in}
use Rattle.dvg_named.specs.SourcedRows.{BeginsFrame, IsInSection, IsRowAt, Rise}

-- a frame
abbrev pub frame_held : held.FrameRows → FrameRows
frame_held held_frame = record { name = name_of held_frame.name; rows = rows_of held_frame.rows.now }

-- frames, in order
abbrev pub frames_of : List held.FrameRows → List FrameRows
frames_of = map frame_held

-- the sketch of these sections, the last one by itself
abbrev pub sketch_held : {A : Type 0} → RomText → (closed : List (Part A)) → (last : Part A) → Spelled
sketch_held stated closed last = sketch_of stated (map section_in closed) (section_in last)

-- a section as a frame, if it is one
abbrev pub frame_in : Section → Option FrameRows
frame_in section = frame_of section.head section.rows

-- rows as a frame, in a list, if they are one
abbrev pub frame_list : Head → List Row → List FrameRows
frame_list top rows = []
frame_list (frame name) rows = record { name = name; rows = rows } ∷ []
frame_list (rom address) rows = []

-- rows at the top as a frame, where sections follow: none, if there is no row
abbrev pub rows_at_top : List Row → List FrameRows
rows_at_top [] = []
rows_at_top (row ∷ rows) = record { name = None; rows = row ∷ rows } ∷ []

-- each row of the frame stands in its line, and the lines in the frame's section, in order
pub record IsFrameAt (small : List ℕ) (held_frame : held.FrameRows) : Type 0 where
  pub rows : AllZip (IsRowAt small) held_frame.rows.now held_frame.sources.now
  pub rise : Rise held_frame.sources.now
  pub inside : All (IsInSection small held_frame.begin) held_frame.sources.now

-- the frame begins before the line of this number
abbrev pub BeginsBefore : (number : ℕ) → held.FrameRows → Type 0
BeginsBefore number held_frame = held_frame.begin.number < number

-- the frame begins before the other one
abbrev pub BeginsFirst : (held_frame next : held.FrameRows) → Type 0
BeginsFirst held_frame next = BeginsBefore next.begin.number held_frame

-- the frame begins in its line
abbrev pub IsBegunAt : (small : List ℕ) → Spelled → held.FrameRows → Type 0
IsBegunAt small sketch held_frame = BeginsFrame small sketch (name_of held_frame.name) held_frame.begin
