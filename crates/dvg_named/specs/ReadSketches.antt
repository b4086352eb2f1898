-- What the text of a sketch denotes, as the program holds it: with the line of each operation.
use Rattle.std.specs.Prelude.{◌≡◌, ◌<◌, ◌≤◌, ◌-◌, ℕ, List, All, AllPairs, Option, drop, length, map, take}
use Rattle.std.specs.Char.{to_ascii_lowercase}
use Rattle.std.specs.List.{AllZip}
use Rattle.dvg_frame.specs.declared.op.OpKind.{OpKind}
use Rattle.dvg_read.specs.RomTexts.{IsRomOf, RomText}
use Rattle.dvg_named.specs.declared.joining.FrameSpan.{FrameSpan}
use Rattle.dvg_named.specs.declared.meaning.NamedFrame.{NamedFrame}
use Rattle.dvg_named.specs.declared.meaning.RomName.{RomName}
use Rattle.dvg_rows.specs.declared.source.Source.{Source}
use Rattle.dvg_named.specs.declared.sketch.Sketch.{Sketch}
use Rattle.dvg_named.specs.Meanings.{Frame}
use Rattle.dvg_named.specs.SketchFaults.{DenotesFrames, laid_of}
use Rattle.dvg_named.specs.OpSources.{IsDoneAt, lines_at}
use Rattle.dvg_rows.specs.RowPlaces.{doings}
use Rattle.dvg_named.specs.ReadParts.{rom_names}
use Rattle.dvg_named.specs.RomNames.{IsNamedIn, names_listed}
use Rattle.dvg_rows.specs.RowValues.{name_of}
use Rattle.dvg_named.specs.Sections.{FrameRows, Spelled, frames}
use Rattle.dvg_named.specs.SourcedRows.{BeginsFrame, IsInSection, Rise}

-- a frame: its name, if it has one, the line that begins it, and its operations with their lines
pub record SourcedFrame : Type 0 where
  pub name : Option (List ℕ)
  pub begin : Source
  pub ops : List OpKind
  pub sources : List Source

-- the frame without lines
abbrev pub as_frame : SourcedFrame → Frame
as_frame frame = record { name = frame.name; draft = frame.ops }

-- a frame that is lent
abbrev pub lent_of : NamedFrame → SourcedFrame
lent_of frame = record {
  name = name_of frame.name;
  begin = frame.begin;
  ops = frame.ops.now;
  sources = frame.sources.now;
}

-- the frame that stands there in a list of operations and in that of their lines
abbrev pub joined_at : List OpKind → List Source → FrameSpan → SourcedFrame
joined_at ops sources span = record {
  name = name_of span.name;
  begin = span.begin;
  ops = take (span.end - span.start) (drop span.start ops);
  sources = lines_at sources span;
}

-- the frames of a sketch that was read
abbrev pub frames_in : {A : Type 0} → Sketch A → List SourcedFrame
frames_in sketch = map (joined_at sketch.frames.ops.items sketch.frames.sources.items) sketch.frames.spans.items

-- each operation of the frame stands in a line that spells it, in the frame's section and after those before it: so the
-- line is its own
pub record StandsIn (small : List ℕ) (rows : FrameRows) (frame : SourcedFrame) : Type 0 where
  pub does : AllZip (IsDoneAt small) (doings rows.rows) frame.sources
  pub rise : Rise frame.sources
  pub inside : All (IsInSection small frame.begin) frame.sources

-- these are all names of the ROM, in order, each with its word address
pub record ListsNames (sketch : Spelled) (names : List RomName) : Type 0 where
  pub listed : names_listed names ≡ rom_names sketch
  pub addresses : All (IsNamedIn (laid_of sketch)) names

-- the text denotes these frames and this ROM with these names; each frame begins in its line, after those before it, and
-- each operation stands in its own
pub record IsSketchOf (text : List ℕ) (R : List ℕ) (names : List RomName) (result : List SourcedFrame) : Type 0 where
  pub rom_text : RomText
  pub denotes : DenotesFrames text rom_text (map as_frame result)
  pub is_rom : IsRomOf rom_text R
  pub lists : ListsNames denotes.sketch names
  pub begins : All (λ frame. BeginsFrame (map to_ascii_lowercase text) denotes.sketch frame.name frame.begin)
      result
  pub rise : AllPairs (λ frame next. frame.begin.number < next.begin.number) result
  pub lines : AllZip (StandsIn (map to_ascii_lowercase text)) (frames denotes.sketch) result

-- each frame stands within the operations, and within their lines
pub record IsInside (ops : List OpKind) (sources : List Source) (span : FrameSpan) : Type 0 where
  pub from : span.start ≤ span.end
  pub to : span.end ≤ length ops
  pub lines : span.end ≤ length sources

-- so it is of each frame of the sketch
abbrev pub AreInside : {A : Type 0} → Sketch A → Type 0
AreInside sketch = All (IsInside sketch.frames.ops.items sketch.frames.sources.items) sketch.frames.spans.items

-- the sketch that was read is that of the text
abbrev pub IsReadOf : {A : Type 0} → (text : List ℕ) → Sketch A → Type 0
IsReadOf text sketch = IsSketchOf text sketch.rom.items sketch.names.items (frames_in sketch)
