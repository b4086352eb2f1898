-- The limits of a sketch, and its one fault.
use Rattle.std.specs.Prelude.{◌≡◌, ℕ, ◌+◌, ◌<◌, ◌≤◌, List, [], ◌∷◌, ◌++◌, length, All, AllPairs, Some, slice_get}
use Rattle.std.specs.Prelude.{false}
use Rattle.std.specs.List.{filter_map, flat_map}
use Rattle.dvg_read.specs.FirstFaults.{IsShort}
use Rattle.dvg_read.specs.RomTexts.{first_stated}
use Rattle.dvg_read.specs.Texts.{is_passed, unpassed}
use Rattle.dvg_read.specs.declared.fault.TextFault.{TextFault}
use Rattle.dvg_read.specs.declared.fault.TextFault.TheVariants.{TooLong, Syntax, NameGivenAgain}
use Rattle.dvg_read.specs.declared.fault.TextFault.TheVariants.{Full, OutOfRom, Overlap, UnknownName}
use Rattle.dvg_rows.specs.PlainLines.{plain_lines}
use Rattle.dvg_rows.specs.RowPlaces.{AreDistinct, IsNumber, doings, names_of}
use Rattle.dvg_rows.specs.Rows.{Doing, Head, IsRowLine, Row, plainly, calls, jumps, calls_rom, jumps_rom, rom}
use Rattle.dvg_named.specs.Sections.{Section, Spelled, SpellsSketch, frames, rom_sections, sections}
use Rattle.dvg_named.specs.Places.{IsAddress, Laid, laid, laid_end}
use Rattle.dvg_named.specs.Meanings.{Frame, IsMeant}
use Rattle.dvg_read.specs.RomTexts.{RomText}
use Rattle.dvg_read.specs.declared.draft_text.TheConstants.{MOST_TEXT_BYTES}
use Rattle.dvg_frame.specs.declared.draft.TheConstants.{MAX_OPS}

-- each name is given once: in a frame, in the ROM, and among the names of frames
pub record GivesOnce (sketch : Spelled) : Type 0 where
  pub in_frames : All (λ frame. AreDistinct (names_of frame.rows)) (frames sketch)
  pub in_rom : AreDistinct (names_of (flat_map (λ section. section.rows) (rom_sections sketch)))
  pub of_frames : AreDistinct (filter_map (λ frame. frame.name) (frames sketch))

-- a draft can hold what each frame does
abbrev pub DraftsFit : Spelled → Type 0
DraftsFit sketch = All (λ frame. length (doings frame.rows) ≤ MAX_OPS) (frames sketch)

-- the sections of the ROM as they are laid
abbrev pub laid_of : Spelled → List Laid
laid_of sketch = laid sketch.rom (rom_sections sketch)

-- each section of the ROM is laid on words of the ROM
abbrev pub RomFits : Spelled → Type 0
RomFits sketch = All (λ section. (first_stated sketch.rom.map ≤ section.start) × (laid_end section ≤ 0xC00))
    (laid_of sketch)

-- a section of the ROM is laid on the word at this address
abbrev pub LiesOn : Laid → ℕ → Type 0
LiesOn section a = (section.start ≤ a) × (a < laid_end section)

-- no two sections of the ROM are laid on one word; those words that lines `rom` give may be laid on
abbrev pub LieApart : Spelled → Type 0
LieApart sketch = AllPairs (λ section next. (a : ℕ) → LiesOn section a → ¬ LiesOn next a) (laid_of sketch)

-- all limits are kept
pub record KeepsLimits (sketch : Spelled) : Type 0 where
  pub once : GivesOnce sketch
  pub drafts : DraftsFit sketch
  pub rom : RomFits sketch
  pub apart : LieApart sketch

-- the text denotes these frames and this ROM
pub record DenotesFrames (text : List ℕ) (rom : RomText) (result : List Frame) : Type 0 where
  pub short : IsShort text
  pub sketch : Spelled
  pub spelled : SpellsSketch sketch (unpassed (plain_lines text))
  pub limits : KeepsLimits sketch
  pub meant : IsMeant sketch result rom

-- in the ROM of the text the name is that of this word address
pub record NamesAddress (text name : List ℕ) (address : ℕ) : Type 0 where
  pub sketch : Spelled
  pub spelled : SpellsSketch sketch (unpassed (plain_lines text))
  pub limits : KeepsLimits sketch
  pub is : IsAddress (laid_of sketch) name address

-- lines that spell a sketch within the limits
pub record IsFineSketch (ls : List (List ℕ)) : Type 0 where
  pub sketch : Spelled
  pub spelled : SpellsSketch sketch ls
  pub limits : KeepsLimits sketch

-- line n has tokens, and the lines before it are without fault
pub record ReachesLine (text : List ℕ) (n : ℕ) (before : List (List ℕ)) (line : List ℕ) : Type 0 where
  pub short : IsShort text
  pub after : List (List ℕ)
  pub cut : plain_lines text ≡ before ++ line ∷ after
  pub number : n ≡ length before + 1
  pub fine : IsFineSketch (unpassed before)
  pub is_unpassed : is_passed line ≡ false

-- line n is the first with which the lines spell nothing
pub record MeetsNothing (text : List ℕ) (n : ℕ) : Type 0 where
  pub before : List (List ℕ)
  pub line : List ℕ
  pub reaches : ReachesLine text n before line
  pub wrong : (sketch : Spelled) → ¬ SpellsSketch sketch (unpassed before ++ line ∷ [])

-- line n is the first with which the lines spell a sketch that isn't within the limits, in this way
pub record Meets (Breaks : Spelled → Type 0) (text : List ℕ) (n : ℕ) : Type 0 where
  pub before : List (List ℕ)
  pub line : List ℕ
  pub reaches : ReachesLine text n before line
  pub sketch : Spelled
  pub spelled : SpellsSketch sketch (unpassed before ++ line ∷ [])
  pub breaks : Breaks sketch

-- no row of a frame gives the name; of a section of the ROM none of all these
abbrev pub IsLost : List Laid → Head → List Row → (name : List ℕ) → Type 0
IsLost sections (rom address) rows name = (address : ℕ) → ¬ IsAddress sections name address
IsLost sections _ rows name = (number : ℕ) → ¬ IsNumber rows name number

-- the name that is wanted isn't given where it is looked for: in the frame, or in the ROM
abbrev pub IsUngiven : List Laid → Section → Doing → Type 0
IsUngiven sections section (plainly op) = ⊥
IsUngiven sections section (calls_rom name) = (address : ℕ) → ¬ IsAddress sections name address
IsUngiven sections section (jumps_rom name) = (address : ℕ) → ¬ IsAddress sections name address
IsUngiven sections section (calls name) = IsLost sections section.head section.rows name
IsUngiven sections section (jumps name) = IsLost sections section.head section.rows name

-- line n wants a name that isn't given; as many sections begin up to it as part of the lines spells
pub record WantsUngiven (text : List ℕ) (n : ℕ) : Type 0 where
  pub short : IsShort text
  pub fine : IsFineSketch (unpassed (plain_lines text))
  pub before : List (List ℕ)
  pub line : List ℕ
  pub after : List (List ℕ)
  pub cut : plain_lines text ≡ before ++ line ∷ after
  pub number : n ≡ length before + 1
  pub part : Spelled
  pub up_to : SpellsSketch part (unpassed before ++ line ∷ [])
  pub section : Section
  pub inside : slice_get (sections fine.sketch) (length part.others) ≡ Some section
  pub row : Row
  pub spelled : IsRowLine row line
  pub doing : Doing
  pub does : row.doing ≡ Some doing
  pub ungiven : IsUngiven (laid_of fine.sketch) section doing

-- the fault of a sketch's text: that of the first line at fault, or else the first name not given
abbrev pub HasSketchFault : List ℕ → TextFault → Type 0
HasSketchFault text TooLong = MOST_TEXT_BYTES < length text
HasSketchFault text (Syntax n) = MeetsNothing text n
HasSketchFault text (NameGivenAgain n) = Meets (λ sketch. ¬ GivesOnce sketch) text n
HasSketchFault text (Full n) = Meets (λ sketch. GivesOnce sketch × (¬ DraftsFit sketch)) text n
HasSketchFault text (OutOfRom n) =
    Meets (λ sketch. GivesOnce sketch × DraftsFit sketch × (¬ RomFits sketch)) text n
HasSketchFault text (Overlap n) =
    Meets (λ sketch. GivesOnce sketch × DraftsFit sketch × RomFits sketch × (¬ LieApart sketch)) text n
HasSketchFault text (UnknownName n) =
    WantsUngiven text n × ((earlier : ℕ) → earlier < n → ¬ WantsUngiven text earlier)
HasSketchFault text _ = ⊥
