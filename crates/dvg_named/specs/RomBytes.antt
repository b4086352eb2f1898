-- The words of laid sections, in the bytes of a ROM.
use Rattle.std.specs.Prelude.{◌≡◌, ◌≢◌, ◌+◌, ◌<◌, ◌≤◌, ℕ, List, ◌++◌, All, None, get_or, length}
use Rattle.std.specs.Prelude.{slice_index}
use Rattle.std.specs.List.{AllZip}
use Rattle.dvg_code.specs.Words.{word_in}
use Rattle.dvg_read.specs.RomReading.{IsAfterLine}
use Rattle.dvg_read.specs.RomTexts.{IsRomOf, RomLine, RomText}
use Rattle.dvg_frame.specs.declared.op.OpKind.TheVariants.{Call, Jump}
use Rattle.dvg_named.specs.declared.laid.LaidRows as held_laid
use Rattle.dvg_named.specs.LaidValues.{laid_section, laid_sections}
use Rattle.dvg_named.specs.Meanings.{IsGiven}
use Rattle.dvg_named.specs.Places.{Laid, laid_end}
use Rattle.dvg_rows.specs.Rows.{Doing, Row, plainly, rom}
use Rattle.dvg_named.specs.Sections.{MayStand}
use Rattle.dvg_named.specs.FirstUnknown.{WantsNone}
use Rattle.dvg_named.specs.Ungiven.{in_rom}

-- these words were put from this place on, and each other word is as it was
pub record ArePut (place : ℕ) (words old new : List ℕ) : Type 0 where
  pub count : length new ≡ length old
  pub inside : (j : ℕ) → j < length words → word_in new (place + j) ≡ slice_index words j
  pub before : (j : ℕ) → j < place → word_in new j ≡ word_in old j
  pub after : (j : ℕ) → place + length words ≤ j → word_in new j ≡ word_in old j
  pub fits : (i : ℕ) → get_or new i 0 < 256

-- each section lies on words of a ROM whose first one is at this address
abbrev pub LieInRom : (first : ℕ) → List Laid → Type 0
LieInRom first = All (λ section. (first ≤ section.start) × (laid_end section ≤ 0xC00))

-- nothing calls or jumps by the number of an operation
abbrev pub MayStandInRom : List Row → Type 0
MayStandInRom = All (MayStand (rom None))

-- this doesn't
abbrev pub MayBeEncoded : Doing → Type 0
MayBeEncoded doing = (n : ℕ) → (doing ≢ plainly (Call n)) × (doing ≢ plainly (Jump n))

-- the words of a section were put, each at its address
pub record IsPut (laid : List Laid) (section : Laid) (first : ℕ) (old new : List ℕ) : Type 0 where
  pub given : RomLine
  pub is : IsGiven laid section given
  pub put : IsAfterLine given first old new
  pub fits : (i : ℕ) → get_or new i 0 < 256

-- so were those of this one
abbrev pub PutsSection : List held_laid.LaidRows → held_laid.LaidRows → (first : ℕ) → (old new : List ℕ) → Type 0
PutsSection sections section = IsPut (laid_sections sections) (laid_section section)

-- the bytes are those of the ROM that is stated, where these sections give their words after
-- the lines that state it
pub record TellsSections (laid sections : List Laid) (stated : RomText) (bytes : List ℕ) : Type 0 where
  pub lines : List RomLine
  pub given : AllZip (IsGiven laid) sections lines
  pub is_rom : IsRomOf (record { map = stated.map; given = stated.given ++ lines }) bytes

-- each name that a row of the ROM wants is given
abbrev pub KnowsRom : List Laid → Type 0
KnowsRom laid = All (λ section. WantsNone laid (in_rom section.rows)) laid
