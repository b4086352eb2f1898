-- The bytes of the ROM that a sketch gives.
use Rattle.std.specs.Prelude.{◌≡◌, ℕ, List}
use Rattle.dvg_read.specs.RomTexts.{IsRomOf, RomText}
use Rattle.dvg_named.specs.declared.laid.LaidRows as held_laid
use Rattle.dvg_named.specs.declared.reading.Reading.{Reading}
use Rattle.dvg_named.specs.LaidValues.{laid_sections}
use Rattle.dvg_named.specs.Meanings.{IsRomText}
use Rattle.dvg_named.specs.SketchFaults.{laid_of}
use Rattle.dvg_named.specs.Sections.{Spelled}
use Rattle.dvg_named.specs.SketchReading.{spelled_in}
use Rattle.dvg_named.specs.TextReading.{ReadsText}

-- the bytes are those of the ROM that the sketch tells
pub record GivesRom (sketch : Spelled) (bytes : List ℕ) : Type 0 where
  pub stated : RomText
  pub text : IsRomText sketch stated
  pub is_rom : IsRomOf stated bytes

-- the lines of a text were read, and these are the sections of its ROM as they are laid
pub record IsLaidText {A : Type 0} (reading : Reading A) (laid : List held_laid.LaidRows) : Type 0 where
  pub small : List ℕ
  pub reads : ReadsText small reading
  pub are : laid_sections laid ≡ laid_of (spelled_in reads.rom reading)
