-- How the lines that describe a ROM are read (for private contracts).
use Rattle.std.specs.Prelude.{◌≡◌, ◌↔◌, ℕ, ◌+◌, ◌*◌, ◌<◌, List, [], ◌∷◌, ◌++◌, length, Option, Some, None, IsFalse}
use Rattle.std.specs.List.{AllZip}
use Rattle.dvg_code.specs.Words.{word_in}
use Rattle.dvg_read.specs.declared.rom_text.RomReading.{RomReading}
use Rattle.dvg_read.specs.RomTexts.{IsMapLine, IsRomLine, IsRomOf, RomLine, RomText, first_stated, word_after_line}
use Rattle.dvg_read.specs.Texts.{IsHex}

-- each part is a word of four hexadecimal digits
abbrev pub SpellsWords : List ℕ → List (List ℕ) → Type 0
SpellsWords = AllZip (λ word part. IsHex 4 word part)

-- each word of a ROM, whose first one is at `first`, is the one after this line
pub record IsAfterLine (given : RomLine) (first : ℕ) (old new : List ℕ) : Type 0 where
  pub count : length new ≡ length old
  pub words : (k : ℕ) → 2 * k < length old → word_in new k ≡ word_after_line given (first + k) (word_in old k)

-- nothing is said of the ROM
abbrev pub unstated : RomText
unstated = record { map = None; given = [] }

-- what one more line says of the ROM
pub data TellsRom : RomText → List ℕ → RomText → Type 0 where
  tells_map : {first : ℕ} {line : List ℕ} → IsMapLine first line
      → TellsRom unstated line (record { map = Some first; given = [] })
  gives_words : {map : Option ℕ} {before : List RomLine} {line : List ℕ} (given : RomLine)
      → IsRomLine (first_stated map) given line
      → TellsRom (record { map = map; given = before }) line (record { map = map; given = before ++ given ∷ [] })

-- the reader holds the ROM that was described, and whether anything was said of it
pub record HoldsRom (rom : RomText) (held : RomReading) : Type 0 where
  pub is_rom : IsRomOf rom held.bytes.items
  pub stated : IsFalse held.is_stated ↔ (rom ≡ unstated)

-- one more line was read, and it says something of the ROM
pub record TellsMore (rom : RomText) (line : List ℕ) (held : RomReading) : Type 0 where
  pub now : RomText
  pub tells : TellsRom rom line now
  pub holds : HoldsRom now held
