-- The lines that describe a ROM, and the ROM that they give.
use Rattle.std.specs.Prelude.{◌≡◌, ℕ, ◌+◌, ◌-◌, ◌<◌, ◌≤◌, ◌&&◌, nat_le, nat_lt, if◌then◌else◌, List, [], ◌∷◌, length}
use Rattle.std.specs.Prelude.{codes, slice_index, Option, Some, None, unwrap_or}
use Rattle.std.specs.List.{AllZip}
use Rattle.dvg_mem.specs.Memory.{IsRom, first_word, rom_word}
use Rattle.dvg_read.specs.Texts.{IsHex, parts}

-- the words that a line gives, from a word address on
pub record RomLine : Type 0 where
  pub address : ℕ
  pub words : List ℕ

-- one to eight words, whose addresses are those of a ROM's words, where its first one is at `first`
pub record IsRomLine (first : ℕ) (given : RomLine) (line : List ℕ) : Type 0 where
  pub digits : List ℕ
  pub spelled : List (List ℕ)
  pub split : parts line ≡ codes "rom" ∷ digits ∷ spelled
  pub address : IsHex 3 given.address digits
  pub words : AllZip (λ word part. IsHex 4 word part) given.words spelled
  pub some : 0 < length given.words
  pub most : length given.words ≤ 8
  pub low : first ≤ given.address
  pub high : given.address + length given.words ≤ 0xC00

-- the line of a memory map: how many bytes the ROM has, and so the word address of its first word
pub data IsMapLine : (first : ℕ) → List ℕ → Type 0 where
  small : IsMapLine 0x800 (codes "map 2048")
  large : IsMapLine 0x400 (codes "map 4096")

-- what a text says of the ROM: the word address of its first word, if a line gives the map, and the
-- words that lines give
pub record RomText : Type 0 where
  pub map : Option ℕ
  pub given : List RomLine

-- the word address of the ROM's first word: 800, where no line gives the map
abbrev pub first_stated : Option ℕ → ℕ
first_stated map = unwrap_or map 0x800

-- perhaps the line of a map, and then lines that give words
pub data SpellsRom : RomText → List (List ℕ) → Type 0 where
  unmapped : {given : List RomLine} {ls : List (List ℕ)} → AllZip (IsRomLine 0x800) given ls
      → SpellsRom (record { map = None; given = given }) ls
  mapped : {first : ℕ} {given : List RomLine} {line : List ℕ} {ls : List (List ℕ)} → IsMapLine first line
      → AllZip (IsRomLine first) given ls
      → SpellsRom (record { map = Some first; given = given }) (line ∷ ls)

-- the word at an address after one more line, where it was `word` before that line
abbrev pub word_after_line : RomLine → (a word : ℕ) → ℕ
word_after_line given a word = if nat_le given.address a && nat_lt a
    (given.address + length given.words) then slice_index given.words (a - given.address) else word

-- the word at an address after these lines, where it was `word` before them: a later line overwrites an earlier one
abbrev pub word_after : List RomLine → (a word : ℕ) → ℕ
word_after [] a word = word
word_after (given ∷ roms) a word = word_after roms a (word_after_line given a word)

-- the ROM that a text gives; a word that no line gives is D000, an RTSL
pub record IsRomOf (rom : RomText) (R : List ℕ) : Type 0 where
  pub whole : IsRom R
  pub first : first_word R ≡ first_stated rom.map
  pub words : (a : ℕ) → first_word R ≤ a → a < 0xC00 → rom_word R a ≡ Some (word_after rom.given a 0xD000)
