-- What the reader of a sketch holds of its ROM (for private contracts).
use Rattle.std.specs.Prelude.{◌≡◌, ℕ, List}
use Rattle.dvg_read.specs.declared.rom_text.RomReading as held_text
use Rattle.dvg_read.specs.RomReading.{HoldsRom, TellsRom}
use Rattle.dvg_read.specs.RomTexts.{RomText, first_stated}
use Rattle.dvg_named.specs.declared.stated_rom.StatedRom.{StatedRom}
use Rattle.dvg_named.specs.Places.{free_after}

-- what is stated of the ROM, as the reader of drafts holds it
abbrev pub as_drafted : StatedRom → held_text.RomReading
as_drafted held = record { is_stated = held.is_stated; bytes = held.bytes }

-- the reader holds the ROM that was stated, and the first free word
pub record HoldsStated (rom : RomText) (held : StatedRom) : Type 0 where
  pub holds : HoldsRom rom (as_drafted held)
  pub free : held.free ≡ free_after (first_stated rom.map) rom.given

-- a line more was read that tells something
pub record TellsStated (rom : RomText) (line : List ℕ) (held : StatedRom) : Type 0 where
  pub now : RomText
  pub tells : TellsRom rom line now
  pub holds : HoldsStated now held
