use Rattle.std.proofs.Common.{◌≡◌, length, take}
use Rattle.dvg_read.specs.RomTexts.{IsRomOf, RomText}
use Rattle.dvg_named.specs.LaidValues.{laid_sections}
use Rattle.dvg_named.specs.RomBytes.{TellsSections}
use Rattle.dvg_named.proofs.rom_words.put_sections.Given as goal

abbrev pub invariant-loop-section : goal.invariant-loop-section
invariant-loop-section g l = record {
  stated : (stated : RomText) → IsRomOf stated l.initial.rom
      → TellsSections (laid_sections l.sections) (laid_sections (take l.section-index l.sections)) stated l.rom;
  count : length l.rom ≡ length l.initial.rom;
}
