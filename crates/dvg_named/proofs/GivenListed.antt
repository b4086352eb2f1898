-- The names that the sections of the ROM gave are those that are listed.
use Rattle.std.proofs.Common.{◌≡◌, ◌∙◌, ℕ, List, ap, sym}
use Rattle.dvg_read.specs.LineParts.{bytes_of}
use Rattle.dvg_read.specs.RomTexts.{first_stated}
use Rattle.dvg_rows.specs.RowPlaces.{names_of}
use Rattle.dvg_named.specs.declared.laid.LaidRows as held_laid
use Rattle.dvg_named.specs.declared.meaning.RomName.{RomName}
use Rattle.dvg_named.specs.declared.reading.Reading.{Reading}
use Rattle.dvg_named.specs.LaidValues.{laid_sections, rows_laid}
use Rattle.dvg_named.specs.Places.{free_after}
use Rattle.dvg_named.specs.RomNames.{names_listed}
use Rattle.dvg_named.specs.Sections.{rom_sections}
use Rattle.dvg_named.specs.SketchFaults.{laid_of}
use Rattle.dvg_named.specs.SketchReading.{spelled_in}
use Rattle.dvg_named.specs.TextReading.{ReadsText}
use Rattle.dvg_named.proofs.SketchWhole.{rows_are}

pub given_listed : {A : Type 0} (small : List ℕ) (reading : Reading A) (read : ReadsText small reading)
    (laid : List held_laid.LaidRows) (names : List RomName) → laid_sections laid ≡ laid_of (spelled_in read.rom reading)
    → names_listed names ≡ names_of (rows_laid (laid_sections laid))
    → bytes_of reading.rom_names.given.keys ≡ names_listed names
given_listed small reading read laid names are listed =
    let sketch = spelled_in read.rom reading in
    read.reads.keeps.roms
    ∙ sym (listed ∙ ap (λ l. names_of (rows_laid l)) are
    ∙ ap names_of (rows_are (free_after (first_stated sketch.rom.map) sketch.rom.given) (rom_sections sketch)))
