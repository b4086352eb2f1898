-- Sections of the ROM, as the reader holds them.
use Rattle.std.specs.Prelude.{◌≡◌, ◌≤◌, ℕ, List, All, map}
use Rattle.std.specs.List.{flat_map}
use Rattle.dvg_named.specs.declared.laid.LaidRows as held_laid
use Rattle.dvg_named.specs.declared.laid.RomRows as held_rom
use Rattle.dvg_rows.specs.HeldRows.{rows_of}
use Rattle.dvg_named.specs.Places.{IsAddress, Laid, laid_end, laid_from}
use Rattle.dvg_rows.specs.Rows.{Row}
use Rattle.dvg_named.specs.Sections.{RomRows}

-- a section of the ROM
abbrev pub section_of : held_rom.RomRows → RomRows
section_of section = record { address = section.address; rows = rows_of section.rows.now }

-- sections of the ROM, in order
abbrev pub sections_of : List held_rom.RomRows → List RomRows
sections_of = map section_of

-- all rows of sections, in order
abbrev pub rows_in : List RomRows → List Row
rows_in = flat_map (λ section. section.rows)

-- a laid section
abbrev pub laid_section : held_laid.LaidRows → Laid
laid_section section = record { start = section.start; rows = rows_of section.rows.now }

-- laid sections, in order
abbrev pub laid_sections : List held_laid.LaidRows → List Laid
laid_sections = map laid_section

-- all rows of laid sections, in order
abbrev pub rows_laid : List Laid → List Row
rows_laid = flat_map (λ section. section.rows)

-- these are the sections as they are laid, from the first free word on
abbrev pub AreLaid : (free : ℕ) → List held_rom.RomRows → List held_laid.LaidRows → Type 0
AreLaid free sections laid = laid_sections laid ≡ laid_from free (sections_of sections)

-- the name is that of this word address
abbrev pub IsAddressIn : List held_laid.LaidRows → (name : List ℕ) → (address : ℕ) → Type 0
IsAddressIn sections name address = IsAddress (laid_sections sections) name address

-- no section gives this name
abbrev pub NoneNames : List held_laid.LaidRows → (name : List ℕ) → Type 0
NoneNames sections name = (address : ℕ) → ¬ IsAddress (laid_sections sections) name address

-- no section goes on after the ROM's last word, at BFF
abbrev pub AreLow : List Laid → Type 0
AreLow = All (λ section. laid_end section ≤ 0xC00)
