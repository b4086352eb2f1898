-- Sections as those of the ROM (for private contracts).
use Rattle.std.specs.Prelude.{List, [], ◌∷◌, Option}
use Rattle.dvg_rows.specs.Rows.{Head, Row, frame, rom, top}
use Rattle.dvg_named.specs.Sections.{RomRows, Section, rom_of}

-- a section as one of the ROM, if it is one
abbrev pub rom_in : Section → Option RomRows
rom_in section = rom_of section.head section.rows

-- rows as a section of the ROM, in a list, if they are one
abbrev pub rom_list : Head → List Row → List RomRows
rom_list top rows = []
rom_list (frame name) rows = []
rom_list (rom address) rows = record { address = address; rows = rows } ∷ []
