-- Rows and heads as the reader holds them: names are slices of the text.
use Rattle.std.specs.Prelude.{ℕ, List, Option, Some, None}
use Rattle.std.specs.Borrow.{Bor}
use Rattle.dvg_rows.specs.declared.row.Doing as held_doing
use Rattle.dvg_rows.specs.declared.row.Doing.TheVariants as does
use Rattle.dvg_rows.specs.declared.row.Head as held_head
use Rattle.dvg_rows.specs.declared.row.Head.TheVariants as begins
use Rattle.dvg_rows.specs.declared.row.Row as held_row
use Rattle.dvg_rows.specs.Rows.{Doing, Head, Row, calls, calls_rom, frame, jumps, jumps_rom, plainly, rom}

-- the bytes of a name, if there is one
abbrev pub name_of : Option (Bor (List ℕ)) → Option (List ℕ)
name_of None = None
name_of (Some name) = Some name.now

-- what a row does
abbrev pub doing_of : held_doing.Doing → Doing
doing_of (does.Plainly op) = plainly op
doing_of (does.Calls name) = calls name.now
doing_of (does.Jumps name) = jumps name.now
doing_of (does.CallsRom name) = calls_rom name.now
doing_of (does.JumpsRom name) = jumps_rom name.now

-- what a row does, if it does something
abbrev pub doing_of_some : Option held_doing.Doing → Option Doing
doing_of_some None = None
doing_of_some (Some doing) = Some (doing_of doing)

-- a row
abbrev pub row_of : held_row.Row → Row
row_of row = record { name = name_of row.name; doing = doing_of_some row.doing }

-- how a section begins
abbrev pub head_of : held_head.Head → Head
head_of (begins.Frame name) = frame (name_of name)
head_of (begins.Rom address) = rom address
