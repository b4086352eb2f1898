-- The first row of a section that wants a name which isn't given.
use Rattle.std.specs.Prelude.{◌≡◌, ◌<◌, ℕ, List, [], Some, None, slice_get}
use Rattle.std.specs.List.{AllZip}
use Rattle.dvg_frame.specs.declared.op.OpKind.{OpKind}
use Rattle.dvg_named.specs.declared.laid.LaidRows as held_laid
use Rattle.dvg_rows.specs.declared.row.Doing as held_doing
use Rattle.dvg_rows.specs.declared.row.Row as held
use Rattle.dvg_rows.specs.HeldRows.{rows_of}
use Rattle.dvg_named.specs.LaidValues.{laid_sections}
use Rattle.dvg_named.specs.Meanings.{IsDrafted}
use Rattle.dvg_named.specs.SketchFaults.{IsUngiven}
use Rattle.dvg_named.specs.Places.{Laid}
use Rattle.dvg_rows.specs.RowPlaces.{doings}
use Rattle.dvg_rows.specs.RowValues.{doing_of}
use Rattle.dvg_rows.specs.Rows.{Doing, Row, rom, top}
use Rattle.dvg_named.specs.Sections.{Section}

-- rows as those of a frame
abbrev pub framed : List Row → Section
framed rows = record { head = top; rows = rows }

-- rows as those of a section of the ROM
abbrev pub in_rom : List Row → Section
in_rom rows = record { head = rom None; rows = rows }

-- the row at this place of a section wants a name that isn't given
pub record WantsAt (sections : List Laid) (section : Section) (place : ℕ) : Type 0 where
  pub row : Row
  pub stands : slice_get section.rows place ≡ Some row
  pub doing : Doing
  pub does : row.doing ≡ Some doing
  pub ungiven : IsUngiven sections section doing

-- it does, and none before it does
pub record IsFirstUngiven (sections : List Laid) (section : Section) (place : ℕ) : Type 0 where
  pub wants : WantsAt sections section place
  pub first : (earlier : ℕ) → earlier < place → ¬ WantsAt sections section earlier

-- a draft has what the rows of a frame do, in order
abbrev pub Drafts : List held_laid.LaidRows → List held.Row → List OpKind → Type 0
Drafts laid rows = AllZip (IsDrafted (laid_sections laid) (rows_of rows)) (doings (rows_of rows))

-- in the ROM it wants a name that isn't given
abbrev pub WantsInRom : List held_laid.LaidRows → held_doing.Doing → Type 0
WantsInRom laid doing = IsUngiven (laid_sections laid) (in_rom []) (doing_of doing)
