-- The first row of all sections that wants a name which isn't given (for private contracts).
use Rattle.std.specs.Prelude.{◌≡◌, ℕ, List, ◌∷◌, ◌++◌, [], All, None, Option, Some, length, map, slice_get}
use Rattle.dvg_rows.specs.declared.part.Part.{Part}
use Rattle.dvg_named.specs.declared.flat_draft.DraftFault.{DraftFault}
use Rattle.dvg_named.specs.declared.flat_draft.DraftFault.TheVariants.{Memory, UnknownName}
use Rattle.dvg_named.specs.declared.reading.Reading.{Reading}
use Rattle.dvg_rows.specs.declared.row.Head as held_head
use Rattle.dvg_rows.specs.declared.row.Row as held_row
use Rattle.dvg_rows.specs.HeldRows.{rows_of}
use Rattle.dvg_named.specs.LineNumbers.{Entry, entries_from, entries_last}
use Rattle.dvg_named.specs.SketchFaults.{IsUngiven}
use Rattle.dvg_named.specs.Places.{Laid}
use Rattle.dvg_rows.specs.Rows.{Doing, Row}
use Rattle.dvg_named.specs.Sections.{Section}
use Rattle.dvg_named.specs.SketchReading.{head_in, section_in}
use Rattle.dvg_named.specs.Ungiven.{WantsAt}

-- each row of the section has a line
abbrev pub HasLines : {A : Type 0} → Part A → Type 0
HasLines part = length part.rows.items ≡ length part.sources.items

-- a section that begins so, and has these rows
abbrev pub section_held : Option held_head.Head → List held_row.Row → Section
section_held head rows = record { head = head_in head; rows = rows_of rows }

-- all sections, in order
abbrev pub all_sections : {A : Type 0} → List (Part A) → Part A → List Section
all_sections closed last = map section_in closed ++ section_in last ∷ []

-- all sections that are held, in order
abbrev pub sections_in : {A : Type 0} → Reading A → List Section
sections_in reading = all_sections reading.closed.items reading.last

-- all rows, in order, and their lines
abbrev pub entries_held : {A : Type 0} → List (Part A) → Part A → List Entry
entries_held closed last = entries_from 0 closed ++ entries_last (length closed) last

-- the row of a section wants a name that isn't given
pub record WantsRow (laid : List Laid) (section : Section) (row : Row) : Type 0 where
  pub doing : Doing
  pub does : row.doing ≡ Some doing
  pub ungiven : IsUngiven laid section doing

-- no row of the section does
abbrev pub WantsNone : List Laid → Section → Type 0
WantsNone laid section = (place : ℕ) → ¬ WantsAt laid section place

-- why no drafts are made of the frames: a row needs a name that isn't given, or memory is refused
abbrev pub StopsDrafts : {A : Type 0} → List Laid → Reading A → DraftFault → Type 0
StopsDrafts laid reading UnknownName = ¬ All (WantsNone laid) (sections_in reading)
StopsDrafts laid reading Memory = Unit {0}

-- the row wants a name that isn't given, in its section of these
pub record WantsIn (laid : List Laid) (sections : List Section) (entry : Entry) : Type 0 where
  pub section : Section
  pub inside : slice_get sections entry.section ≡ Some section
  pub wants : WantsRow laid section entry.row

-- the first row of which it is so stands in the line of this number
pub record IsFirstOf (P : Entry → Type 0) (entries : List Entry) (found : ℕ) : Type 0 where
  pub before : List Entry
  pub entry : Entry
  pub after : List Entry
  pub cut : entries ≡ before ++ entry ∷ after
  pub none : All (λ earlier. ¬ P earlier) before
  pub is : P entry
  pub number : found ≡ entry.number

-- that of no row, where it is so of none
abbrev pub FirstOf : (Entry → Type 0) → List Entry → Option ℕ → Type 0
FirstOf P entries None = All (λ entry. ¬ P entry) entries
FirstOf P entries (Some number) = IsFirstOf P entries number

-- the line number of the first row of this section that wants a name which isn't given, whichever section it is
abbrev pub IsFirstIn : {A : Type 0} → List Laid → Part A → Option ℕ → Type 0
IsFirstIn laid part found = (sections : List Section) (number : ℕ) → slice_get sections number ≡ Some (section_in part)
    → FirstOf (WantsIn laid sections) (entries_last number part) found
