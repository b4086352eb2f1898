-- The rows that the reader of a sketch holds, and the number of the line of each (for private contracts).
use Rattle.std.specs.Prelude.{◌≡◌, ◌<◌, ℕ, ◌+◌, List, [], ◌∷◌, ◌++◌, AllPairs, Contains, None, Option, length}
use Rattle.dvg_read.specs.Texts.{unpassed}
use Rattle.dvg_rows.specs.declared.source.Source.{Source}
use Rattle.dvg_rows.specs.declared.part.Part.{Part}
use Rattle.dvg_named.specs.declared.reading.Reading.{Reading}
use Rattle.dvg_rows.specs.declared.row.Head as held_head
use Rattle.dvg_rows.specs.declared.row.Row as held_row
use Rattle.dvg_rows.specs.RowValues.{row_of}
use Rattle.dvg_rows.specs.Rows.{IsRowLine, Row}
use Rattle.dvg_named.specs.Sections.{Spelled, SpellsSketch}
use Rattle.dvg_named.specs.SourcedRows.{AreSourced}

-- a row, the number of its section, counted from 0, and that of its line, counted from 1
pub record Entry : Type 0 where
  pub section : ℕ
  pub row : Row
  pub number : ℕ

-- a row that is held, and its line
abbrev pub entry_of : (section : ℕ) → held_row.Row → Source → Entry
entry_of section row source = record { section = section; row = row_of row; number = source.number }

-- the rows of a section, and their lines
abbrev pub entries_of : (section : ℕ) → List held_row.Row → List Source → List Entry
entries_of section [] sources = []
entries_of section (row ∷ rows) [] = []
entries_of section (row ∷ rows) (source ∷ sources) = entry_of section row source ∷ entries_of section rows sources

-- those of sections, of which the first has this number
abbrev pub entries_from : {A : Type 0} → (section : ℕ) → List (Part A) → List Entry
entries_from section [] = []
entries_from section (part ∷ parts) =
    entries_of section part.rows.items part.sources.items ++ entries_from (section + 1) parts

-- those of the last section, which has this number
abbrev pub entries_last : {A : Type 0} → (section : ℕ) → Part A → List Entry
entries_last section part = entries_of section part.rows.items part.sources.items

-- those of all sections that are held
abbrev pub entries_in : {A : Type 0} → Reading A → List Entry
entries_in reading = entries_from 0 reading.closed.items ++ entries_last (length reading.closed.items) reading.last

-- how the first section begins
abbrev pub first_head : {A : Type 0} → List (Part A) → Part A → Option held_head.Head
first_head [] last = last.head
first_head (first ∷ others) last = first.head

-- how the first section that is held begins
abbrev pub head_at_top : {A : Type 0} → Reading A → Option held_head.Head
head_at_top reading = first_head reading.closed.items reading.last

-- the reader holds the same rows as before
pub record KeepsEntries {A : Type 0} (old new : Reading A) : Type 0 where
  pub top : head_at_top new ≡ head_at_top old
  pub entries : entries_in new ≡ entries_in old

-- the reader holds one more row, in the last section
pub record AddsEntry {A : Type 0} (old : Reading A) (row : Row) (number : ℕ) (new : Reading A) : Type 0 where
  pub top : head_at_top new ≡ head_at_top old
  pub entries : entries_in new
      ≡ entries_in old ++ record { section = length new.closed.items; row = row; number = number } ∷ []

-- with the line of this number the row is held, where the lines before it were read
abbrev pub EntersRow : {A : Type 0} → Row → (number : ℕ) → (old new : Reading A) → Type 0
EntersRow row number old new = (small : List ℕ) (next : ℕ) → AreSourced small next old → AddsEntry old row number new

-- the line of this number was read: the row is held that it spells, if it spells one
pub data Numbers {A : Type 0} (old : Reading A) (line : List ℕ) (number : ℕ) (new : Reading A) : Type 0 where
  keeps : KeepsEntries old new → ((row : Row) → ¬ IsRowLine row line) → Numbers old line number new
  adds : (row : Row) → IsRowLine row line → AddsEntry old row number new → Numbers old line number new

-- the row stands in its line among these; as many sections begin up to it as part of the lines spells
pub record IsEntryOf (ls : List (List ℕ)) (entry : Entry) : Type 0 where
  pub before : List (List ℕ)
  pub line : List ℕ
  pub after : List (List ℕ)
  pub cut : ls ≡ before ++ line ∷ after
  pub number : entry.number ≡ length before + 1
  pub part : Spelled
  pub up_to : SpellsSketch part (unpassed before ++ line ∷ [])
  pub inside : entry.section ≡ length part.others
  pub spelled : IsRowLine entry.row line

-- exactly the rows of these lines are held, in the order of the lines, after a top that no line begins
pub record AreNumbered {A : Type 0} (ls : List (List ℕ)) (reading : Reading A) : Type 0 where
  pub top : head_at_top reading ≡ None
  pub holds : (entry : Entry) → Contains (entries_in reading) entry → IsEntryOf ls entry
  pub all : (entry : Entry) → IsEntryOf ls entry → Contains (entries_in reading) entry
  pub rising : AllPairs (λ entry next. entry.number < next.number) (entries_in reading)
