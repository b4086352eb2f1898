-- The lines in which the rows stand that the reader of a sketch holds.
use Rattle.std.specs.Prelude.{◌≡◌, ◌<◌, ◌≤◌, ◌⊎◌, ℕ, ◌+◌, List, [], ◌∷◌, ◌++◌, All, AllPairs, IfSome, Option, None, Some, length}
use Rattle.std.specs.List.{AllZip}
use Rattle.dvg_read.specs.Texts.{lines}
use Rattle.dvg_rows.specs.declared.source.Source.{Source}
use Rattle.dvg_rows.specs.declared.part.Part.{Part}
use Rattle.dvg_named.specs.declared.reading.Reading.{Reading}
use Rattle.dvg_rows.specs.declared.row.Head as held_head
use Rattle.dvg_rows.specs.declared.row.Row as held_row
use Rattle.dvg_rows.specs.PlainLines.{plain}
use Rattle.dvg_rows.specs.RowValues.{head_of, row_of}
use Rattle.dvg_rows.specs.Rows.{Head, IsHeadLine, IsRowLine, frame}
use Rattle.dvg_named.specs.Sections.{HasTop, Spelled}

-- a line of a text in small letters, and its number, counted from 1
pub record IsLineAt (small : List ℕ) (source : Source) : Type 0 where
  pub before : List (List ℕ)
  pub after : List (List ℕ)
  pub cut : lines small ≡ before ++ source.line.now ∷ after
  pub number : source.number ≡ length before + 1

-- the row stands in this line
pub record IsRowAt (small : List ℕ) (row : held_row.Row) (source : Source) : Type 0 where
  pub at : IsLineAt small source
  pub spelled : IsRowLine (row_of row) (plain source.line.now)

-- the line begins a section so
pub record IsHeadAt (small : List ℕ) (head : held_head.Head) (source : Source) : Type 0 where
  pub at : IsLineAt small source
  pub spelled : IsHeadLine (head_of head) (plain source.line.now)

-- the first line, which is empty where there is none
abbrev pub first_of : List (List ℕ) → List ℕ
first_of [] = []
first_of (line ∷ others) = line

-- the section begins in this line; that at the top begins in the first one
abbrev pub BeginsIn : (small : List ℕ) → Option held_head.Head → Source → Type 0
BeginsIn small None source = (source.number ≡ 1) × (source.line.now ≡ first_of (lines small))
BeginsIn small (Some head) source = IsHeadAt small head source

-- a frame with this name begins in this line, which is a line `.frame` with the name, or with none; where there is a
-- frame at the top, it has no name, and its line is the first one
abbrev pub BeginsFrame : (small : List ℕ) → Spelled → Option (List ℕ) → Source → Type 0
BeginsFrame small sketch name source = (IsLineAt small source × IsHeadLine (frame name) (plain source.line.now))
    ⊎ (HasTop sketch × (name ≡ None) × (source.number ≡ 1) × (source.line.now ≡ first_of (lines small)))

-- each of these lines stands before the next one
abbrev pub Rise : List Source → Type 0
Rise = AllPairs (λ source next. source.number < next.number)

-- no section begins in a line between those of these two numbers
abbrev pub NoneBegins : (small : List ℕ) (from to : ℕ) → Type 0
NoneBegins small from to = (line : Source) (head : Head) → IsLineAt small line → from < line.number → line.number < to
    → ¬ IsHeadLine head (plain line.line.now)

-- the line stands in the section that begins in the other one: not before it, and no section begins between the two
abbrev pub IsInSection : (small : List ℕ) (begin source : Source) → Type 0
IsInSection small begin source = (begin.number ≤ source.number) × NoneBegins small begin.number source.number

-- the section begins in its line, and each of its rows stands in its own
pub record IsPartAt {A : Type 0} (small : List ℕ) (part : Part A) : Type 0 where
  pub begin : BeginsIn small part.head part.begin
  pub rows : AllZip (IsRowAt small) part.rows.items part.sources.items
  pub rise : Rise part.sources.items
  pub inside : All (IsInSection small part.begin) part.sources.items

-- the lines of the section stand before that of this number: those of its rows, and that which begins it, if one does
pub record StandsBefore {A : Type 0} (number : ℕ) (part : Part A) : Type 0 where
  pub begin : IfSome part.head (λ head. part.begin.number < number)
  pub rows : All (λ source. source.number < number) part.sources.items

-- each of these sections stands before the next one
abbrev pub AreInOrder : {A : Type 0} → List (Part A) → Type 0
AreInOrder = AllPairs (λ part next. StandsBefore next.begin.number part)

-- so it is of each section, where the lines before that of this number were read
pub record AreSourced {A : Type 0} (small : List ℕ) (next : ℕ) (reading : Reading A) : Type 0 where
  pub closed : All (IsPartAt small) reading.closed.items
  pub last : IsPartAt small reading.last
  pub order : AreInOrder reading.closed.items
  pub ahead : All (StandsBefore reading.last.begin.number) reading.closed.items
  pub before : All (StandsBefore next) reading.closed.items
  pub last_before : StandsBefore next reading.last
  pub none : NoneBegins small reading.last.begin.number next

-- with this line more, in which this stands, each section and each row stands in its line
abbrev pub SourcesLine : {A : Type 0} → (IsAt : List ℕ → Source → Type 0) → Source → (old new : Reading A) → Type 0
SourcesLine IsAt source old new = (small : List ℕ) → AreSourced small source.number old → IsAt small source
    → AreSourced small (source.number + 1) new
