-- The lines in which the operations of frames stand.
use Rattle.std.specs.Prelude.{◌≡◌, ◌≤◌, ◌-◌, ℕ, List, [], ◌∷◌, ◌++◌, Option, None, Some, drop, length, take}
use Rattle.dvg_named.specs.declared.frame_rows.FrameRows as held_frame
use Rattle.dvg_named.specs.declared.joining.FrameSpan.{FrameSpan}
use Rattle.dvg_rows.specs.declared.source.Source.{Source}
use Rattle.dvg_rows.specs.declared.row.Doing as held_doing
use Rattle.dvg_rows.specs.declared.row.Row as held
use Rattle.dvg_rows.specs.PlainLines.{plain}
use Rattle.dvg_rows.specs.Rows.{Doing, IsRowLine, Row}
use Rattle.dvg_named.specs.SourcedRows.{IsLineAt}

-- the line, where the row does something
abbrev pub line_kept : Option held_doing.Doing → Source → List Source
line_kept None source = []
line_kept (Some doing) source = source ∷ []

-- the lines of those rows that do something, in order
abbrev pub op_sources : List held.Row → List Source → List Source
op_sources (row ∷ rows) (source ∷ sources) = line_kept row.doing source ++ op_sources rows sources
op_sources _ _ = []

-- each row of the frame has a line
abbrev pub HasRowLines : held_frame.FrameRows → Type 0
HasRowLines frame = length frame.rows.now ≡ length frame.sources.now

-- the lines that stand there in a list of lines
abbrev pub lines_at : List Source → FrameSpan → List Source
lines_at sources span = take (span.end - span.start) (drop span.start sources)

-- the lines of the frame's operations stand there
pub record AreLinesOf (sources : List Source) (frame : held_frame.FrameRows) (span : FrameSpan) : Type 0 where
  pub from : span.start ≤ span.end
  pub to : span.end ≤ length sources
  pub are : lines_at sources span ≡ op_sources frame.rows.now frame.sources.now

-- a row that does this stands in the line
pub record IsDoneAt (small : List ℕ) (doing : Doing) (source : Source) : Type 0 where
  pub at : IsLineAt small source
  pub row : Row
  pub spelled : IsRowLine row (plain source.line.now)
  pub does : row.doing ≡ Some doing
