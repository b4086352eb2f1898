-- A sketch, line by line (for private contracts).
use Rattle.std.specs.Prelude.{◌≡◌, ℕ, List, [], ◌∷◌, ◌++◌}
use Rattle.std.specs.List.{join_with_byte}
use Rattle.dvg_read.specs.RomReading.{TellsRom}
use Rattle.dvg_read.specs.RomTexts.{RomText}
use Rattle.dvg_read.specs.Texts.{parts}
use Rattle.dvg_rows.specs.Rows.{Head, IsHeadLine, IsRowLine, Row}
use Rattle.dvg_named.specs.Sections.{MayStand, Section, Spelled}

-- what lines spell so far
abbrev pub so_far : RomText → List Row → List Section → Spelled
so_far rom first others = record { rom = rom; first = first; others = others }

-- a section with a row more
abbrev pub with_row : Section → Row → Section
with_row section row = record { head = section.head; rows = section.rows ++ row ∷ [] }

-- a section without rows
abbrev pub begun : Head → Section
begun head = record { head = head; rows = [] }

-- what a line more makes of it
pub data SketchTakes : Spelled → List ℕ → Spelled → Type 0 where
  tells : {rom now : RomText} {line : List ℕ} → TellsRom rom line now
      → SketchTakes (so_far rom [] []) line (so_far now [] [])
  tops : {rom : RomText} {first : List Row} {line : List ℕ} (row : Row) → IsRowLine row line
      → SketchTakes (so_far rom first []) line (so_far rom (first ++ row ∷ []) [])
  adds : {rom : RomText} {first : List Row} {others : List Section} {line : List ℕ} (before : List Section)
      (section : Section)
      (row : Row) → others ≡ before ++ section ∷ [] → MayStand section.head row → IsRowLine row line
      → SketchTakes (so_far rom first others) line (so_far rom first (before ++ with_row section row ∷ []))
  begins : {rom : RomText} {first : List Row} {others : List Section} {line : List ℕ} (head : Head)
      → IsHeadLine head line
      → SketchTakes (so_far rom first others) line (so_far rom first (others ++ begun head ∷ []))

-- the line of these tokens, as a plain draft has it
abbrev pub line_of : List (List ℕ) → List ℕ
line_of = join_with_byte 32

-- the tokens are the parts of their line
abbrev pub AreParts : List (List ℕ) → Type 0
AreParts ws = parts (line_of ws) ≡ ws
