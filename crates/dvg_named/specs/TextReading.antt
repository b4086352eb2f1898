-- What the reader of all lines of a sketch answers.
use Rattle.std.specs.Prelude.{ℕ, ◌≤◌, List, length, map}
use Rattle.dvg_read.specs.RomTexts.{RomText}
use Rattle.dvg_read.specs.Texts.{lines, unpassed}
use Rattle.dvg_read.specs.declared.fault.Unread.{Unread}
use Rattle.dvg_read.specs.declared.fault.Unread.TheVariants.{Memory, Text}
use Rattle.dvg_named.specs.declared.reading.Reading.{Reading}
use Rattle.dvg_named.specs.LineNumbers.{AreNumbered}
use Rattle.dvg_named.specs.SketchFaults.{HasSketchFault}
use Rattle.dvg_rows.specs.PlainLines.{plain}
use Rattle.dvg_named.specs.Sections.{SpellsSketch}
use Rattle.dvg_named.specs.SketchReading.{Reads, spelled_in}
use Rattle.dvg_named.specs.SourcedRows.{AreSourced}
use Rattle.dvg_read.specs.declared.draft_text.TheConstants.{MOST_TEXT_BYTES}

-- all lines of a text in small letters spell what the reader holds, within the limits; it holds the line of each row
pub record ReadsText {A : Type 0} (small : List ℕ) (reading : Reading A) : Type 0 where
  pub short : length small ≤ MOST_TEXT_BYTES
  pub rom : RomText
  pub spelled : SpellsSketch (spelled_in rom reading) (unpassed (map plain (lines small)))
  pub reads : Reads rom reading
  pub next : ℕ
  pub sourced : AreSourced small next reading
  pub numbered : AreNumbered (map plain (lines small)) reading

-- why a text isn't read: its fault, or want of memory
abbrev pub StopsText : Unread → (text : List ℕ) → Type 0
StopsText (Text fault) text = HasSketchFault text fault
StopsText Memory text = Unit {0}
