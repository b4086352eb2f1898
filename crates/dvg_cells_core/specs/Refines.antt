-- All clocks since power-up: what the core is told in them, and that its pins are what the definition says of that.
use Rattle.std.specs.Prelude.{ℕ, ◌≡◌, ◌<◌, true, false, not, nat_eq, if◌then◌else◌, List, [], ◌∷◌, ◌++◌, All}
use Rattle.std.specs.Prelude.{Option, Some, None, is_some}
use Rattle.dvg_gen.specs.declared.beam.Beam.{Beam}
use Rattle.dvg_gen.specs.declared.stroke.Stroke.{Stroke}
use Rattle.dvg_gen.specs.Bytes.{Met, Waits, Whole, met}
use Rattle.dvg_gen.specs.Run.{wanted, beam_after, strokes}
use Rattle.dvg_gen.specs.Told.{Told, Start, Reset, Fed, Newest, Leaves, reply}
use Rattle.dvg_cells_core.specs.Cells.{bit}
use Rattle.dvg_cells_core.specs.Core.{Core, Pins, zeros, clock, halted}
use Rattle.dvg_cells_core.specs.Shown.{line_of, ShowsReply}

-- the pins of a clock are bits and a byte
pub record ArePins (pins : Pins) : Type 0 where
  pub reset : pins.reset < 2
  pub start : pins.start < 2
  pub valid : pins.valid < 2
  pub hole : pins.hole < 2
  pub din : pins.din < 256

-- the core after these clocks since power-up, the newest first
abbrev pub after : List Pins → Core
after [] = zeros
after (pins ∷ clocks) = clock (after clocks) pins

-- strokes with that of one more clock; a reset and a start drop them
abbrev pub drawn_by : Pins → Core → List Stroke → List Stroke
drawn_by pins core drew =
    if nat_eq pins.reset 0 then if nat_eq pins.start 0 then drew ++ line_of core else [] else []

-- the strokes that the pins showed since the newest start, in their order
abbrev pub drew : List Pins → List Stroke
drew [] = []
drew (pins ∷ clocks) = drawn_by pins (after (pins ∷ clocks)) (drew clocks)

-- the byte that memory answers with; none for a hole
abbrev pub byte_of : Pins → Option ℕ
byte_of pins = if nat_eq pins.hole 0 then Some pins.din else None

-- the history after what a fetch met: a low byte alone tells nothing
abbrev pub told_by : Met → List Told → List Told
told_by (Waits byte) history = history
told_by (Whole word) history = Fed word ∷ history

-- the low byte that waits after what a fetch met
abbrev pub waiting : Met → Option ℕ
waiting (Waits byte) = Some byte
waiting (Whole word) = None

-- what one clock does to a history and a low byte that waits, and what a fetch met in it, if there was one: it is a
-- reset, else a start, else nothing without `valid` or an open run, else the answer to the fetch
pub data Tells (pins : Pins) (history : List Told) (low : Option ℕ) : List Told → Option ℕ → Option Met → Type 0 where
  resets : pins.reset ≡ 1 → Tells pins history low (Reset ∷ history) None None
  starts : pins.reset ≡ 0 → pins.start ≡ 1 → Tells pins history low (Start ∷ history) None None
  idles : pins.reset ≡ 0 → pins.start ≡ 0 → pins.valid ≡ 0 → Tells pins history low history low None
  ignores : {run : Newest} → pins.reset ≡ 0 → pins.start ≡ 0 → pins.valid ≡ 1 → Leaves history run
      → run.is_open ≡ false → Tells pins history low history low None
  fetches : {run : Newest} → pins.reset ≡ 0 → pins.start ≡ 0 → pins.valid ≡ 1 → Leaves history run
      → run.is_open ≡ true
      → Tells pins history low (told_by (met low (byte_of pins)) history) (waiting (met low (byte_of pins)))
      (Some (met low (byte_of pins)))

-- the history that clocks since power-up make, the low byte that waits after it, and what the newest clock met
pub data Hears : List Pins → List Told → Option ℕ → Option Met → Type 0 where
  powers : Hears [] [] None None
  clocks : {pins : Pins} {older : List Pins} {history history' : List Told} {low low' : Option ℕ}
      {last found : Option Met} → Hears older history low last → Tells pins history low history' low' found
      → Hears (pins ∷ older) history' low' found

-- the pins say nothing
abbrev pub IsQuiet : Core → Type 0
IsQuiet core = (core.done ≡ 0) × (core.fault ≡ 0) × (core.stroke ≡ 0)

-- what the pins say of what was met: the definition's answer to a word or a hole, and else nothing
abbrev pub Said : Option Met → Core → List Stroke → Newest → Type 0
Said (Some (Whole word)) core drew run = ShowsReply (reply word run) core drew
Said (Some (Waits byte)) core drew run = IsQuiet core
Said None core drew run = IsQuiet core

-- where the beam is, and the global scale
abbrev pub beam_of : Core → Beam
beam_of core = record { x = core.x; y = core.y; scale = core.scale }

-- the pins after these clocks are those of the run that their history leaves
pub record Agrees (clocks : List Pins) : Type 0 where
  pub history : List Told
  pub low : Option ℕ
  pub found : Option Met
  pub hears : Hears clocks history low found
  pub run : Newest
  pub leaves : Leaves history run
  -- the flag shows whether no run is open, and the beam is where the run's instructions moved it
  pub halted : halted (after clocks) ≡ bit (not run.is_open)
  pub beam : beam_of (after clocks) ≡ beam_after run.first run.visits
  -- in an open run, the word and the byte of it that are wanted next, and the strokes so far
  pub at : run.is_open ≡ true → (after clocks).at ≡ wanted run.visits run.held
  pub high : run.is_open ≡ true → (after clocks).high ≡ bit (is_some low)
  pub lines : run.is_open ≡ true → drew clocks ≡ strokes run.first run.visits
  -- how the newest word was answered
  pub said : Said found (after clocks) (drew clocks) run

-- whatever the pins were in each clock since power-up
abbrev pub CoreRefines : Type 0
CoreRefines = (clocks : List Pins) → All ArePins clocks → Agrees clocks

-- what was fetched are words of 16 bits
abbrev pub AreWords : List Told → Type 0
AreWords [] = Unit {0}
AreWords (Fed (Some word) ∷ history) = (word < 65536) × AreWords history
AreWords (told ∷ history) = AreWords history

-- the converse: each history that leaves a run has clocks since power-up that make it
abbrev pub HasClocks : Type 0
HasClocks = (history : List Told) (run : Newest) → Leaves history run → AreWords history
    → (clocks : List Pins) × All ArePins clocks × (found : Option Met) × Hears clocks history None found
