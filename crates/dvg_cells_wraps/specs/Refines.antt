-- All clocks since power-up of a core whose stack wraps: what it is told in them, and that its pins are what the
-- definition of a generator whose stack wraps says of that.
use Rattle.std.specs.Prelude.{ℕ, ◌≡◌, true, false, not, List, [], ◌∷◌, All, Option, Some, None, is_some}
use Rattle.dvg_gen.specs.declared.stroke.Stroke.{Stroke}
use Rattle.dvg_gen.specs.Bytes.{Met, met}
use Rattle.dvg_gen.specs.Run.{wanted, beam_after, strokes}
use Rattle.dvg_gen.specs.Told.{Told, Start, Reset, Newest, Leaves}
use Rattle.dvg_gen.specs.Wrapping.{Wraps}
use Rattle.dvg_cells_core.specs.Cells.{bit}
use Rattle.dvg_cells_core.specs.Core.{Core, Pins}
use Rattle.dvg_cells_core.specs.Core as core
use Rattle.dvg_cells_core.specs.Refines.{ArePins, drawn_by, byte_of, told_by, waiting, Said, beam_of}
use Rattle.dvg_cells_wraps.specs.Wraps.{zeros, clock, halted}
use Rattle.dvg_cells_wraps.specs.Wraps as wraps

-- the core after these clocks since power-up, the newest first
abbrev pub after : List Pins → wraps.Wraps
after [] = zeros
after (pins ∷ clocks) = clock (after clocks) pins

-- its registers as those of a core whose stack holds nothing
abbrev pub core_of : wraps.Wraps → Core
core_of it = record {
  at = it.at;
  high = it.high;
  done = it.done;
  fault = it.fault;
  stroke = it.stroke;
  x0 = it.x0;
  y0 = it.y0;
  x = it.x;
  y = it.y;
  z = it.z;
  is_open = it.is_open;
  second = it.second;
  first = it.first;
  low = it.low;
  depth = 0;
  s0 = it.s0;
  s1 = it.s1;
  s2 = it.s2;
  s3 = it.s3;
  scale = it.scale;
}

-- the four return addresses, the newest first
abbrev pub registers : wraps.Wraps → List ℕ
registers it = it.s0 ∷ it.s1 ∷ it.s2 ∷ it.s3 ∷ []

-- the strokes that the pins showed since the newest start, in their order
abbrev pub drew : List Pins → List Stroke
drew [] = []
drew (pins ∷ clocks) = drawn_by pins (core_of (after (pins ∷ clocks))) (drew clocks)

-- what one clock does to a history and a low byte that waits, as with a core whose stack doesn't wrap; whether a run is
-- open is said by what is told in the place of the history
pub data Tells (pins : Pins) (history : List Told) (low : Option ℕ) : List Told → Option ℕ → Option Met → Type 0 where
  resets : pins.reset ≡ 1 → Tells pins history low (Reset ∷ history) None None
  starts : pins.reset ≡ 0 → pins.start ≡ 1 → Tells pins history low (Start ∷ history) None None
  idles : pins.reset ≡ 0 → pins.start ≡ 0 → pins.valid ≡ 0 → Tells pins history low history low None
  ignores : {told : List Told} {addresses : List ℕ} {run : Newest} → pins.reset ≡ 0 → pins.start ≡ 0 → pins.valid ≡ 1
      → Wraps history told addresses → Leaves told run → run.is_open ≡ false → Tells pins history low history low None
  fetches : {told : List Told} {addresses : List ℕ} {run : Newest} → pins.reset ≡ 0 → pins.start ≡ 0 → pins.valid ≡ 1
      → Wraps history told addresses → Leaves told run → run.is_open ≡ true
      → Tells pins history low (told_by (met low (byte_of pins)) history) (waiting (met low (byte_of pins)))
      (Some (met low (byte_of pins)))

-- the history that clocks since power-up make, the low byte that waits after it, and what the newest clock met
pub data Hears : List Pins → List Told → Option ℕ → Option Met → Type 0 where
  powers : Hears [] [] None None
  clocks : {pins : Pins} {older : List Pins} {history history' : List Told} {low low' : Option ℕ}
      {last found : Option Met} → Hears older history low last → Tells pins history low history' low' found
      → Hears (pins ∷ older) history' low' found

-- the pins after these clocks are those of the run that is left by what is told in the place of their history
pub record Agrees (clocks : List Pins) : Type 0 where
  pub history : List Told
  pub low : Option ℕ
  pub found : Option Met
  pub hears : Hears clocks history low found
  -- a jump in the place of each call and each return, and the four registers
  pub told : List Told
  pub wraps : Wraps history told (registers (after clocks))
  pub run : Newest
  pub leaves : Leaves told run
  -- the flag shows whether no run is open, and the beam is where the run's instructions moved it
  pub halted : halted (after clocks) ≡ bit (not run.is_open)
  pub beam : beam_of (core_of (after clocks)) ≡ beam_after run.first run.visits
  -- in an open run, the word and the byte of it that are wanted next, and the strokes so far
  pub at : run.is_open ≡ true → (after clocks).at ≡ wanted run.visits run.held
  pub high : run.is_open ≡ true → (after clocks).high ≡ bit (is_some low)
  pub lines : run.is_open ≡ true → drew clocks ≡ strokes run.first run.visits
  -- how the newest word was answered
  pub said : Said found (core_of (after clocks)) (drew clocks) run

-- whatever the pins were in each clock since power-up
abbrev pub WrapsRefines : Type 0
WrapsRefines = (clocks : List Pins) → All ArePins clocks → Agrees clocks

-- the pins that tell of the clock itself are those of a core whose stack doesn't wrap, with the same registers
abbrev pub WrapsTells : Type 0
WrapsTells = (it : wraps.Wraps) (pins : Pins) → (wraps.ends it pins ≡ core.ends (core_of it) pins)
    × (wraps.jsrl it pins ≡ core.jsrl (core_of it) pins) × (wraps.labs it pins ≡ core.labs (core_of it) pins)
    × (wraps.vec it pins ≡ core.vec (core_of it) pins) × (wraps.sum it pins ≡ core.sum (core_of it) pins)
    × (wraps.dx_sign it pins ≡ core.dx_sign (core_of it) pins) × (wraps.dy_sign it pins ≡ core.dy_sign (core_of it) pins)
    × (wraps.dx it pins ≡ core.dx (core_of it) pins) × (wraps.dy it pins ≡ core.dy (core_of it) pins)
    × (wraps.vec_z it pins ≡ core.vec_z (core_of it) pins)
