-- The whole machine of core/dvg_vectors.v: where its counters are, and how long its bytes take.
use Rattle.std.specs.Prelude.{ℕ, ◌+◌, ◌-◌, ◌≡◌, ◌<◌, ◌⊎◌, ◌≤◌, nat_eq, nat_le, if◌then◌else◌, false, All, List, [], ◌∷◌, ◌++◌}
use Rattle.dvg_gen.specs.declared.counters.Counters.{Counters}
use Rattle.dvg_gen.specs.Counting.{followed_all}
use Rattle.dvg_cells_core.specs.Cells.{bit, mux}
use Rattle.dvg_cells_core.specs.Core.{Pins}
use Rattle.dvg_cells_core.specs.Refines.{Agrees}
use Rattle.dvg_cells_board.specs.Board.{takes, ends, jsrl, vec, pins}
use Rattle.dvg_cells_board.specs.Board as board
use Rattle.dvg_cells_motion.specs.Motion.{Motion, going}
use Rattle.dvg_cells_motion.specs.Pace.{Pace, hold, rests}
use Rattle.dvg_cells_motion.specs.Pulses.{counters_of, time}
use Rattle.dvg_cells_core.specs.Tells.{moves_of}
use Rattle.dvg_cells_motion.specs.Vectors.{Vectors, Bus, powered, clock, halted, drives_board}

-- the pins of a clock are bits and bytes
pub record IsBus (bus : Bus) : Type 0 where
  pub tick : bus.tick < 2
  pub reset : bus.reset < 2
  pub d : bus.d < 256
  pub rom : bus.rom < 256

-- the RAM holds bytes
abbrev pub HasBytes : (ℕ → ℕ) → Type 0
HasBytes held = (a : ℕ) → held a < 256

-- the machine after these clocks since power-up, the newest first; its RAM held this at first
abbrev pub after : (ℕ → ℕ) → List Bus → Vectors
after held [] = powered held
after held (bus ∷ clocks) = clock (after held clocks) bus

-- the pins of its core in a clock
abbrev pub core_pins : Vectors → Bus → Pins
core_pins vectors bus = pins vectors.board (drives_board vectors bus)

-- and in each of these clocks
abbrev pub cores : (ℕ → ℕ) → List Bus → List Pins
cores held [] = []
cores held (bus ∷ clocks) = core_pins (after held clocks) bus ∷ cores held clocks

-- no vector goes, and no LABS waits for its tick
abbrev pub AtRest : Pace → Motion → Type 0
AtRest pace motion = (going motion ≡ 0) × (pace.placing ≡ 0)

-- the counters from which the newest run of these clocks of the core goes on: 0 at power-up, and at a start those to
-- which all moves of the run before lead, also if it was broken off
pub data BeganAt : List Pins → Counters → Type 0 where
  powers : BeganAt [] (record { x = 0; y = 0 })
  starts : {pins : Pins} {clocks : List Pins} {began : Counters} → pins.reset ≡ 0 → pins.start ≡ 1
      → (was : Agrees clocks) → BeganAt clocks began → BeganAt (pins ∷ clocks) (followed_all began (moves_of was.run))
  stays : {pins : Pins} {clocks : List Pins} {began : Counters} → (pins.reset ≡ 1) ⊎ (pins.start ≡ 0)
      → BeganAt clocks began → BeganAt (pins ∷ clocks) began

-- the core agrees with the definition of the generator, and at rest the counters are those that followed all moves of
-- the run, dark ones too; where `hold` is low, all is at rest
pub record CountersFollow (clocks : List Pins) (pace : Pace) (motion : Motion) : Type 0 where
  pub agrees : Agrees clocks
  pub began : Counters
  pub begins : BeganAt clocks began
  pub counters : AtRest pace motion → counters_of motion ≡ followed_all began (moves_of agrees.run)
  pub held : hold pace ≡ 0 → AtRest pace motion
  -- once an instruction's own ticks are over, no LABS waits
  pub placed : rests pace ≡ 1 → pace.placing ≡ 0

-- so it is after each list of clocks since power-up, whatever their pins were
abbrev pub MachineFollows : Type 0
MachineFollows = (held : ℕ → ℕ) → HasBytes held → (clocks : List Bus) → All IsBus clocks
    → CountersFollow (cores held clocks) (after held clocks).pace (after held clocks).motion

-- so where the pin `halted` is high, no run is open, and the counters are those that followed all moves of the newest one
abbrev pub HaltedTells : Type 0
HaltedTells = (held : ℕ → ℕ) → HasBytes held → (clocks : List Bus) → All IsBus clocks → halted (after held clocks) ≡ 1
    → (is : CountersFollow (cores held clocks) (after held clocks).pace (after held clocks).motion)
    × (is.agrees.run.is_open ≡ false)
    × (counters_of (after held clocks).motion ≡ followed_all is.began (moves_of is.agrees.run))

-- the ticks of an instruction's own: two of a JSRL, else one; a byte that ends none has none
abbrev pub own_ticks : (jsrl ends : ℕ) → ℕ
own_ticks jsrl ends = mux jsrl 2 (mux ends 1 0)

-- those of a vector: none where the byte ends none
abbrev pub vector_ticks : (vec sum : ℕ) → ℕ
vector_ticks vec sum = if nat_eq vec 0 then 0 else time sum

-- the own ticks of the byte that is taken in a clock; and all of its ticks, but that in which it is fetched
abbrev pub own_ticks_of_byte : Vectors → Bus → ℕ
own_ticks_of_byte vectors bus =
    let driven = drives_board vectors bus in own_ticks (jsrl vectors.board driven) (ends vectors.board driven)

abbrev pub ticks_of_byte : Vectors → Bus → ℕ
ticks_of_byte vectors bus =
    let driven = drives_board vectors bus in
    own_ticks_of_byte vectors bus
    + vector_ticks (vec vectors.board driven) (board.sum vectors.board driven)

-- in how many of these clocks `tick` was high
abbrev pub ticks : List Bus → ℕ
ticks [] = 0
ticks (bus ∷ clocks) = ticks clocks + bus.tick

-- in each of the later clocks, no byte is taken, and no run is started or ended by a reset
abbrev pub AreIdle : (ℕ → ℕ) → List Bus → (later : List Bus) → Type 0
AreIdle held clocks [] = Unit {0}
AreIdle held clocks (bus ∷ later) =
    let vectors = after held (later ++ clocks) in
    (takes vectors.board (drives_board vectors bus) ≡ 0) × (board.starts vectors.board (drives_board vectors bus) ≡ 0)
    × (bus.reset ≡ 0) × AreIdle held clocks later

-- after a byte `hold` is high until as many ticks came as it has, and one more; an instruction's own ticks come first, and
-- until they came `rests` is low
abbrev pub TakesTime : Type 0
TakesTime = (held : ℕ → ℕ) → HasBytes held → (clocks : List Bus) (bus : Bus) (later : List Bus)
    → All IsBus (later ++ bus ∷ clocks) → takes (after held clocks).board (drives_board (after held clocks) bus) ≡ 1
    → AreIdle held (bus ∷ clocks) later
    → (hold (after held (later ++ bus ∷ clocks)).pace ≡ bit (nat_le (ticks later) (ticks_of_byte (after held clocks) bus)))
    × (rests (after held (later ++ bus ∷ clocks)).pace ≡ bit (nat_le (own_ticks_of_byte (after held clocks) bus) (ticks later)))

-- the ticks that a vector which goes has left
abbrev pub vector_left : Motion → ℕ
vector_left motion = motion.last - motion.count

-- and after a start, also amid a vector, until two ticks came, and those that the vector had left: one is its own
abbrev pub StartTakes : Type 0
StartTakes = (held : ℕ → ℕ) → HasBytes held → (clocks : List Bus) (bus : Bus) (later : List Bus)
    → All IsBus (later ++ bus ∷ clocks) → board.starts (after held clocks).board (drives_board (after held clocks) bus) ≡ 1
    → AreIdle held (bus ∷ clocks) later → hold (after held (later ++ bus ∷ clocks)).pace
    ≡ bit (nat_le (ticks later) (1 + vector_left (after held (bus ∷ clocks)).motion))

-- a vector that goes when a run starts, as after a reset, is over once the start's own tick came and those that it had
-- left, of which there are 1,024 at most
abbrev pub OldVectorEnds : Type 0
OldVectorEnds = (held : ℕ → ℕ) → HasBytes held → (clocks : List Bus) (bus : Bus) (later : List Bus)
    → All IsBus (later ++ bus ∷ clocks) → board.starts (after held clocks).board (drives_board (after held clocks) bus) ≡ 1
    → AreIdle held (bus ∷ clocks) later → (vector_left (after held (bus ∷ clocks)).motion ≤ 1024)
    × (1 + vector_left (after held (bus ∷ clocks)).motion ≤ ticks later
    → going (after held (later ++ bus ∷ clocks)).motion ≡ 0)
