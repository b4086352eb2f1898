-- A cycle of the processor is two clocks of the machine: in the first one its access is made, in the second one it is answered.
-- Between two cycles the processor may wait.
use Rattle.std.specs.Prelude.{◌≡◌, ℕ, nat_eq, false, List, [], ◌∷◌}
use Rattle.dvg_calls_6502.specs.Processor.{Access, Reads, Writes}
use Rattle.dvg_calls_6502.specs.Board.{is_ram, strobe_place}
use Rattle.dvg_cells_board.specs.Board.{Board, Bus}
use Rattle.dvg_cells_board.specs.Clocks.{after}
use Rattle.dvg_cells_cpu.specs.Cpu.{Cpu as Cells}
use Rattle.dvg_cells_cpu.specs.Refines.{Cycle}
use Rattle.dvg_calls_cells.specs.Machine.{Machine, Bus as Pins, drives_board, drives_cpu, clock}

-- what is driven in a clock, beside `reset` and `ready`
pub record Drive : Type 0 where
  pub nmi : ℕ
  pub hold : ℕ
  pub big : ℕ
  pub rom : ℕ
  pub m : ℕ
  pub undefined : ℕ

abbrev pub pins_by : (reset ready : ℕ) → Drive → Pins
pins_by reset ready drive = record {
  reset = reset;
  ready = ready;
  nmi = drive.nmi;
  hold = drive.hold;
  big = drive.big;
  rom = drive.rom;
  m = drive.m;
  undefined = drive.undefined;
}

-- without a reset, with one, and where a cycle would begin and the processor waits
abbrev pub driven : Drive → Pins
driven drive = pins_by 0 1 drive

abbrev pub resetting : Drive → Pins
resetting drive = pins_by 1 1 drive

abbrev pub waiting : Drive → Pins
waiting drive = pins_by 0 0 drive

-- in the two clocks of a cycle
pub record Two : Type 0 where
  pub first : Drive
  pub second : Drive

-- a cycle, or a clock in which the processor waits
pub data Turn : Type 0 where
  acts : Two → Turn
  idles : Drive → Turn

-- the machine with this processor and this board, about to make an access; in the clock after it; and after the cycle
abbrev pub begins : Cells → Board → Machine
begins cells board = record { answers = 0; cpu = cells; board = board }

abbrev pub between : Machine → Two → Machine
between machine two = clock machine (driven two.first)

abbrev pub next : Machine → Turn → Machine
next machine (acts two) = clock (between machine two) (driven two.second)
next machine (idles drive) = clock machine (waiting drive)

-- what the board's pins are driven by in both
abbrev pub first_bus : Machine → Two → Bus
first_bus machine two = drives_board machine (driven two.first)

abbrev pub second_bus : Machine → Two → Bus
second_bus machine two = drives_board (between machine two) (driven two.second)

-- in a clock in which the processor waits
abbrev pub wait_bus : Machine → Drive → Bus
wait_bus machine drive = drives_board machine (waiting drive)

-- after some turns, the first one first
abbrev pub ends : Machine → List Turn → Machine
ends machine [] = machine
ends machine (turn ∷ later) = ends (next machine turn) later

-- the board's clocks in them, on these, the newest one first
abbrev pub buses : Machine → List Turn → List Bus → List Bus
buses machine [] older = older
buses machine (acts two ∷ later) older =
    buses (next machine (acts two)) later (second_bus machine two ∷ first_bus machine two ∷ older)
buses machine (idles drive ∷ later) older = buses (next machine (idles drive)) later (wait_bus machine drive ∷ older)

-- their cycles as the processor's cells take them
abbrev pub cycle_of : Machine → Two → Cycle
cycle_of machine two = record { nmi = two.second.nmi; din = (drives_cpu (between machine two) (driven two.second)).din }

abbrev pub cycles_of : Machine → List Turn → List Cycle
cycles_of machine [] = []
cycles_of machine (acts two ∷ later) = cycle_of machine two ∷ cycles_of (next machine (acts two)) later
cycles_of machine (idles drive ∷ later) = cycles_of (next machine (idles drive)) later

-- each write of these is at a place of which this holds; reads are at any place
abbrev pub WriteAt : (ℕ → Type 0) → List Access → Type 0
WriteAt P [] = Unit {0}
WriteAt P (Reads a byte ∷ list) = WriteAt P list
WriteAt P (Writes a byte ∷ list) = P a × WriteAt P list

-- none of these writes the vector RAM or sends the strobe
abbrev pub IsQuiet : ℕ → Type 0
IsQuiet a = (is_ram a ≡ false) × (nat_eq a strobe_place ≡ false)

abbrev pub AreQuiet : List Access → Type 0
AreQuiet list = WriteAt IsQuiet list

-- none sends the strobe
abbrev pub IsSilent : ℕ → Type 0
IsSilent a = nat_eq a strobe_place ≡ false

abbrev pub SendNothing : List Access → Type 0
SendNothing list = WriteAt IsSilent list

-- clocks of the machine, and those that a log is of: the same, but that a read may be of another place
pub data AreAlike : List Bus → List Bus → Type 0 where
  none : AreAlike [] []
  same : {made shown : List Bus} (bus : Bus) → AreAlike made shown → AreAlike (bus ∷ made) (bus ∷ shown)
  elsewhere : {made shown : List Bus} (bus : Bus) (a : ℕ) → bus.write ≡ 0 → AreAlike made shown
      → AreAlike (bus ∷ made) (record bus { a = a } ∷ shown)

-- and they leave the board as those of the machine do: so what the program looks at by itself is in no log
pub record StandFor (held : ℕ → ℕ) (made shown : List Bus) : Type 0 where
  pub alike : AreAlike made shown
  pub board : after held shown ≡ after held made
