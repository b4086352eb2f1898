-- A run of cells can always go on, and there is one.
use Rattle.std.specs.Prelude.{◌≡◌, ℕ, suc, ◌+◌, ◌-◌, ◌*◌, ◌<◌, ◌≤◌, ◌==◌, ◌&&◌, true, not, nat_eq, nat_le, nat_lt}
use Rattle.std.specs.Prelude.{if◌then◌else◌, List, ◌∷◌, length, slice_index}
use Rattle.dvg_mem.specs.Memory.{first_word}
use Rattle.dvg_cells_core.specs.Cells.{bit}
use Rattle.dvg_cells_board.specs.Board as pin
use Rattle.dvg_cells_board.specs.Board.{Bus}
use Rattle.dvg_cells_board.specs.Example.{zeros}
use Rattle.dvg_cells_cpu.specs.Cpu.{at}
use Rattle.dvg_calls_cells.specs.Machine.{Machine, Bus as Pins, clock, drives_board}
use Rattle.dvg_game_6502.specs.SomeGame as game
use Rattle.dvg_game_board.specs.Example.{nothing}
use Rattle.dvg_game_cells.specs.Whole.{IsCellsRun, calm_after, rises, work_after}

-- what memory answers: the work RAM, the ROM, its vectors, and all else with any byte
abbrev pub answer : (rom work : ℕ → ℕ) → (free a : ℕ) → ℕ
answer rom work free a = if nat_lt a 0x200 then work a else if nat_le 0x4800 a && nat_lt a 0x8000 then rom a
    else if nat_le 0xFFFA a then rom (a - 0x8000) else free

-- the pins where that is served in the second clock of a cycle, and any byte before, and the generator's ROM in each
abbrev pub pins_for : List ℕ → (ℕ → ℕ) → Machine → (ℕ → ℕ) → (reset ready nmi hold free : ℕ) → Pins
pins_for R rom machine work reset ready nmi hold free = record {
  reset = reset;
  ready = ready;
  nmi = nmi;
  hold = hold;
  big = bit (not (length R == 2048));
  rom = slice_index R (2 * (pin.at machine.board - first_word R) + pin.high machine.board);
  m = if nat_eq machine.answers 1 then answer rom work free (at machine.cpu) else free;
  undefined = 0;
}

-- each run can have a clock more in which memory and the generator's ROM answer, whatever `reset`, `ready`, `nmi`, `hold`
-- and the free byte are in it, unless an NMI rises too soon
abbrev pub RunsGoOn : Type 0
RunsGoOn = (R image : List ℕ) (held rom : ℕ → ℕ) (machine : Machine) (work : ℕ → ℕ) (calm : ℕ) (clocks : List Bus)
    → IsCellsRun R image held rom machine work calm clocks → (reset ready nmi hold free : ℕ) → reset < 2 → ready < 2
    → nmi < 2 → free < 256
    → let pins = pins_for R rom machine work reset ready nmi hold free in
    (rises machine pins ≡ true → 5200 ≤ suc calm)
    → IsCellsRun R image held rom (clock machine pins) (work_after machine pins work) (calm_after machine pins calm)
    (drives_board machine pins ∷ clocks)

-- over RAMs and a vector ROM of zeros dvg_game_6502's example of a game, which the checker accepts, runs on the cells from power-up
-- on: the driver begins its boot, and in the 113th clock it reads byte 001
abbrev pub SomeWhole : Type 0
SomeWhole = (machine : Machine) × (work : ℕ → ℕ) × (calm : ℕ) × (bus : Bus) × (clocks : List Bus)
    × IsCellsRun zeros zeros nothing (game.rom nothing) machine work calm (bus ∷ clocks) × (length clocks ≡ 112)
    × (bus.access ≡ 1) × (bus.write ≡ 0) × (bus.a ≡ 0x4001)
