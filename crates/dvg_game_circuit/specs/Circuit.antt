-- A whole Asteroids board as one circuit on one clock: all that may come since power-up, and what it keeps.
use Rattle.std.specs.Prelude.{◌≡◌, ℕ, ◌-◌, ◌%◌, ◌<◌, ◌≤◌, nat_lt, if◌then◌else◌, All, List, [], ◌∷◌, slice_index}
use Rattle.dvg_mem.specs.Memory.{IsImage}
use Rattle.dvg_cells_board.specs.Board as board
use Rattle.dvg_cells_motion.specs.Vectors as vectors
use Rattle.dvg_cells_motion.specs.Machine as drawn
use Rattle.dvg_calls_cells.specs.Machine.{Machine}
use Rattle.dvg_game_cells.specs.Keeps.{CellsKeep}
use Rattle.dvg_game_circuit.specs.Game.{Game, Bus, powered, clock, drives_vectors}

-- what its memories hold at power-up: the ROM as the processor reads it, the generator's ROM, the RAM, and the vector RAM
pub record Held : Type 0 where
  pub code : ℕ → ℕ
  pub shapes : ℕ → ℕ
  pub work : ℕ → ℕ
  pub ram : ℕ → ℕ

-- the circuit after these clocks since power-up, the newest first
abbrev pub after : Held → List Bus → Game
after held [] = powered held.code held.shapes held.work held.ram
after held (bus ∷ clocks) = clock (after held clocks) bus

-- the pins of a clock are bits, a byte, and two
pub record IsBus (bus : Bus) : Type 0 where
  pub reset : bus.reset < 2
  pub tick : bus.tick < 2
  pub ready : bus.ready < 2
  pub held : bus.held < 65536
  pub switches : bus.switches < 256

-- each pin is high
abbrev pub high : Bus → Bus
high bus = record bus { reset = 1; tick = 1; ready = 1; held = 65535; switches = 255 }

-- the byte of the ROM that the processor reads here: the program from 6800 on, the vector ROM below
abbrev pub read : (code : ℕ → ℕ) → ℕ → ℕ
read code a = code (if nat_lt a 0x6800 then a % 0x800 else a - 0x6000)

-- bytes in all memories, of which both ROMs hold this game; `image` is the vector RAM
pub record HoldsGame (R image : List ℕ) (rom : ℕ → ℕ) (held : Held) : Type 0 where
  pub program : (a : ℕ) → 0x4800 ≤ a → a < 0x8000 → read held.code a ≡ rom a
  pub shapes : (a : ℕ) → a < 0x800 → held.shapes a ≡ slice_index R a
  pub whole : IsImage image
  pub ram : (a : ℕ) → a < 2048 → held.ram a ≡ slice_index image a
  pub code_bytes : (a : ℕ) → held.code a < 256
  pub shapes_bytes : (a : ℕ) → held.shapes a < 256
  pub work_bytes : (a : ℕ) → held.work a < 256
  pub ram_bytes : (a : ℕ) → held.ram a < 256

-- its processor and its board, as dvg_machine has them
abbrev pub machine_of : Game → Machine
machine_of game = record { answers = game.answers; board = game.vectors.board; cpu = game.cpu }

-- the clocks of its vectors, and of their board
abbrev pub vector_clocks : Held → List Bus → List vectors.Bus
vector_clocks held [] = []
vector_clocks held (bus ∷ clocks) = drives_vectors (after held clocks) bus ∷ vector_clocks held clocks

abbrev pub board_clocks : Held → List Bus → List board.Bus
board_clocks held [] = []
board_clocks held (bus ∷ clocks) =
    vectors.drives_board (after held clocks).vectors (drives_vectors (after held clocks) bus) ∷ board_clocks held clocks

-- what a run keeps. The processor did what a 6502 by its definition does with this ROM; there is a log that the board's
-- clocks make, legal and true to the headline (`CellsKeep`). And what draws are the vectors after their own clocks, whose
-- pins are bits and bytes: so what is said of each list of these is said of them
pub record CircuitKeeps (R image : List ℕ) (rom : ℕ → ℕ) (start : ℕ) (held : Held) (clocks : List Bus) : Type 0 where
  pub cells : CellsKeep R image held.ram rom start (machine_of (after held clocks)) (board_clocks held clocks)
  pub vectors : (after held clocks).vectors ≡ drawn.after held.ram (vector_clocks held clocks)
  pub driven : All drawn.IsBus (vector_clocks held clocks)
