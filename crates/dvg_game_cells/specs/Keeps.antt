-- The joined law: what the checker's yes to a ROM says of each run of cells that have it in memory.
use Rattle.std.specs.Prelude.{◌≡◌, ◌⊎◌, ◌<◌, ℕ, true, false, nat_eq, List, Option, Some, None}
use Rattle.dvg_calls_6502.specs.Amid.{changed}
use Rattle.dvg_calls_6502.specs.Processor.{Cpu}
use Rattle.dvg_calls_6502.specs.Code.{dvg_offer, dvg_pair, dvg_put}
use Rattle.dvg_cells_board.specs.Board.{Bus}
use Rattle.dvg_cells_board.specs.Clocks.{after}
use Rattle.dvg_cells_board.specs.Logs.{HoldsRam}
use Rattle.dvg_cells_cpu.specs.Cpu.{Cpu as Cells}
use Rattle.dvg_cells_cpu.specs.Refines.{Holds}
use Rattle.dvg_game_rules.specs.Checker.{Notes, accepts}
use Rattle.dvg_game_rules.specs.Machine.{IsLoaded, IsTurned, reset_vector, word_at}
use Rattle.dvg_calls_cells.specs.Machine.{Machine, sync}
use Rattle.dvg_game_6502.specs.Games.{Content, never_calls}
use Rattle.dvg_game_6502.specs.Play.{IsByteWide, done, interrupted, restarts}
use Rattle.dvg_game_board.specs.Cabinet.{DrawAlike, IsCabinet}
use Rattle.dvg_game_board.specs.Keeps.{GameKeepsHeadline}
use Rattle.dvg_game_cells.specs.Whole.{IsCellsRun}

-- a reset comes where no program stands, since power-up or a reset of the whole, or from a program that jumps there
abbrev pub MayBoot : Option (Cpu × ℕ) → Type 0
MayBoot None = Unit {0}
MayBoot (Some spot) = restarts spot.0 ≡ true

-- a 6502 by its definition with this ROM, between a reset and the program's start: where the reset's vector leads, with any
-- registers and any memory but in the ROM; an instruction on, but not from the start; at an NMI; and where switches, coins and
-- all else outside turn to any bytes. Amid an NMI it says where its routine is to come back, and no other NMI comes till then
pub data IsBoot (rom : ℕ → ℕ) (start : ℕ) (spot : Option (Cpu × ℕ)) : (amid : Option ℕ) → Cpu → Type 0 where
  from_vector : (cpu : Cpu) → MayBoot spot → IsLoaded rom cpu.mem → cpu.pc ≡ word_at rom reset_vector → IsByteWide cpu
      → IsBoot rom start spot None cpu
  by_step : {amid : Option ℕ} {cpu : Cpu} (flags : ℕ → ℕ) → IsBoot rom start spot amid cpu → nat_eq cpu.pc start ≡ false
      → flags 0 < 256 → IsBoot rom start spot amid (done flags cpu)
  by_nmi : {cpu : Cpu} → IsBoot rom start spot None cpu → IsBoot rom start spot (Some cpu.pc) (interrupted cpu)
  by_return : {back : ℕ} {cpu : Cpu} → IsBoot rom start spot (Some back) cpu → cpu.pc ≡ back → IsBoot rom start spot None cpu
  by_turn : {amid : Option ℕ} {cpu : Cpu} (mem : ℕ → ℕ) → IsBoot rom start spot amid cpu → ((b : ℕ) → mem b < 256)
      → IsTurned cpu.mem mem → IsBoot rom start spot amid (changed mem cpu)

-- the cells have the registers of the processor that stands here, or of one that boots
abbrev pub StandAt : Cells → Option (Cpu × ℕ) → Type 0
StandAt cells None = ⊥
StandAt cells (Some spot) = Holds cells spot.0

abbrev pub AreBooting : (rom : ℕ → ℕ) → (start : ℕ) → Option (Cpu × ℕ) → Cells → Type 0
AreBooting rom start spot cells = (amid : Option ℕ) × (cpu : Cpu) × IsBoot rom start spot amid cpu × Holds cells cpu

-- the cells did what a 6502 by its definition does with this ROM: their clocks of the board are those of a run of it; and in
-- the first clock of a cycle that reads an opcode they have its registers, or those of one that boots, where it may. There is
-- a log that these clocks make, as `GameKeepsHeadline` has it; the machine's board is the one of these clocks, and has the
-- core and the RAM of the board that the log is of, whose RAM is what the log says
pub record CellsKeep (R image : List ℕ) (held rom : ℕ → ℕ) (start : ℕ) (machine : Machine) (clocks : List Bus) : Type 0 where
  pub spot : Option (Cpu × ℕ)
  pub game : IsCabinet R image held rom start spot clocks
  pub registers : machine.answers ≡ 0 → sync machine ≡ 1 → StandAt machine.cpu spot ⊎ AreBooting rom start spot machine.cpu
  pub keeps : GameKeepsHeadline R image held clocks
  pub board : machine.board ≡ after held clocks
  pub draw : DrawAlike machine.board (after held keeps.shown)
  pub memory : HoldsRam image held keeps.log clocks

-- where the checker accepts a game, and what it offers and puts is so, each run of the cells keeps this
abbrev pub GamesOnCellsKeep : Type 0
GamesOnCellsKeep = (R image : List ℕ) (held rom : ℕ → ℕ) (start : ℕ) (notes : Notes)
    → accepts rom start notes ≡ true → Content R rom start
    → (machine : Machine) (work : ℕ → ℕ) (calm : ℕ) (clocks : List Bus)
    → IsCellsRun R image held rom machine work calm clocks → CellsKeep R image held rom start machine clocks

-- and each run of a game that builds its frames by dvg_open, dvg_labs, dvg_vector and dvg_close alone: its bytes say so, and
-- of what it draws there is no premise
abbrev pub VectorsOnCellsKeep : Type 0
VectorsOnCellsKeep = (R image : List ℕ) (held rom : ℕ → ℕ) (start : ℕ) (notes : Notes)
    → accepts rom start notes ≡ true → never_calls rom dvg_offer ≡ true → never_calls rom dvg_put ≡ true
    → never_calls rom dvg_pair ≡ true
    → (machine : Machine) (work : ℕ → ℕ) (calm : ℕ) (clocks : List Bus)
    → IsCellsRun R image held rom machine work calm clocks → CellsKeep R image held rom start machine clocks
