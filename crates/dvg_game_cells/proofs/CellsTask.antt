-- What the processor's cells are doing: an instruction, an NMI, or the reads of a reset, with the cycles of it so far.
use Rattle.std.proofs.Common.{◌≡◌, ℕ, suc, ◌+◌, ◌*◌, ◌<◌, ◌≤◌, true, List, [], ◌∷◌}
use Rattle.std.specs.Prelude.{◌⊎◌, nat_eq, nat_lt, ◌&&◌, if◌then◌else◌, Option, None, Some}
use Rattle.dvg_mem.specs.Memory.{IsRom}
use Rattle.dvg_calls_6502.specs.Processor.{Cpu, put}
use Rattle.dvg_cells_board.specs.Board.{Bus}
use Rattle.dvg_cells_board.specs.Clocks.{after}
use Rattle.dvg_cells_cpu.specs.Cpu.{Cpu as Cells, at, write, dout, clock}
use Rattle.dvg_cells_cpu.specs.Refines.{Cycle, pins_of, Holds, Rests, cycles}
use Rattle.dvg_game_rules.specs.Machine.{IsLoaded}
use Rattle.dvg_game_rules.specs.Checker.{boots}
use Rattle.dvg_game_rules.proofs.Early.{Early}
use Rattle.dvg_calls_cells.specs.Machine.{Machine}
use Rattle.dvg_calls_cells.specs.Cycles.{Turn, acts, idles, next, cycles_of, cycle_of}
use Rattle.dvg_calls_cells.specs.Steps.{instr_of}
use Rattle.dvg_calls_cells.specs.Played.{AreGiven, at_rest, older_after, cells_after}
use Rattle.dvg_calls_cells.proofs.Fits.{AllFit}
use Rattle.dvg_game_6502.specs.Play.{IsByteWide}
use Rattle.dvg_game_board.specs.Cabinet.{IsCabinet}
use Rattle.dvg_game_cells.specs.Keeps.{IsBoot, MayBoot}
use Rattle.dvg_game_cells.specs.Whole.{Finds}

-- the work RAM after a cycle, and after cycles
abbrev pub wrote : Cells → (ℕ → ℕ) → ℕ → ℕ
wrote cells work = if nat_eq (write cells) 1 && nat_lt (at cells) 0x200 then put (at cells) (dout cells) work else work

abbrev pub works : Cells → List Cycle → (ℕ → ℕ) → ℕ → ℕ
works cells [] work = work
works cells (cycle ∷ later) work = works (clock cells (pins_of cycle)) later (wrote cells work)

-- how many cycles came since `nmi` rose
abbrev pub calm_in : Cells → Cycle → ℕ → ℕ
calm_in cells cycle calm = if nat_eq cycle.nmi 1 && nat_eq cells.was 0 then 0 else suc calm

abbrev pub calms : Cells → List Cycle → ℕ → ℕ
calms cells [] calm = calm
calms cells (cycle ∷ later) calm = calms (clock cells (pins_of cycle)) later (calm_in cells cycle calm)

-- how many of some turns are cycles
abbrev pub counted : List Turn → ℕ
counted [] = 0
counted (acts two ∷ later) = suc (counted later)
counted (idles drive ∷ later) = counted later

module _ (rom : ℕ → ℕ) where
  -- what is asked of a cycle, beside its pins' widths and what the board is served
  pub record Asked (cells : Cells) (work : ℕ → ℕ) (calm : ℕ) (nmi m : ℕ) : Type 0 where
    pub finds : write cells ≡ 0 → Finds rom work (at cells) m
    pub apart : (nat_eq nmi 1 && nat_eq cells.was 0) ≡ true → 5200 ≤ suc calm

  abbrev pub AreAsked : (ℕ → ℕ) → ℕ → Machine → List Turn → Type 0
  AreAsked work calm machine [] = Unit {0}
  AreAsked work calm machine (idles drive ∷ later) = AreAsked work calm (next machine (idles drive)) later
  AreAsked work calm machine (acts two ∷ later) = Asked machine.cpu work calm two.second.nmi two.second.m
      × AreAsked (wrote machine.cpu work) (calm_in machine.cpu (cycle_of machine two) calm) (next machine (acts two)) later

-- an NMI may come, or it rose for the last one no more cycles ago than this many instructions take
abbrev pub IsTime : (since calm : ℕ) → Type 0
IsTime since calm = (860 ≤ since) ⊎ (calm ≤ 6 * since + 13)

module _ (R image : List ℕ) (held rom : ℕ → ℕ) (start : ℕ) where
  -- the definition's processor has the work RAM, the board's RAM and the ROM in memory
  pub record Shares (cpu : Cpu) (work : ℕ → ℕ) (clocks : List Bus) : Type 0 where
    pub low : (b : ℕ) → b < 0x200 → cpu.mem b ≡ work b
    pub ram : (a : ℕ) → a < 2048 → cpu.mem (0x4000 + a) ≡ (after held clocks).ram a
    pub loaded : IsLoaded rom cpu.mem
    pub bytes : IsByteWide cpu

  -- cycles from these cells on
  pub record Doing (cpu : Cpu) (older : List Bus) (cells : Cells) (work : ℕ → ℕ) (calm : ℕ) (list : List Turn) : Type 0
    where
      pub is_rom : IsRom R
      pub fits : AllFit R held older cells
      pub shares : Shares cpu work older
      pub work_in : (a : ℕ) → work a < 256
      pub rom_in : (a : ℕ) → rom a < 256
      pub given : AreGiven R (at_rest held older cells) list
      pub asked : AreAsked rom work calm (at_rest held older cells) list

  -- at the TXS, behind which the program starts
  pub record AtTxs (cpu : Cpu) : Type 0 where
    pub low : 0x4800 ≤ cpu.pc
    pub high : cpu.pc + 2 < 0x8000
    pub opcode : rom cpu.pc ≡ 0x9A
    pub x : cpu.x ≡ 0xFF
    pub next : cpu.pc + 1 ≡ start

  -- an instruction of the boot code, or that one
  abbrev pub Boots : ℕ → Cpu → Type 0
  Boots left cpu = (boots left rom cpu.pc start ≡ true) ⊎ AtTxs cpu

  -- what they are of, and how many they will be
  pub data Task (cpu : Cpu) (older : List Bus) (cells : Cells) (calm : ℕ) : ℕ → Type 0 where
    -- a reset reads its vector
    wakes : (spot : Option (Cpu × ℕ)) → MayBoot spot → IsCabinet R image held rom start spot older → Holds cells cpu → cells.state ≡ 0
        → cells.due ≡ 0 → Task cpu older cells calm 2
    -- an instruction up to the TXS
    starts : (spot : Option (Cpu × ℕ)) (left : ℕ) → IsCabinet R image held rom start spot older → Rests cells cpu
        → Boots left cpu → IsBoot rom start spot None cpu → cells.due ≡ 0 → Task cpu older cells calm (cycles (instr_of cpu))
    -- an NMI before the TXS
    breaks : (spot : Option (Cpu × ℕ)) (left : ℕ) → IsCabinet R image held rom start spot older → Rests cells cpu
        → Boots left cpu → IsBoot rom start spot None cpu → cells.due ≡ 1 → calm ≤ 6 → Task cpu older cells calm 5
    -- an instruction of its routine, which leads back to there
    handles : (spot : Option (Cpu × ℕ)) (left : ℕ) → IsCabinet R image held rom start spot older → Rests cells cpu
        → (back : Cpu) (since : ℕ) → Boots left back → Early rom start back since cpu
        → IsBoot rom start spot (Some back.pc) cpu → cells.due ≡ 0 → calm ≤ 6 * since + 13 → Task cpu older cells calm (cycles (instr_of cpu))
    -- one of the game or of the driver
    plays : (since : ℕ) → IsCabinet R image held rom start (Some (cpu, since)) older → Rests cells cpu → cells.due ≡ 0
        → IsTime since calm → Task cpu older cells calm (cycles (instr_of cpu))
    -- an NMI
    hears : (since : ℕ) → IsCabinet R image held rom start (Some (cpu, since)) older → Rests cells cpu → cells.due ≡ 1
        → 860 ≤ since → calm ≤ 6 → Task cpu older cells calm 5

  -- where a cabinet stands
  abbrev pub Spot : List Bus → Type 0
  Spot clocks = (spot : Option (Cpu × ℕ)) × IsCabinet R image held rom start spot clocks

  -- where a run of cells stands between two cycles
  pub data Stand : Cells → (ℕ → ℕ) → ℕ → List Bus → Type 0 where
    stands : (cpu : Cpu) (older : List Bus) (cells : Cells) (work : ℕ → ℕ) (calm n : ℕ) (list : List Turn)
        → Doing cpu older cells work calm list → Task cpu older cells calm n → counted list < n
        → Spot (older_after held older cells list)
        → Stand (cells_after held older cells list) (works cells (cycles_of (at_rest held older cells) list) work)
        (calms cells (cycles_of (at_rest held older cells) list) calm) (older_after held older cells list)
