-- A machine of cells since power-up: a processor and a board, both cells, whose processor calls the driver's code.
use Rattle.std.specs.Prelude.{◌≡◌, ℕ, ◌+◌, ◌/◌, ◌<◌, ◌&&◌, not, nat_eq, Bool, true, false, List, [], ◌∷◌, length}
use Rattle.std.specs.Prelude.{slice_index}
use Rattle.dvg_mem.specs.Memory.{IsImage, IsRom}
use Rattle.dvg_log.specs.Log.{Log, Throughout}
use Rattle.dvg_log.specs.Legal.{IsLegal}
use Rattle.dvg_log.specs.Headline.{KeepsHeadline}
use Rattle.dvg_calls_6502.specs.Processor.{Cpu, at_return, found}
use Rattle.dvg_calls_6502.specs.Calls.{Routine, Call, is_over, IsSession}
use Rattle.dvg_calls_6502.specs.Single.{is_single}
use Rattle.dvg_cells_board.specs.Board.{Board, Bus, clock as board_clock}
use Rattle.dvg_cells_board.specs.Clocks.{IsServed, after}
use Rattle.dvg_cells_board.specs.Logs.{HoldsRam}
use Rattle.dvg_calls_board.specs.Machine.{IsMachine, IsChecked, SharesRam, begun, later}
use Rattle.dvg_cells_cpu.specs.Cpu.{Cpu as Cells, zeros, at, write, clock as cpu_clock}
use Rattle.dvg_cells_cpu.specs.Refines as refined
use Rattle.dvg_cells_cpu.specs.Refines.{Where, Rests, cycles, made}
use Rattle.dvg_calls_cells.specs.Machine.{Machine, drives_board, drives_cpu, clock}
use Rattle.dvg_calls_cells.specs.Cycles.{Drive, pins_by, driven, resetting, waiting, Two, Turn, acts, idles, begins, between, next}
use Rattle.dvg_calls_cells.specs.Cycles.{first_bus, second_bus, wait_bus, buses, cycle_of}
use Rattle.dvg_calls_cells.specs.Cycles.{cycles_of, AreQuiet, SendNothing, StandFor}
use Rattle.dvg_calls_cells.specs.Steps.{now, instr_of}

-- a cycle that is driven by bits and bytes, in which the board's ROM and its jumper are served
pub record IsGiven (R : List ℕ) (machine : Machine) (two : Two) : Type 0 where
  pub nmi : two.second.nmi < 2
  pub first_rom : two.first.rom < 256
  pub second_rom : two.second.rom < 256
  pub m : two.second.m < 256
  pub first : IsServed R machine.board (first_bus machine two)
  pub second : IsServed R (between machine two).board (second_bus machine two)

-- and such a clock in which the processor waits
pub record IsWaiting (R : List ℕ) (machine : Machine) (drive : Drive) : Type 0 where
  pub rom : drive.rom < 256
  pub served : IsServed R machine.board (wait_bus machine drive)

abbrev pub AreGiven : List ℕ → Machine → List Turn → Type 0
AreGiven R machine [] = Unit {0}
AreGiven R machine (acts two ∷ later) = IsGiven R machine two × AreGiven R (next machine (acts two)) later
AreGiven R machine (idles drive ∷ later) = IsWaiting R machine drive × AreGiven R (next machine (idles drive)) later

-- the machine between two cycles
abbrev pub at_rest : (ℕ → ℕ) → List Bus → Cells → Machine
at_rest held older cells = begins cells (after held older)

-- the board's clocks, and the processor's cells, after some turns
abbrev pub older_after : (ℕ → ℕ) → List Bus → Cells → List Turn → List Bus
older_after held older cells list = buses (at_rest held older cells) list older

abbrev pub cells_after : (ℕ → ℕ) → List Bus → Cells → List Turn → Cells
cells_after held older cells list = refined.ends cells (cycles_of (at_rest held older cells) list)

-- a clock with a reset
abbrev pub reset_bus : (ℕ → ℕ) → List Bus → Cells → Drive → Bus
reset_bus held older cells drive = drives_board (at_rest held older cells) (resetting drive)

-- bytes are bytes, and the instruction's own aren't at the top of memory; one that stands at the flag's place is what the
-- flag's next read gives
pub record IsPlaced (cpu : Cpu) : Type 0 where
  pub pc : cpu.pc < 65533
  pub bytes : (b : ℕ) → cpu.mem b < 256
  pub flags : cpu.flags 0 < 256
  pub here : found cpu.pc cpu ≡ cpu.mem cpu.pc
  pub first : found (cpu.pc + 1) cpu ≡ cpu.mem (cpu.pc + 1)
  pub second : found (cpu.pc + 2) cpu ≡ cpu.mem (cpu.pc + 2)

-- an address of the board's vector RAM, 4000 to 47FF
abbrev pub in_board : ℕ → Bool
in_board a = nat_eq (a / 0x800) 8

-- what the reads of an instruction find: outside the board it is what this processor has in memory,
-- and at the flag's place what its next read of the flag gives. Of reads of the board's RAM nothing
-- is asked until the instruction has written something
abbrev pub AreFound : Cpu → (fresh : Bool) → Machine → List Turn → Type 0
AreFound cpu fresh machine [] = Unit {0}
AreFound cpu fresh machine (acts two ∷ later) =
    Where (nat_eq (write machine.cpu) 0) (Where (not (fresh && in_board (at machine.cpu)))
    ((cycle_of machine two).din ≡ found (at machine.cpu) cpu))
    × AreFound cpu (fresh && nat_eq (write machine.cpu) 0) (next machine (acts two)) later
AreFound cpu fresh machine (idles drive ∷ later) = AreFound cpu fresh (next machine (idles drive)) later

-- the cells do the next instruction of this call: they rest where the call has come to, and their
-- reads are answered with the call's memory
pub record Does (R : List ℕ) (held : ℕ → ℕ) (call : Call) (older : List Bus) (cells : Cells)
    (list : List Turn) : Type 0 where
  pub unfinished : is_over call ≡ false
  pub goes : at_return call.from.s (now call) ≡ false
  pub rests : Rests cells (now call)
  pub free : cells.due ≡ 0
  pub placed : IsPlaced (now call)
  pub single : is_single (instr_of (now call)) ≡ true
  pub count : length (cycles_of (at_rest held older cells) list) ≡ cycles (instr_of (now call))
  pub answered : AreFound (now call) true (at_rest held older cells) list
  pub given : AreGiven R (at_rest held older cells) list

-- the calls that the processor has made, the newest one first, the board's clocks since power-up, and the processor's
-- cells after them, between two cycles
pub data IsPlayed (R image : List ℕ) (held : ℕ → ℕ) : List Call → List Bus → Cells → Type 0 where
  -- power-up, with any RAM of the board
  powers : IsRom R → IsImage image → ((a : ℕ) → a < 2048 → held a ≡ slice_index image a) → ((a : ℕ) → held a < 256)
      → IsPlayed R image held [] [] zeros
  -- cycles that write neither the board's RAM nor the strobe: of the program, of an NMI, of an opcode that isn't known
  alone : {calls : List Call} {older : List Bus} {cells : Cells} (list : List Turn)
      → IsPlayed R image held calls older cells
      → AreGiven R (at_rest held older cells) list
      → AreQuiet (made cells (cycles_of (at_rest held older cells) list) [])
      → IsPlayed R image held calls (older_after held older cells list) (cells_after held older cells list)
  -- before the first call since power-up or a reset, cycles that send no strobe: of a program that tests the RAM
  tests : {older : List Bus} {cells : Cells} (list : List Turn)
      → IsPlayed R image held [] older cells
      → AreGiven R (at_rest held older cells) list
      → SendNothing (made cells (cycles_of (at_rest held older cells) list) [])
      → IsPlayed R image held [] (older_after held older cells list) (cells_after held older cells list)
  -- a reset of the whole
  resets : {calls : List Call} {older : List Bus} {cells : Cells} (drive : Drive)
      → IsPlayed R image held calls older cells
      → drive.nmi < 2 → drive.rom < 256 → drive.m < 256
      → IsServed R (after held older) (reset_bus held older cells drive)
      → IsPlayed R image held [] (reset_bus held older cells drive ∷ older)
      (clock (at_rest held older cells) (resetting drive)).cpu
  -- a call begins: the processor's cells are about to fetch at the entry of a routine
  begins_call : {calls : List Call} {older : List Bus} {cells : Cells} (routine : Routine) (from : Cpu)
      (others : ℕ → ℕ → ℕ)
      → IsPlayed R image held calls older cells → Rests cells from → IsSession (begun routine from others ∷ calls)
      → IsChecked R routine → SharesRam routine from.mem (after held older)
      → IsPlayed R image held (begun routine from others ∷ calls) older cells
  -- an instruction of the newest call
  inside : {call : Call} {calls : List Call} {older : List Bus} {cells : Cells} (list : List Turn)
      → IsPlayed R image held (call ∷ calls) older cells → IsSession (later 1 call ∷ calls)
      → Does R held call older cells list
      → IsPlayed R image held (later 1 call ∷ calls) (older_after held older cells list)
      (cells_after held older cells list)

-- what is said of its log: it is that of a machine whose processor is the definition's, it is legal, and it keeps the
-- headline. It is of these clocks, but that what the program looks at by itself isn't in it
pub record CallsKeepHeadline (R image : List ℕ) (held : ℕ → ℕ) (calls : List Call) (older : List Bus) : Type 0 where
  pub log : Log
  pub shown : List Bus
  pub stand : StandFor held older shown
  pub machine : IsMachine R image held calls log shown
  pub legal : IsLegal R image log
  pub headline : Throughout (KeepsHeadline R image) log
  pub memory : HoldsRam image held log older

abbrev pub CellsKeep : Type 0
CellsKeep = (R image : List ℕ) (held : ℕ → ℕ) (calls : List Call) (older : List Bus) (cells : Cells)
    → IsPlayed R image held calls older cells → CallsKeepHeadline R image held calls older

-- in the second clock of a cycle a reset does nothing, and nor does `ready`
abbrev pub ResetWaits : Type 0
ResetWaits = (cells : Cells) (board : Board) (drive : Drive) (reset ready : ℕ) → reset < 2 → ready < 2
    → let machine : Machine = record { answers = 1; cpu = cells; board = board } in
    (clock machine (pins_by reset ready drive) ≡ clock machine (driven drive))
    × (drives_board machine (pins_by reset ready drive) ≡ drives_board machine (driven drive))

-- in the first clock it resets both: so the processor's cells are as `cpu_resets` says. It is the same where `ready` is low
abbrev pub ResetTakes : Type 0
ResetTakes = (cells : Cells) (board : Board) (drive : Drive)
    → let machine : Machine = begins cells board in let pins = drives_cpu machine (resetting drive) in
    (pins.reset ≡ 1) × ((clock machine (resetting drive)).cpu ≡ cpu_clock cells pins)
    × ((drives_board machine (resetting drive)).reset ≡ 1)
    × ((clock machine (resetting drive)).answers ≡ 0)
    × (clock machine (pins_by 1 0 drive) ≡ clock machine (resetting drive))
    × (drives_board machine (pins_by 1 0 drive) ≡ drives_board machine (resetting drive))

-- without a reset nothing is reset, and a cycle ends where the next one begins
abbrev pub CycleEnds : Type 0
CycleEnds = (cells : Cells) (board : Board) (two : Two) → let machine : Machine = begins cells board in
    ((first_bus machine two).reset ≡ 0) × ((second_bus machine two).reset ≡ 0)
    × ((between machine two).answers ≡ 1) × ((next machine (acts two)).answers ≡ 0)

-- where a cycle would begin and `ready` is low, the processor's cells stay as they are, and the board goes on
abbrev pub CpuWaits : Type 0
CpuWaits = (cells : Cells) (board : Board) (drive : Drive) → let machine : Machine = begins cells board in
    (clock machine (waiting drive) ≡ begins cells (board_clock board (wait_bus machine drive)))
    × ((wait_bus machine drive).reset ≡ 0) × ((wait_bus machine drive).access ≡ 0)
