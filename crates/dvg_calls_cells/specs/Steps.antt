-- An instruction of a call of the driver's code on the cells is a step of the call, and its access
-- is made on the board.
use Rattle.std.specs.Prelude.{◌≡◌, ℕ, true, false, List, [], ◌∷◌, length}
use Rattle.dvg_calls_6502.specs.Processor.{Cpu, Instr, opcodes, decoded, at_return}
use Rattle.dvg_calls_6502.specs.Single.{is_single}
use Rattle.dvg_calls_6502.specs.Amid.{changed}
use Rattle.dvg_calls_6502.specs.Calls
use Rattle.dvg_calls_6502.specs.Calls.{Call, is_over, IsSession}
use Rattle.dvg_log.specs.Log.{Log}
use Rattle.dvg_cells_board.specs.Board.{Bus}
use Rattle.dvg_cells_board.specs.Clocks.{IsBus, IsServed, after}
use Rattle.dvg_calls_board.specs.Machine.{IsMachine, later}
use Rattle.dvg_cells_cpu.specs.Cpu.{Cpu as Cells}
use Rattle.dvg_cells_cpu.specs.Refines.{AreAnswered, Rests, IsSound, cycles}
use Rattle.dvg_calls_cells.specs.Machine.{Machine}
use Rattle.dvg_calls_cells.specs.Cycles.{Turn, acts, idles, begins, between, next, first_bus, second_bus, wait_bus}
use Rattle.dvg_calls_cells.specs.Cycles.{ends, buses, cycles_of, AreAlike}

-- the board's pins are bits, bytes and an address, and its ROM and its jumper are served
abbrev pub AreServed : List ℕ → Machine → List Turn → Type 0
AreServed R machine [] = Unit {0}
AreServed R machine (acts two ∷ later) =
    IsBus (first_bus machine two) × (IsBus (second_bus machine two)
    × (IsServed R machine.board (first_bus machine two)
    × (IsServed R (between machine two).board (second_bus machine two) × AreServed R (next machine (acts two)) later)))
AreServed R machine (idles drive ∷ later) =
    IsBus (wait_bus machine drive)
    × (IsServed R machine.board (wait_bus machine drive) × AreServed R (next machine (idles drive)) later)

-- the processor of a call, over the memory that others left it
abbrev pub now : Call → Cpu
now call = changed (call.others call.steps) (Calls.after call)

abbrev pub instr_of : Cpu → Instr
instr_of cpu = decoded opcodes (cpu.mem cpu.pc)

-- after an instruction: a step of the call is made, the log has grown by what the board did, and the processor's cells
-- rest as the step leaves the processor
pub record Steps (R image : List ℕ) (held : ℕ → ℕ) (call : Call) (calls : List Call) (older : List Bus)
    (machine : Machine) (list : List Turn) : Type 0 where
  pub log : Log
  pub shown : List Bus
  pub on : IsMachine R image held (later 1 call ∷ calls) log shown
  pub alike : AreAlike (buses machine list older) shown
  pub board : (ends machine list).board ≡ after held shown
  pub answers : (ends machine list).answers ≡ 0
  pub rests : Rests (ends machine list).cpu (Calls.after (later 1 call))

-- each instruction of a call, in as many cycles as it has, and in any clocks in which the processor waits: where the processor's cells rest as the call
-- has come, and no NMI is due; their reads are answered with the memory that it has; and the call may go on
abbrev pub CellsStep : Type 0
CellsStep = (R image : List ℕ) (held : ℕ → ℕ) (call : Call) (calls : List Call) (log : Log) (older shown : List Bus)
    (cells : Cells) (list : List Turn)
    → IsMachine R image held (call ∷ calls) log shown → AreAlike older shown → is_over call ≡ false
    → at_return call.from.s (now call) ≡ false
    → IsSession (later 1 call ∷ calls) → Rests cells (now call) → cells.due ≡ 0 → IsSound (now call)
    → let machine = begins cells (after held shown) in
    let instr = instr_of (now call) in
    is_single instr ≡ true → length (cycles_of machine list) ≡ cycles instr
    → AreAnswered (now call) cells (cycles_of machine list)
    → AreServed R machine list → Steps R image held call calls older machine list
