-- What can come next: a cycle of the program, a clock in which it waits, and an instruction of a call.
use Rattle.std.specs.Prelude.{◌≡◌, ℕ, suc, zero, ◌+◌, ◌-◌, ◌*◌, ◌<◌, ◌&&◌, ◌||◌, ◌==◌, Bool, true, false, not, nat_eq, List, [], ◌∷◌}
use Rattle.std.specs.Prelude.{length, slice_index}
use Rattle.dvg_mem.specs.Memory.{first_word}
use Rattle.dvg_calls_6502.specs.Processor.{Cpu, at_return, found}
use Rattle.dvg_calls_6502.specs.Calls.{Call, is_over}
use Rattle.dvg_calls_6502.specs.Single.{is_single}
use Rattle.dvg_cells_core.specs.Cells.{bit, part}
use Rattle.dvg_cells_board.specs.Board.{Board, Bus}
use Rattle.dvg_cells_board.specs.Board as pin
use Rattle.dvg_cells_cpu.specs.Cpu.{Cpu as Cells, at, write}
use Rattle.dvg_cells_cpu.specs.Refines.{Where, Rests, cycles, made}
use Rattle.dvg_calls_cells.specs.Machine.{Machine, clock}
use Rattle.dvg_calls_cells.specs.Cycles.{Drive, Two, Turn, acts, idles, driven, wait_bus, next, cycle_of, cycles_of}
use Rattle.dvg_calls_cells.specs.Cycles.{AreQuiet}
use Rattle.dvg_calls_cells.specs.Steps.{now, instr_of}
use Rattle.dvg_calls_cells.specs.Played.{IsPlayed, IsPlaced, Does, at_rest, in_board, older_after, cells_after}

-- the pins from outside, where the board's ROM and its jumper are served
abbrev pub drive_for : List ℕ → Board → (nmi hold m : ℕ) → Drive
drive_for R board nmi hold m = record {
  nmi = nmi;
  hold = hold;
  big = bit (not (length R == 2048));
  rom = slice_index R (2 * (pin.at board - first_word R) + pin.high board);
  m = m;
  undefined = 0;
}

-- in the two clocks of a cycle
abbrev pub cycle_for : List ℕ → Machine → (nmi hold m : ℕ) → Two
cycle_for R machine nmi hold m =
    let first = drive_for R machine.board nmi hold m in
    record { first = first; second = drive_for R (clock machine (driven first)).board nmi hold m }

-- each run can have a cycle more, whatever `nmi`, `hold` and `m` are in it: it is one of the program, if it writes neither the
-- vector RAM nor the strobe. And it can have a clock more in which the processor waits
abbrev pub CellsGoOn : Type 0
CellsGoOn = (R image : List ℕ) (held : ℕ → ℕ) (calls : List Call) (older : List Bus) (cells : Cells) (nmi hold m : ℕ)
    → IsPlayed R image held calls older cells → nmi < 2 → m < 256
    → let list = acts (cycle_for R (at_rest held older cells) nmi hold m) ∷ [] in
    AreQuiet (made cells (cycles_of (at_rest held older cells) list) [])
    → IsPlayed R image held calls (older_after held older cells list) (cells_after held older cells list)

abbrev pub CellsWaitOn : Type 0
CellsWaitOn = (R image : List ℕ) (held : ℕ → ℕ) (calls : List Call) (older : List Bus) (cells : Cells) (nmi hold m : ℕ)
    → IsPlayed R image held calls older cells → let machine = at_rest held older cells in
    IsPlayed R image held calls (wait_bus machine (drive_for R machine.board nmi hold m) ∷ older) cells

-- cycles in which memory answers as this processor has it
abbrev pub cycles_for : List ℕ → Machine → (nmi hold n : ℕ) → Cpu → List Turn
cycles_for R machine nmi hold zero cpu = []
cycles_for R machine nmi hold (suc n) cpu =
    let turn = acts (cycle_for R machine nmi hold (found (at machine.cpu) cpu)) in
    turn ∷ cycles_for R (next machine turn) nmi hold n cpu

-- the board answers a read at this place, and not memory
abbrev pub answers_itself : ℕ → Bool
answers_itself a = nat_eq (part 11 5 a) 8 || (nat_eq a 0x2002 || nat_eq a 0x3000)

-- where the board answers a read, it answers what this processor has there. Of reads of its RAM
-- nothing is asked until the instruction has written something
abbrev pub BoardAnswers : Cpu → (fresh : Bool) → Machine → List Turn → Type 0
BoardAnswers cpu fresh machine [] = Unit {0}
BoardAnswers cpu fresh machine (idles drive ∷ later) = BoardAnswers cpu fresh (next machine (idles drive)) later
BoardAnswers cpu fresh machine (acts two ∷ later) =
    Where (nat_eq (write machine.cpu) 0 && (answers_itself (at machine.cpu) && not (fresh && in_board (at machine.cpu))))
    ((cycle_of machine two).din ≡ found (at machine.cpu) cpu)
    × BoardAnswers cpu (fresh && nat_eq (write machine.cpu) 0) (next machine (acts two)) later

-- where the cells rest as the newest call has come, and no NMI is due, its next instruction can be done, whatever `nmi` and
-- `hold` are meanwhile, if the board's answers are what the call has
abbrev pub CallGoesOn : Type 0
CallGoesOn = (R image : List ℕ) (held : ℕ → ℕ) (call : Call) (calls : List Call) (older : List Bus) (cells : Cells)
    (nmi hold : ℕ) → IsPlayed R image held (call ∷ calls) older cells → nmi < 2 → is_over call ≡ false
    → at_return call.from.s (now call) ≡ false → Rests cells (now call) → cells.due ≡ 0 → IsPlaced (now call)
    → is_single (instr_of (now call)) ≡ true
    → let list = cycles_for R (at_rest held older cells) nmi hold (cycles (instr_of (now call))) (now call) in
    BoardAnswers (now call) true (at_rest held older cells) list → Does R held call older cells list
