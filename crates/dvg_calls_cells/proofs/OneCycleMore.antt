-- A cycle more, a clock more in which the processor waits, and an instruction more.
use Rattle.std.proofs.Common.{◌≡◌, ℕ, zero, suc, ◌<◌, Bool, true, false, not, List, [], ◌∷◌, length, refl, ap, lit<}
use Rattle.std.specs.Prelude.{nat_eq, ◌&&◌, ◌||◌, if◌then◌else◌, slice_index}
use Rattle.std.proofs.lemmas.List.Elements.{recursion_from_All}
use Rattle.dvg_mem.specs.Memory.{IsRom}
use Rattle.dvg_calls_6502.specs.Processor.{Cpu, found, flag_place}
use Rattle.dvg_calls_6502.specs.Calls.{Call}
use Rattle.dvg_cells_core.specs.Cells.{bit, either, mux, part}
use Rattle.dvg_cells_board.specs.Board.{Board, Bus, q}
use Rattle.dvg_cells_board.specs.Clocks.{after}
use Rattle.dvg_cells_cpu.specs.Cpu.{Cpu as Cells, at, write}
use Rattle.dvg_cells_cpu.specs.Refines.{Where, cycles}
use Rattle.dvg_calls_cells.specs.Machine.{Machine}
use Rattle.dvg_calls_cells.specs.Cycles.{Two, acts, idles, begins, between, next, cycle_of, cycles_of, second_bus}
use Rattle.dvg_calls_cells.specs.Steps.{now, instr_of}
use Rattle.dvg_calls_cells.specs.Played.{IsPlayed, IsGiven, AreGiven, AreFound, at_rest, in_board, powers, alone, tests}
use Rattle.dvg_calls_cells.specs.Played.{resets, begins_call, inside}
use Rattle.dvg_calls_cells.specs.GoesOn.{drive_for, cycle_for, cycles_for, answers_itself, BoardAnswers, CellsGoOn}
use Rattle.dvg_calls_cells.specs.GoesOn.{CellsWaitOn, CallGoesOn}
use Rattle.dvg_calls_board.proofs.Waiting.{below}

rom_of : {R image : List ℕ} {held : ℕ → ℕ} {calls : List Call} {older : List Bus} {cells : Cells}
    → IsPlayed R image held calls older cells → IsRom R
rom_of (powers rom is_image first bytes) = rom
rom_of (alone list on given quiet) = rom_of on
rom_of (tests list on given quiet) = rom_of on
rom_of (resets drive on nmi rom m served) = rom_of on
rom_of (begins_call routine from others on rests session checked shares) = rom_of on
rom_of (inside list on session does) = rom_of on

module _ (R : List ℕ) (is_rom : IsRom R) (nmi hold : ℕ) (nmi_in : nmi < 2) where
  rom_byte : (i : ℕ) → slice_index R i < 256
  rom_byte i = below R (recursion_from_All (λ byte. byte < 256) R is_rom.bytes) i

  given_for : (machine : Machine) (m : ℕ) → m < 256 → IsGiven R machine (cycle_for R machine nmi hold m)
  given_for machine m small = record {
    nmi = nmi_in;
    first_rom = rom_byte _;
    second_rom = rom_byte _;
    m = small;
    first = record { big = refl; rom = λ takes from to. refl };
    second = record { big = refl; rom = λ takes from to. refl };
  }

  module _ (cpu : Cpu) (bytes : (b : ℕ) → cpu.mem b < 256) (flag : cpu.flags 0 < 256) where
    found_in : (a : ℕ) → found a cpu < 256
    found_in a = by (nat_eq a flag_place)
      where
        by : (t : Bool) → (if t then cpu.flags 0 else cpu.mem a) < 256
        by true = flag
        by false = bytes a

    given_all : (n : ℕ) (machine : Machine) → AreGiven R machine (cycles_for R machine nmi hold n cpu)
    given_all zero machine = tt
    given_all (suc n) machine =
        let m = found (at machine.cpu) cpu in (
          given_for machine m (found_in (at machine.cpu)),
          given_all n (next machine (acts (cycle_for R machine nmi hold m))),
        )

    count : (n : ℕ) (machine : Machine) → length (cycles_of machine (cycles_for R machine nmi hold n cpu)) ≡ n
    count zero machine = refl
    count (suc n) machine =
        ap suc (count n (next machine (acts (cycle_for R machine nmi hold (found (at machine.cpu) cpu)))))

    -- what the board doesn't answer, memory does
    memory_answers : (r f s : Bool) (x m : ℕ) → (r || (f || s)) ≡ false → mux (either (either (bit r) (bit f)) (bit s)) x m ≡ m
    memory_answers true f s x m e = absurd (cc)
    memory_answers false true s x m e = absurd (cc)
    memory_answers false false true x m e = absurd (cc)
    memory_answers false false false x m e = refl

    module _ (board : Board) (cells : Cells) (fresh : Bool) where
      abbrev here : ℕ
      here = found (at cells) cpu

      abbrev two : Two
      two = cycle_for R (begins cells board) nmi hold here

      abbrev Answer : Type 0
      Answer = (cycle_of (begins cells board) two).din ≡ here

      answered_here : Where (nat_eq (write cells) 0 && (answers_itself (at cells) && not (fresh && in_board (at cells)))) Answer
          → Where (nat_eq (write cells) 0) (Where (not (fresh && in_board (at cells))) Answer)
      answered_here = by (nat_eq (write cells) 0) (answers_itself (at cells)) (not (fresh && in_board (at cells))) refl
        where
          by : (w t f : Bool) → answers_itself (at cells) ≡ t → Where (w && (t && f)) Answer → Where w (Where f Answer)
          by false t f e answer = tt
          by true true f e answer = answer
          by true false false e answer = tt
          by true false true e answer =
              memory_answers (nat_eq (part 11 5 (at cells)) 8) (nat_eq (at cells) 0x2002) (nat_eq (at cells) 0x3000)
              (q (between (begins cells board) two).board (second_bus (begins cells board) two)) here e

    answered_all : (n : ℕ) (board : Board) (cells : Cells) (fresh : Bool)
        → BoardAnswers cpu fresh (begins cells board) (cycles_for R (begins cells board) nmi hold n cpu)
        → AreFound cpu fresh (begins cells board) (cycles_for R (begins cells board) nmi hold n cpu)
    answered_all zero board cells fresh answers = tt
    answered_all (suc n) board cells fresh answers =
        let later = next (begins cells board) (acts (two board cells fresh)) in (
          answered_here board cells fresh answers.0,
          answered_all n later.board later.cpu (fresh && nat_eq (write cells) 0) answers.1,
        )

pub cells_go_on : CellsGoOn
cells_go_on R image held calls older cells nmi hold m on nmi_in small quiet =
    let machine = at_rest held older cells in
    alone (acts (cycle_for R machine nmi hold m) ∷ []) on (given_for R (rom_of on) nmi hold nmi_in machine m small, tt) quiet

pub cells_wait_on : CellsWaitOn
cells_wait_on R image held calls older cells nmi hold m on =
    let drive = drive_for R (at_rest held older cells).board nmi hold m in
    alone (idles drive ∷ []) on (record { rom = rom_byte R (rom_of on) 0 0 (lit< tt) _; served = record { big = refl; rom = λ takes from to. refl } }, tt) tt

pub call_goes_on : CallGoesOn
call_goes_on R image held call calls older cells nmi hold on nmi_in unfinished goes rests free placed single answers =
    let machine = at_rest held older cells in
    let it = now call in
    let n = cycles (instr_of it) in record {
      unfinished = unfinished;
      goes = goes;
      rests = rests;
      free = free;
      placed = placed;
      single = single;
      count = count R (rom_of on) nmi hold nmi_in it placed.bytes placed.flags n machine;
      answered = answered_all R (rom_of on) nmi hold nmi_in it placed.bytes placed.flags n (after held older) cells true answers;
      given = given_all R (rom_of on) nmi hold nmi_in it placed.bytes placed.flags n machine;
    }
