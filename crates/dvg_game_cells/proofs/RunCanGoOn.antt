-- A run can go on.
use Rattle.std.proofs.Common.{ℕ, ◌<◌, Bool, true, false, List, refl, subst, sym, lit<}
use Rattle.std.specs.Prelude.{nat_eq, if◌then◌else◌}
use Rattle.std.proofs.lemmas.List.Elements.{recursion_from_All}
use Rattle.dvg_mem.specs.Memory.{IsRom}
use Rattle.dvg_calls_6502.specs.Processor.{put}
use Rattle.dvg_cells_core.specs.Cells.{either, eq, part}
use Rattle.dvg_cells_board.specs.Board.{Bus, q}
use Rattle.dvg_cells_cpu.specs.Cpu.{at, dout}
use Rattle.dvg_cells_cpu.specs.Widths.{Fits}
use Rattle.dvg_cells_cpu.proofs.Bounds.{mux_in}
use Rattle.dvg_cells_cpu.proofs.LawOfWidths.{fits}
use Rattle.dvg_calls_cells.specs.Machine.{Machine, drives_board, drives_cpu}
use Rattle.dvg_calls_cells.proofs.Fits.{BoardFits, board_fits, q_in}
use Rattle.dvg_calls_board.proofs.Waiting.{below}
use Rattle.dvg_game_cells.specs.Whole.{Finds, IsCellsRun, powers, takes, ticks}
use Rattle.dvg_game_cells.specs.GoesOn.{RunsGoOn, answer, pins_for}
use Rattle.dvg_game_cells.proofs.CpuOfAnyCells.{answer_finds, answer_small, choose}

-- what fits in each run
record AllFit (R : List ℕ) (rom : ℕ → ℕ) (machine : Machine) (work : ℕ → ℕ) : Type 0 where
  is_rom : IsRom R
  cells : Fits machine.cpu
  board : BoardFits machine.board
  work_in : (a : ℕ) → work a < 256
  rom_in : (a : ℕ) → rom a < 256

all_fit : {R image : List ℕ} {held rom : ℕ → ℕ} {machine : Machine} {work : ℕ → ℕ} {calm : ℕ} {clocks : List Bus}
    → IsCellsRun R image held rom machine work calm clocks → AllFit R rom machine work
all_fit (powers work calm is_rom is_image first held_in work_in rom_in) = record {
  is_rom = is_rom;
  cells = fits.0;
  board = record { read = lit< tt; ran = lit< tt; ram = held_in };
  work_in = work_in;
  rom_in = rom_in;
}
all_fit (ticks {machine} {work} {calm} {clocks} pins on asks) =
    let old = all_fit on in
    let q_small = q_in machine.board (drives_board machine pins) old.board in
    let din = mux_in (either (either (eq (part 11 5 (at machine.cpu)) 8) (eq (at machine.cpu) 8194)) (eq (at machine.cpu) 12288))
    (q machine.board (drives_board machine pins)) pins.m 256 q_small asks.m in
    let small = (fits.2 machine.cpu old.cells).2 in record {
      is_rom = old.is_rom;
      cells = fits.1 machine.cpu (drives_cpu machine pins) old.cells asks.nmi din;
      board = board_fits machine.board (drives_board machine pins) old.board small;
      work_in = λ a. by (takes machine pins) a old.work_in small;
      rom_in = old.rom_in;
    }
  where
    by : (t : Bool) (a : ℕ) → ((a : ℕ) → work a < 256) → dout machine.cpu < 256
        → (if t then put (at machine.cpu) (dout machine.cpu) work else work) a < 256
    by true a old small = choose (nat_eq a (at machine.cpu)) (dout machine.cpu) (work a) small (old a)
    by false a old small = old a

pub runs_go_on : RunsGoOn
runs_go_on R image held rom machine work calm clocks on reset ready nmi hold free reset_in ready_in nmi_in free_in apart =
    let all = all_fit on in
    ticks (pins_for R rom machine work reset ready nmi hold free) on (record {
      reset = reset_in;
      ready = ready_in;
      nmi = nmi_in;
      vector_rom = below R (recursion_from_All (λ byte. byte < 256) R all.is_rom.bytes) _;
      m = choose (nat_eq machine.answers 1) (answer rom work free (at machine.cpu)) free
          (answer_small rom work free (at machine.cpu) free_in all.work_in all.rom_in) free_in;
      big = refl;
      from_rom = λ takes from to. refl;
      answers = λ second reading. subst (λ n. Finds rom work (at machine.cpu)
          (if nat_eq n 1 then answer rom work free (at machine.cpu) else free)) (sym second)
          (answer_finds rom work free (at machine.cpu));
      apart = apart;
    })
