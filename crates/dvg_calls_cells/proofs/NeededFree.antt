-- An NMI is due where an instruction of dvg_run begins: the call stores a byte of the frame, and the board doesn't.
use Rattle.std.proofs.Common.{◌≡◌, ℕ, ◌+◌, ◌<◌, Bool, true, false, not, List, [], ◌∷◌, length, refl, sym, ap, ◌∙◌, subst, arith, lit<}
use Rattle.std.specs.Prelude.{◌&&◌}
use Rattle.dvg_calls_6502.specs.Processor.{Cpu, turn, at_return}
use Rattle.dvg_calls_6502.specs.Board.{IsLoaded}
use Rattle.dvg_calls_6502.specs.Calls as calls
use Rattle.dvg_calls_6502.specs.Calls.{Routine, Call, IsSession}
use Rattle.dvg_calls_6502.specs.Single.{is_single}
use Rattle.dvg_calls_6502.proofs.Memory.{both_true}
use Rattle.dvg_calls_6502.proofs.Interrupted.{still}
use Rattle.dvg_calls_6502.proofs.UninterruptedCalls.{quiet, written, fit, not_true, loaded_after}
use Rattle.dvg_cells_board.specs.Board.{Board}
use Rattle.dvg_cells_board.specs.Clocks.{after}
use Rattle.dvg_cells_board.specs.Example.{zeros}
use Rattle.dvg_cells_board.proofs.Example.{held, served}
use Rattle.dvg_calls_board.specs.Machine.{OfEachMachine, HaveRam, later}
use Rattle.dvg_cells_cpu.specs.Cpu.{Cpu as Cells}
use Rattle.dvg_cells_cpu.specs.Refines.{Rests, cycles}
use Rattle.dvg_calls_cells.specs.Machine.{Machine}
use Rattle.dvg_calls_cells.specs.Cycles.{Two, Turn, acts, begins, between, ends, buses, cycles_of}
use Rattle.dvg_calls_cells.specs.Steps.{instr_of}
use Rattle.dvg_calls_cells.specs.Played.{IsPlayed, IsGiven, AreGiven, AreFound, IsPlaced, Does, CallsKeepHeadline, inside, older_after}
use Rattle.dvg_calls_cells.specs.Needed.{DoesBy, all, NeedsFree}
use Rattle.dvg_calls_cells.proofs.CallOnCells.{ends_are, ends_cells}
use Rattle.dvg_calls_cells.proofs.Needed.{has_ram}
use Rattle.dvg_calls_cells.proofs.CellsFollowCpu.{drive, two_of, twos_for, fits_for, all_given, all_found, rests_by, rests_of, placed_by}
use Rattle.dvg_calls_cells.proofs.CellsFollowCpu.{placed_of, Amid, Went, over, now_is, is_new, up_to}
use Rattle.dvg_calls_cells.proofs.FirstCellsPicture.{begun, run_from, run_session}

-- the cells can do the call's next instruction, if no NMI is due
abbrev can_begin : ℕ → Cpu → Cells → Bool
can_begin s cpu cells = not (at_return s cpu) && (rests_by cells cpu && (placed_by cpu && is_single (instr_of cpu)))

module _ (r : Routine) (from : Cpu) (olds : List Call) (session : (n : ℕ) → IsSession (quiet r n from ∷ olds)) (none : from.log ≡ [])
    (load : IsLoaded from.mem) (at : Amid r from olds) (list : List Turn) where
  does_but : over r from at.n at.cpu ≡ false → fit (written at.cpu.log) ≡ true → can_begin from.s at.cpu at.cells ≡ true
      → length (cycles_of (begins at.cells at.board) list) ≡ cycles (instr_of at.cpu) → AreFound at.cpu true (begins at.cells at.board) list
      → AreGiven zeros (begins at.cells at.board) list
      → DoesBy (record all { free = false }) zeros held (quiet r at.n from) at.older at.cells list
  does_but more fits can count answered given =
      let is = now_is r from at.n at.cpu at.is in
      let goes = both_true (not (at_return from.s at.cpu)) _ can in
      let rests = both_true (rests_by at.cells at.cpu) _ goes.1 in
      let placed = both_true (placed_by at.cpu) _ rests.1 in
      record {
        unfinished = ap (over r from at.n) (still from.s at.n from ∙ at.is) ∙ more;
        goes = subst (λ c. at_return from.s c ≡ false) (sym is) (not_true (at_return from.s at.cpu) goes.0);
        rests = subst (λ c. Rests at.cells c) (sym is) (rests_of at.cells at.cpu rests.0);
        free = tt;
        placed = subst IsPlaced (sym is) (placed_of at.cpu placed.0 (loaded_after from.s at.n from at.cpu at.is none fits load).bytes);
        single = subst (λ c. is_single (instr_of c) ≡ true) (sym is) placed.1;
        count = subst (λ b. length (cycles_of (begins at.cells b) list) ≡ cycles (instr_of at.cpu)) (sym at.is_board) count
            ∙ ap (λ c. cycles (instr_of c)) (sym is);
        answered = subst (λ c. AreFound c true (begins at.cells (after held at.older)) list) (sym is)
            (subst (λ b. AreFound at.cpu true (begins at.cells b) list) (sym at.is_board) answered);
        given = subst (λ b. AreGiven zeros (begins at.cells b) list) (sym at.is_board) given;
      }

  does_so : DoesBy (record all { free = false }) zeros held (quiet r at.n from) at.older at.cells list → at.cells.due ≡ 0
      → Does zeros held (quiet r at.n from) at.older at.cells list
  does_so but free = record {
    unfinished = but.unfinished;
    goes = but.goes;
    rests = but.rests;
    free = free;
    placed = but.placed;
    single = but.single;
    count = but.count;
    answered = but.answered;
    given = but.given;
  }

  went_so : Does zeros held (quiet r at.n from) at.older at.cells list → Went (quiet r at.n from) olds at.older at.cells at.board list
  went_so does = subst (λ b. Went (quiet r at.n from) olds at.older at.cells b list) at.is_board (record {
    on = subst (λ k. IsPlayed zeros zeros held (later 1 (quiet r at.n from) ∷ olds) (buses (begins at.cells (after held at.older)) list at.older) k)
        (sym (ends_cells list (after held at.older) at.cells)) (inside list at.on (session (at.n + 1)) does);
    is_board = sym (ap (λ (m : Machine). m.board) (ends_are held list at.older at.cells));
  })

  -- and the call an instruction further
  abbrev then_at : Does zeros held (quiet r at.n from) at.older at.cells list → Amid r from olds
  then_at does = record {
    n = at.n + 1;
    cpu = turn from.s at.cpu;
    is = is_new r from olds session none load at.n at.cpu at.is;
    older = buses (begins at.cells at.board) list at.older;
    cells = (ends (begins at.cells at.board) list).cpu;
    board = (ends (begins at.cells at.board) list).board;
    on = (went_so does).on;
    is_board = (went_so does).is_board;
  }

  -- where there is a log, the board has what the call has then
  ram_so : OfEachMachine (λ R image held list log clocks. HaveRam list (after held clocks))
      → CallsKeepHeadline zeros zeros held (quiet r (at.n + 1) from ∷ olds) (older_after held at.older at.cells list) → (a : ℕ) → a < 2048
      → (turn from.s at.cpu).mem (0x4000 + a) ≡ (ends (begins at.cells at.board) list).board.ram a
  ram_so shared keeps a few =
      sym (ap (λ (c : Cpu). c.mem (0x4000 + a)) (still from.s (at.n + 1) from ∙ is_new r from olds session none load at.n at.cpu at.is))
      ∙ has_ram shared zeros zeros held (quiet r (at.n + 1) from) olds (older_after held at.older at.cells list) keeps a few
      ∙ ap (λ (b : Board). b.ram a) (sym (ap (λ (m : Machine). m.board) (ends_are held list at.older at.cells))
      ∙ ap (λ b. (ends (begins at.cells b) list).board) at.is_board)

-- before the BNE that leads to the store; in its second cycle `nmi` is high
abbrev before : Amid calls.Run run_from begun.list
before = up_to calls.Run 0 begun refl tt tt tt (λ P is. is) 16

abbrev hears : List Turn
hears = acts (two_of 0xD0) ∷ acts (record { first = drive 0; second = record (drive 0xE1) { nmi = 1 } }) ∷ []

given_by : (machine : Machine) (two : Two) → two.second.nmi < 2 → two.first.rom < 256 → two.second.rom < 256 → two.second.m < 256
    → two.first.big ≡ 0 → two.second.big ≡ 0 → machine.board.core.at < 0x400 → (between machine two).board.core.at < 0x400
    → IsGiven zeros machine two
given_by machine two nmi first_rom second_rom m first_big second_big first second = record {
  nmi = nmi;
  first_rom = first_rom;
  second_rom = second_rom;
  m = m;
  first = served _ _ first_big first;
  second = served _ _ second_big second;
}

does_hear : Does zeros held (quiet calls.Run before.n run_from) before.older before.cells hears
does_hear = does_so calls.Run run_from begun.list run_session refl begun.loaded before hears
    (does_but calls.Run run_from begun.list run_session refl begun.loaded before hears refl refl refl refl (refl, (refl, tt)) (
      given_by _ _ (lit< tt) (lit< tt) (lit< tt) (lit< tt) refl refl (lit< tt) (lit< tt),
      (given_by _ _ (lit< tt) (lit< tt) (lit< tt) (lit< tt) refl refl (lit< tt) (lit< tt), tt),
    ))
    refl

abbrev heard : Amid calls.Run run_from begun.list
heard = then_at calls.Run run_from begun.list run_session refl begun.loaded before hears does_hear

-- the store is the call's next instruction, and has as many cycles as the NMI, which comes in its place
abbrev comes : List Turn
comes = twos_for 5 (begins heard.cells heard.board) heard.cpu

fits_so : fits_for 5 (begins heard.cells heard.board) heard.cpu true ≡ true
fits_so = refl

pub needs_free : OfEachMachine (λ R image held list log clocks. HaveRam list (after held clocks)) → NeedsFree
needs_free shared = (
  quiet calls.Run heard.n run_from,
  begun.list,
  heard.older,
  heard.cells,
  comes,
  heard.on,
  run_session (heard.n + 1),
  does_but calls.Run run_from begun.list run_session refl begun.loaded heard comes refl refl refl refl
      (all_found 5 (begins heard.cells heard.board) heard.cpu true fits_so) (all_given 5 (begins heard.cells heard.board) heard.cpu true fits_so),
  λ keeps.
      let differs : 0xA2 ≡ 0 = ram_so calls.Run run_from begun.list run_session refl begun.loaded heard comes shared keeps 0x403 (lit< tt) in
      absurd (omega (arith, differs)),
)
