-- What is proved of machines holds of those of cells.
use Rattle.std.proofs.Common.{◌≡◌, ℕ, zero, suc, ◌<◌, true, List, [], ◌∷◌, refl, sym, ap, ◌∙◌, subst, lit<, arith}
use Rattle.dvg_calls_6502.specs.Processor.{Cpu}
use Rattle.dvg_calls_6502.specs.Calls.{Call}
use Rattle.dvg_log.specs.Log.{Log, Throughout}
use Rattle.dvg_log.specs.Legal.{IsLegal}
use Rattle.dvg_log.specs.Headline.{KeepsHeadline}
use Rattle.dvg_cells_board.specs.Board.{Board, Bus}
use Rattle.dvg_cells_board.specs.Board as pin
use Rattle.dvg_cells_board.specs.Clocks.{IsServed, after}
use Rattle.dvg_cells_board.specs.Logs.{answered, HoldsRam}
use Rattle.dvg_calls_board.specs.Machine as system
use Rattle.dvg_calls_board.specs.Machine.{IsMachine, OfEachMachine, HaveRam, SharesRam}
use Rattle.dvg_cells_cpu.specs.Cpu.{Cpu as Cells}
use Rattle.dvg_cells_cpu.specs.Refines.{Rests, IsSound}
use Rattle.dvg_cells_cpu.specs.Widths.{Fits}
use Rattle.dvg_cells_cpu.proofs.LawOfWidths.{fits}
use Rattle.dvg_calls_cells.specs.Machine.{Machine}
use Rattle.dvg_calls_cells.specs.Cycles.{AreAlike, none, same}
use Rattle.dvg_calls_cells.specs.Steps.{now}
use Rattle.dvg_calls_cells.specs.Played.{IsPlayed, IsPlaced, powers, alone, tests, resets, begins_call, inside, reset_bus}
use Rattle.dvg_calls_cells.specs.Played.{CellsKeep, CpuWaits, ResetTakes, CycleEnds, ResetWaits}
use Rattle.dvg_calls_cells.proofs.Fits.{AllFit, served_of, reset_is, reset_fits}
use Rattle.dvg_calls_cells.proofs.RamReads.{answered_of, now_has}
use Rattle.dvg_calls_cells.proofs.BoardLeftAlone.{quietly, testing}
use Rattle.dvg_calls_cells.proofs.CallOnCells.{ends_are, step_on}

-- a machine of the definition's processor, with these clocks but for what the program looks at, and cells that fit
record Is (R image : List ℕ) (held : ℕ → ℕ) (list : List Call) (older : List Bus) (cells : Cells) : Type 0 where
  log : Log
  shown : List Bus
  on : IsMachine R image held list log shown
  alike : AreAlike older shown
  board : after held shown ≡ after held older
  fits : AllFit R held older cells

sound_of : (cells : Cells) (cpu : Cpu) → Fits cells → Rests cells cpu → IsPlaced cpu → IsSound cpu
sound_of cells cpu f rests placed = record {
  a = subst (λ k. k < 256) rests.holds.a f.a;
  x = subst (λ k. k < 256) rests.holds.x f.x;
  y = subst (λ k. k < 256) rests.holds.y f.y;
  s = subst (λ k. k < 256) rests.holds.s f.s;
  pc = placed.pc;
  bytes = placed.bytes;
  flags = placed.flags;
  here = placed.here;
  first = placed.first;
  second = placed.second;
}

machine_of : OfEachMachine (λ R image held calls log clocks. HaveRam calls (after held clocks))
    → {R image : List ℕ} {held : ℕ → ℕ} {list : List Call} {older : List Bus} {cells : Cells} → IsPlayed R image held list older cells → Is R image held list older cells
machine_of shared {R} {image} {held} (powers rom is_image first bytes) = record {
  log = [];
  shown = [];
  on = system.powers rom is_image first;
  alike = none;
  board = refl;
  fits = record { of_cells = fits.0; of_board = record { read = lit< tt; ran = lit< tt; ram = bytes } };
}
machine_of shared {R} {image} {held} (alone {calls = list} {older = older} {cells = cells} twos on given quiet) =
    let is = machine_of shared on in
    let served = served_of R held twos older cells is.fits given in
    let went = quietly R image held list twos is.log older is.shown (after held older) cells is.on is.alike is.board served.0 quiet in
    record {
      log = went.log;
      shown = went.shown;
      on = went.on;
      alike = went.alike;
      board = went.board_is ∙ ap (λ (m : Machine). m.board) (ends_are held twos older cells);
      fits = served.1;
    }
machine_of shared {R} {image} {held} (tests {older = older} {cells = cells} twos on given quiet) =
    let is = machine_of shared on in
    let served = served_of R held twos older cells is.fits given in
    let went = testing R image held twos is.log older is.shown (after held older) cells is.on is.alike is.board served.0 quiet in
    record {
      log = went.log;
      shown = went.shown;
      on = went.on;
      alike = went.alike;
      board = went.board_is ∙ ap (λ (m : Machine). m.board) (ends_are held twos older cells);
      fits = served.1;
    }
machine_of shared {R} {image} {held} (resets {calls = list} {older = older} {cells = cells} drive on nmi rom m served) =
    let is = machine_of shared on in
    let one = reset_bus held older cells drive in record {
      log = answered image held is.shown one true is.log;
      shown = one ∷ is.shown;
      on = system.waits one true is.on (reset_is R held older cells drive is.fits nmi rom m)
          (subst (λ b. IsServed R b one) (sym is.board) served) (refl, refl);
      alike = same one is.alike;
      board = ap (λ b. pin.clock b one) is.board;
      fits = reset_fits R held older cells drive is.fits nmi rom m;
    }
machine_of shared (begins_call routine from others on rests session checked shares) =
    let is = machine_of shared on in record {
      log = system.with_reset routine is.log;
      shown = is.shown;
      on = system.begins routine from others is.on session checked
          (subst (λ b. SharesRam routine from.mem b) (sym is.board) shares);
      alike = is.alike;
      board = is.board;
      fits = is.fits;
    }
machine_of shared {R} {image} {held} (inside {call = call} {calls = olds} {older = older} {cells = cells} twos on session go) =
    let is = machine_of shared on in
    let served = served_of R held twos older cells is.fits go.given in
    let ram = now_has held call olds older (subst (λ b. HaveRam (call ∷ olds) b) is.board
    (shared R image held (call ∷ olds) is.log is.shown is.on)) session in
    let answered = answered_of R held (now call) twos older cells true is.fits go.given (λ e. ram) go.answered in
    let sound = sound_of cells (now call) is.fits.of_cells go.rests go.placed in
    let went = step_on R image held call olds is.log older is.shown (after held older) cells twos is.on is.alike is.board
    go.unfinished go.goes session served.0 go.rests go.free sound go.single go.count answered in
    record {
      log = went.log;
      shown = went.shown;
      on = went.on;
      alike = went.alike;
      board = sym went.board ∙ ap (λ (m : Machine). m.board) (ends_are held twos older cells);
      fits = served.1;
    }

pub cells_keep : OfEachMachine (λ R image held calls log clocks. IsLegal R image log)
    → OfEachMachine (λ R image held calls log clocks. Throughout (KeepsHeadline R image) log)
    → OfEachMachine (λ R image held calls log clocks. HoldsRam image held log clocks)
    → OfEachMachine (λ R image held calls log clocks. HaveRam calls (after held clocks)) → CellsKeep
cells_keep legal headline memory shared R image held list older cells on =
    let is = machine_of shared on in record {
      log = is.log;
      shown = is.shown;
      stand = record { alike = is.alike; board = is.board };
      machine = is.on;
      legal = legal R image held list is.log is.shown is.on;
      headline = headline R image held list is.log is.shown is.on;
      memory = λ a few. sym (ap (λ (b : Board). b.ram a) is.board)
          ∙ memory R image held list is.log is.shown is.on a few;
    }

pub reset_takes : ResetTakes
reset_takes cells board drive = (refl, refl, refl, refl, refl, refl)

pub cpu_waits : CpuWaits
cpu_waits cells board drive = (refl, refl, refl)

pub cycle_ends : CycleEnds
cycle_ends cells board two = (refl, refl, refl, refl)

pub reset_waits : ResetWaits
reset_waits cells board drive zero zero less less_ready = (refl, refl)
reset_waits cells board drive zero (suc zero) less less_ready = (refl, refl)
reset_waits cells board drive (suc zero) zero less less_ready = (refl, refl)
reset_waits cells board drive (suc zero) (suc zero) less less_ready = (refl, refl)
reset_waits cells board drive (suc (suc n)) ready less less_ready = absurd (omega (arith, less))
reset_waits cells board drive reset (suc (suc n)) less less_ready = absurd (omega (arith, less_ready))
