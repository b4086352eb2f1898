-- The pins of the board are bits, bytes and an address.
use Rattle.std.proofs.Common.{ℕ, ◌/◌, ◌<◌, Bool, true, false, List, [], ◌∷◌, lit<, arith}
use Rattle.std.specs.Prelude.{nat_eq, if◌then◌else◌}
use Rattle.std.proofs.lemmas.Nat.{mod_below}
use Rattle.dvg_cells_core.specs.Cells.{mux, none, part, joined, both, either, eq}
use Rattle.dvg_cells_core.specs.Core.{halted}
use Rattle.dvg_cells_board.specs.Board.{Board, Bus, q}
use Rattle.dvg_cells_board.specs.Board as board
use Rattle.dvg_cells_board.specs.Memory.{memrd, memwr}
use Rattle.dvg_cells_board.specs.Clocks.{IsBus, after}
use Rattle.dvg_cells_cpu.specs.Cpu.{Cpu as Cells, at, clock}
use Rattle.dvg_cells_cpu.specs.Refines.{pins_of}
use Rattle.dvg_cells_cpu.specs.Widths.{Fits}
use Rattle.dvg_cells_cpu.proofs.LawOfWidths.{fits}
use Rattle.dvg_calls_cells.specs.Machine.{Machine, drives_cpu}
use Rattle.dvg_calls_cells.specs.Cycles.{Drive, Two, Turn, acts, idles, resetting, first_bus, second_bus, wait_bus, cycle_of}
use Rattle.dvg_calls_cells.specs.Steps.{AreServed}
use Rattle.dvg_calls_cells.specs.Played.{AreGiven, IsGiven, IsWaiting, at_rest, older_after, cells_after, reset_bus}
use Rattle.dvg_cells_cpu.proofs.Bounds.{mux_in}

-- bytes and bits of the board
pub record BoardFits (board : Board) : Type 0 where
  pub read : board.read < 256
  pub ran : board.ran < 2
  pub ram : (a : ℕ) → board.ram a < 256

if_in : (t : Bool) (a b n : ℕ) → a < n → b < n → (if t then a else b) < n
if_in true a b n p q = p
if_in false a b n p q = q

none_in : (a : ℕ) → none a < 2
none_in a = if_in (nat_eq a 0) 1 0 2 (omega arith) (omega arith)

memwr_in : (en place byte : ℕ) (ram : ℕ → ℕ) → byte < 256 → ((a : ℕ) → ram a < 256) → (a : ℕ) → memwr en place byte ram a < 256
memwr_in en place byte ram less all a = if_in (nat_eq en 0) (ram a) (if nat_eq a place then byte else ram a) 256 (all a)
    (if_in (nat_eq a place) byte (ram a) 256 less (all a))

pub board_fits : (b : Board) (bus : Bus) → BoardFits b → bus.d < 256 → BoardFits (board.clock b bus)
board_fits b bus f less =
    let on_ram : ℕ = both bus.access (eq (part 11 5 bus.a) 8) in
    let writes : ℕ = both on_ram bus.write in
    let place : ℕ = mux on_ram (part 0 11 bus.a) (joined 1 b.core.high (part 0 10 b.core.at)) in record {
      read = mux_in writes b.read (memrd b.ram place) 256 f.read (f.ram place);
      ran = none_in (halted b.core);
      ram = λ a. memwr_in (mux writes 255 0) (mux writes place (part 0 11 bus.undefined)) (mux writes bus.d (part 0 8 bus.undefined)) b.ram
          (mux_in writes bus.d (part 0 8 bus.undefined) 256 less (mod_below (bus.undefined / 1) 256 (lit< tt))) f.ram a;
    }

pub q_in : (b : Board) (bus : Bus) → BoardFits b → q b bus < 256
q_in b bus f = let one = f.ran in
    let flag : joined 7 0 b.ran < 256 = omega arith in mux_in b.flag (joined 7 0 b.ran) b.read 256 flag f.read

module _ (R : List ℕ) (held : ℕ → ℕ) where
  pub record AllFit (older : List Bus) (cells : Cells) : Type 0 where
    pub of_cells : Fits cells
    pub of_board : BoardFits (after held older)

  -- a cycle
  module _ (older : List Bus) (cells : Cells) (two : Two) (f : AllFit older cells) (given : IsGiven R (at_rest held older cells) two) where
    abbrev machine : Machine
    machine = at_rest held older cells

    abbrev one : Bus
    one = first_bus machine two

    abbrev other : Bus
    other = second_bus machine two

    pub first_is : IsBus one
    first_is = let pins = fits.2 cells f.of_cells in record { reset = lit< tt; a = pins.0; d = pins.2; rom = given.first_rom }

    pub second_is : IsBus other
    second_is = let pins = fits.2 cells f.of_cells in record { reset = lit< tt; a = pins.0; d = pins.2; rom = given.second_rom }

    mid : BoardFits (after held (one ∷ older))
    mid = board_fits (after held older) one f.of_board first_is.d

    din_in : (cycle_of machine two).din < 256
    din_in = mux_in (either (either (eq (part 11 5 (at cells)) 8) (eq (at cells) 8194)) (eq (at cells) 12288)) (q (after held (one ∷ older)) other) two.second.m 256
        (q_in (after held (one ∷ older)) other mid) given.m

    pub cycle_fits : AllFit (other ∷ one ∷ older) (clock cells (pins_of (cycle_of machine two)))
    cycle_fits = record {
      of_cells = fits.1 cells (pins_of (cycle_of machine two)) f.of_cells given.nmi din_in;
      of_board = board_fits (after held (one ∷ older)) other mid second_is.d;
    }

  -- a clock in which the processor waits
  module _ (older : List Bus) (cells : Cells) (drive : Drive) (f : AllFit older cells)
      (given : IsWaiting R (at_rest held older cells) drive) where
    pub wait_is : IsBus (wait_bus (at_rest held older cells) drive)
    wait_is = let pins = fits.2 cells f.of_cells in record { reset = lit< tt; a = pins.0; d = pins.2; rom = given.rom }

    pub wait_fits : AllFit (wait_bus (at_rest held older cells) drive ∷ older) cells
    wait_fits = record {
      of_cells = f.of_cells;
      of_board = board_fits (after held older) (wait_bus (at_rest held older cells) drive) f.of_board wait_is.d;
    }

  pub served_of : (list : List Turn) (older : List Bus) (cells : Cells) → AllFit older cells → AreGiven R (at_rest held older cells) list
      → AreServed R (at_rest held older cells) list × AllFit (older_after held older cells list) (cells_after held older cells list)
  served_of [] older cells f given = (tt, f)
  served_of (acts two ∷ later) older cells f given =
      let machine = at_rest held older cells in
      let rest = served_of later (second_bus machine two ∷ first_bus machine two ∷ older) (clock cells (pins_of (cycle_of machine two)))
      (cycle_fits older cells two f given.0) given.1 in
      ((first_is older cells two f given.0, (second_is older cells two f given.0, (given.0.first, (given.0.second, rest.0)))), rest.1)
  served_of (idles drive ∷ later) older cells f given =
      let rest = served_of later (wait_bus (at_rest held older cells) drive ∷ older) cells (wait_fits older cells drive f given.0) given.1 in
      ((wait_is older cells drive f given.0, (given.0.served, rest.0)), rest.1)

  -- a reset
  module _ (older : List Bus) (cells : Cells) (drive : Drive) (f : AllFit older cells) (nmi : drive.nmi < 2)
      (rom : drive.rom < 256) (m : drive.m < 256) where
    pub reset_is : IsBus (reset_bus held older cells drive)
    reset_is = let pins = fits.2 cells f.of_cells in record { reset = lit< tt; a = pins.0; d = pins.2; rom = rom }

    reset_din : (drives_cpu (at_rest held older cells) (resetting drive)).din < 256
    reset_din = mux_in (either (either (eq (part 11 5 (at cells)) 8) (eq (at cells) 8194)) (eq (at cells) 12288))
        (q (after held older) (reset_bus held older cells drive)) drive.m 256 (q_in (after held older) (reset_bus held older cells drive) f.of_board) m

    pub reset_fits : AllFit (reset_bus held older cells drive ∷ older) (clock cells (drives_cpu (at_rest held older cells) (resetting drive)))
    reset_fits = record {
      of_cells = fits.1 cells (drives_cpu (at_rest held older cells) (resetting drive)) f.of_cells nmi reset_din;
      of_board = board_fits (after held older) (reset_bus held older cells drive) f.of_board reset_is.d;
    }
