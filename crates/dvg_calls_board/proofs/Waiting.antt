-- A machine can have a clock more, and one that makes an access.
use Rattle.std.proofs.Common.{◌≡◌, ℕ, zero, suc, ◌+◌, ◌-◌, ◌*◌, ◌<◌, false, not, List, [], ◌∷◌, length, refl, arith}
use Rattle.std.proofs.Common.{sym, ap, ◌∙◌, subst}
use Rattle.std.specs.Prelude.{◌==◌, slice_index}
use Rattle.std.specs.List.{AllByRecursion}
use Rattle.std.proofs.lemmas.List.Elements.{recursion_from_All}
use Rattle.dvg_mem.specs.Memory.{IsRom, first_word}
use Rattle.dvg_driver.specs.declared.action.Action.{Action}
use Rattle.dvg_driver.specs.declared.action.Action.TheVariants.{Peek, Wrote, Read, Sent, Idle}
use Rattle.dvg_driver.specs.Script.{Did, IsLife}
use Rattle.dvg_log.specs.Log.{Log, life}
use Rattle.dvg_cells_core.specs.Cells.{bit}
use Rattle.dvg_calls_6502.specs.Processor.{Access, Reads, Writes}
use Rattle.dvg_calls_6502.specs.Routines.{Shows}
use Rattle.dvg_calls_6502.specs.Calls.{Call, IsSession, IsLifeOf}
use Rattle.dvg_calls_6502.proofs.Sessions.{calls_live}
use Rattle.dvg_cells_board.specs.Board.{Board, Bus}
use Rattle.dvg_cells_board.specs.Board as pin
use Rattle.dvg_cells_board.specs.Clocks.{IsBus, IsServed, after, changes}
use Rattle.dvg_cells_board.specs.Logs.{did, answered}
use Rattle.dvg_calls_board.specs.Machine
use Rattle.dvg_calls_board.specs.Machine.{accesses_of, later, Makes, IsMachine, OfEachMachine, CanIdle, FitsPins, AccessComes}
use Rattle.dvg_calls_board.proofs.Machine.{legal, done, finds, answers}
use Rattle.dvg_calls_board.proofs.Calls.{Next, next_of, first_is, written_in_ram}
use Rattle.dvg_calls_board.proofs.System.{made_lives}

-- the ROM of a machine is one
rom_of : {R image : List ℕ} {held : ℕ → ℕ} {list : List Call} {log : Log} {older : List Bus}
    → IsMachine R image held list log older → IsRom R
rom_of (Machine.powers rom is_image same) = rom
rom_of (Machine.waits bus whole on is served idle) = rom_of on
rom_of (Machine.tests bus on is served sends) = rom_of on
rom_of (Machine.begins routine from others on session checked shares) = rom_of on
rom_of (Machine.steps n on unfinished session same) = rom_of on
rom_of (Machine.accesses n access bus on session more is served made) = rom_of on

pub below : (bytes : List ℕ) → AllByRecursion (λ byte. byte < 256) bytes → (i : ℕ) → slice_index bytes i < 256
below [] s i = omega arith
below (byte ∷ bytes) s zero = s.0
below (byte ∷ bytes) s (suc i) = below bytes s.1 i

-- a clock in which the ROM answers, without an access, or with one
abbrev quiet_for : List ℕ → Board → Bus
quiet_for R board = record {
  reset = 0;
  hold = 0;
  access = 0;
  write = 0;
  a = 0;
  d = 0;
  big = bit (not (length R == 2048));
  rom = slice_index R (2 * (pin.at board - first_word R) + pin.high board);
  undefined = 0;
}

abbrev bus_for : List ℕ → Board → Access → Bus
bus_for R board (Reads a byte) = record (quiet_for R board) { access = 1; a = a }
bus_for R board (Writes a byte) = record (quiet_for R board) { access = 1; write = 1; a = a; d = byte }

is_byte : (R : List ℕ) (board : Board) → IsRom R → (quiet_for R board).rom < 256
is_byte R board rom = below R (recursion_from_All (λ byte. byte < 256) R rom.bytes) _

is_quiet : (R : List ℕ) (board : Board) → IsRom R → IsBus (quiet_for R board)
is_quiet R board rom = record { reset = omega arith; a = omega arith; d = omega arith; rom = is_byte R board rom }

is_read : (R : List ℕ) (board : Board) (a byte : ℕ) → IsRom R → a < 65536 → IsBus (bus_for R board (Reads a byte))
is_read R board a byte rom small = record { reset = omega arith; a = small; d = omega arith; rom = is_byte R board rom }

is_written : (R : List ℕ) (board : Board) (a byte : ℕ) → IsRom R → a < 65536 → byte < 256
    → IsBus (bus_for R board (Writes a byte))
is_written R board a byte rom small few = record { reset = omega arith; a = small; d = few; rom = is_byte R board rom }

is_served : (R : List ℕ) (board : Board) → IsServed R board (quiet_for R board)
is_served R board = record { big = refl; rom = λ takes from to. refl }

pub goes_on : OfEachMachine CanIdle
goes_on R image held list log older on =
    let board = after held older in
    let bus = quiet_for R board in (
      bus,
      refl,
      refl,
      (refl, refl),
      Machine.waits bus false on (is_quiet R board (rom_of on)) (is_served R board) (refl, refl),
    )

-- a machine whose newest call makes an access next
module _ (R image : List ℕ) (held : ℕ → ℕ) (call : Call) (olds : List Call) (log : Log) (older : List Bus)
    (on : IsMachine R image held (call ∷ olds) log older) (n : ℕ) (session : IsSession (later n call ∷ olds)) where
  abbrev board : Board
  board = after held older

  abbrev Comes : Access → Type 0
  Comes access = (bus : Bus) × IsMachine R image held (later n call ∷ olds)
      (did (changes bus) (answered image held older bus false log)) (bus ∷ older)

  module _ (access : Access) (more : accesses_of (later n call) ≡ access ∷ accesses_of call) (fits : FitsPins log access) where
    comes : IsBus (bus_for R board access) → IsServed R board (bus_for R board access)
        → Makes board (bus_for R board access) access → Comes access
    comes is serves made = (bus_for R board access, Machine.accesses n access (bus_for R board access) on session more is serves made)

  reads_ram : (a byte : ℕ) → a < 2048 → accesses_of (later n call) ≡ Reads (0x4000 + a) byte ∷ accesses_of call
      → FitsPins log (Reads (0x4000 + a) byte) → Comes (Reads (0x4000 + a) byte)
  reads_ram a byte small more fits =
      let is = is_read R board (0x4000 + a) byte (rom_of on) (omega arith) in
      comes (Reads (0x4000 + a) byte) more fits is (record { big = refl; rom = λ takes from to. refl })
      (finds R image held (call ∷ olds) log older on n a byte small session more (bus_for R board (Reads (0x4000 + a) byte))
      is refl refl refl)

  reads_flag : (byte : ℕ) → accesses_of (later n call) ≡ Reads 0x2002 byte ∷ accesses_of call
      → FitsPins log (Reads 0x2002 byte) → Comes (Reads 0x2002 byte)
  reads_flag byte more fits =
      let is = is_read R board 0x2002 byte (rom_of on) (omega arith) in
      comes (Reads 0x2002 byte) more fits is (record { big = refl; rom = λ takes from to. refl }) (
        refl,
        refl,
        refl,
        λ next. (answers R image held (call ∷ olds) log older on (bus_for R board (Reads 0x2002 byte)) is).flag next refl
            ∙ sym (fits refl),
      )

  writes_byte : (a byte : ℕ) → a < 65536 → accesses_of (later n call) ≡ Writes a byte ∷ accesses_of call
      → FitsPins log (Writes a byte) → Comes (Writes a byte)
  writes_byte a byte small more fits =
      comes (Writes a byte) more fits (is_written R board a byte (rom_of on) small fits)
      (record { big = refl; rom = λ takes from to. refl }) (refl, refl, refl, refl)

  access_comes : (access : Access) → accesses_of (later n call) ≡ access ∷ accesses_of call → FitsPins log access → Comes access
  access_comes access more fits = by next.0 next.1
    where
      makes : IsLifeOf (call ∷ olds) (life image log)
      makes = done R image held (call ∷ olds) log older on

      next : Next call (later n call) access more call.routine makes.0
      next = let live = calls_live (later n call ∷ olds) session in
          next_of call (later n call) access more call.routine makes.0 live.1.0 makes.3 live.1.3

      lives : (action : Action) → Shows action (access ∷ []) → IsLife (Did action ∷ life image log)
      lives action shows = made_lives (Did action ∷ life image log) (
        later n call ∷ olds,
        session,
        (Did action ∷ makes.0, makes.1, ap (λ l. Did action ∷ l) makes.2, next.2 action shows, makes.4),
      )

      by : (action : Action) → Shows action (access ∷ []) → Comes access
      by Peek shows =
          let e = sym (first_is access (Reads 0x4001 shows.0) shows.1) in
          subst (λ x. accesses_of (later n call) ≡ x ∷ accesses_of call → FitsPins log x → Comes x) e
          (reads_ram 1 shows.0 (omega arith)) more fits
      by (Read flag) shows =
          let e = sym (first_is access (Reads 0x2002 shows.0) shows.1) in
          subst (λ x. accesses_of (later n call) ≡ x ∷ accesses_of call → FitsPins log x → Comes x) e (reads_flag shows.0) more fits
      by (Wrote a byte) shows =
          let e = sym (first_is access (Writes (0x4000 + a) byte) shows) in
          let small = written_in_ram R image log a byte (legal R image held (call ∷ olds) log older on) (lives (Wrote a byte) shows) in
          subst (λ x. accesses_of (later n call) ≡ x ∷ accesses_of call → FitsPins log x → Comes x) e
          (writes_byte (0x4000 + a) byte (omega (arith, small))) more fits
      by Sent shows =
          let e = sym (first_is access (Writes 0x3000 shows.0) shows.1) in
          subst (λ x. accesses_of (later n call) ≡ x ∷ accesses_of call → FitsPins log x → Comes x) e
          (writes_byte 0x3000 shows.0 (omega arith)) more fits
      by Idle shows = absurd (cc)

pub accesses_come : OfEachMachine AccessComes
accesses_come R image held [] log older on = tt
accesses_come R image held (call ∷ olds) log older on = λ n access session more fits.
    access_comes R image held call olds log older on n session access more fits
