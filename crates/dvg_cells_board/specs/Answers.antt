-- What the board answers the processor, and that it serves the core.
use Rattle.std.specs.Prelude.{◌≡◌, ℕ, ◌+◌, ◌*◌, ◌/◌, ◌%◌, ◌&&◌, Bool, true, false, not, nat_eq, if◌then◌else◌, List, slice_index}
use Rattle.std.specs.Prelude.{is_none}
use Rattle.dvg_log.specs.Log.{Log, ram, open_run}
use Rattle.dvg_cells_core.specs.Cells.{bit}
use Rattle.dvg_cells_board.specs.Board.{Board, Bus, q, clock, halted, takes, at, high}
use Rattle.dvg_cells_board.specs.Clocks.{IsBus, after, reads, writes, sends}

-- the processor uses the RAM in this clock
abbrev pub uses_ram : Bus → Bool
uses_ram bus = not (nat_eq bus.access 0) && nat_eq (bus.a / 0x800) 8

-- what comes of a clock after this log; `q` is read in the next clock, whatever that is
pub record Answers (image : List ℕ) (board : Board) (log : Log) (bus : Bus) : Type 0 where
  -- a read of the RAM finds the byte that the log has
  pub byte : (next : Bus) → uses_ram bus ≡ true → bus.write ≡ 0
      → q (clock board bus) next ≡ slice_index (ram image log) (bus.a % 0x800)
  -- a read of the flag finds in bit 7 whether a run is open
  pub flag : (next : Bus) → reads bus 0x2002 ≡ true
      → q (clock board bus) next ≡ (if is_none (open_run log) then 0 else 128)
  -- a strobe reaches the core in the next clock
  pub starts : sends bus ≡ true → bus.reset ≡ 0 → (clock board bus).starting ≡ 1
  -- while a run is open, a byte is read for it in each clock in which the processor leaves the RAM, nobody holds, and
  -- nothing else happens to the core; the core is answered in the next clock
  pub serves : uses_ram bus ≡ false → halted board ≡ 0 → bus.hold ≡ 0 → bus.reset ≡ 0 → board.starting ≡ 0
      → board.pending ≡ 0 → (clock board bus).pending ≡ 1

-- so it is in each clock with pins that are bits, bytes and an address
abbrev pub AnswersNext : List ℕ → (ℕ → ℕ) → Log → List Bus → Type 0
AnswersNext image held log clocks = (bus : Bus) → IsBus bus → Answers image (after held clocks) log bus

-- a clock of any board, whatever came before it and whoever drives it: a strobe starts the core in the next clock, and
-- nothing else does; a byte is read for the core where nobody holds and all else leaves it alone, and nowhere else, and
-- `takes` is high in the clock after it, unless that has a reset or a start; and the RAM is as it was, but for the byte
-- that is written. In the next clock `q` is the flag after a read of 2002, and after all else the byte that the RAM read
-- last: the processor's, or the one at the core's place
pub record Works (board : Board) (bus : Bus) : Type 0 where
  pub starts : (clock board bus).starting ≡ bit (sends bus && nat_eq bus.reset 0)
  pub serves : (clock board bus).pending ≡ bit (nat_eq (halted board) 0 && (nat_eq bus.hold 0 && (nat_eq bus.reset 0
      && (nat_eq board.starting 0 && (nat_eq board.pending 0 && not (uses_ram bus))))))
  pub takes : takes board bus ≡ bit (not (nat_eq board.pending 0) && (nat_eq bus.reset 0 && nat_eq board.starting 0))
  pub ram : (a : ℕ) → (clock board bus).ram a
      ≡ (if writes bus && nat_eq a (bus.a % 0x800) then bus.d else board.ram a)
  pub answers : (next : Bus) → q (clock board bus) next
      ≡ (if reads bus 0x2002 then (if nat_eq (halted board) 0 then 128 else 0) else (clock board bus).read)
  pub read : (clock board bus).read ≡ (if writes bus then board.read
      else board.ram (if uses_ram bus then bus.a % 0x800 else 2 * (at board % 0x400) + high board))

abbrev pub BoardWorks : Type 0
BoardWorks = (board : Board) (bus : Bus) → IsBus bus → Works board bus
