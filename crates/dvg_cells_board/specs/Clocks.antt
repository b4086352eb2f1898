-- The clocks of the board, and what the processor does in one.
use Rattle.std.specs.Prelude.{◌≡◌, ℕ, ◌+◌, ◌-◌, ◌*◌, ◌/◌, ◌%◌, ◌<◌, ◌≤◌, ◌&&◌, ◌==◌, Bool, not, nat_eq, if◌then◌else◌}
use Rattle.std.specs.Prelude.{List, [], ◌∷◌, length, slice_index, Option, Some, None}
use Rattle.dvg_mem.specs.Memory.{first_word}
use Rattle.dvg_driver.specs.declared.action.Action.{Action}
use Rattle.dvg_driver.specs.declared.action.Action.TheVariants.{Peek, Wrote, Read, Sent}
use Rattle.dvg_cells_core.specs.Cells.{bit}
use Rattle.dvg_cells_board.specs.Board.{Board, Bus, powered, takes, clock}
use Rattle.dvg_cells_board.specs.Board as pin

-- the pins of a clock are bits, bytes and an address
pub record IsBus (bus : Bus) : Type 0 where
  pub reset : bus.reset < 2
  pub a : bus.a < 65536
  pub d : bus.d < 256
  pub rom : bus.rom < 256

-- the board after these clocks since power-up, the newest first; its RAM held this at first
abbrev pub after : (ℕ → ℕ) → List Bus → Board
after held [] = powered held
after held (bus ∷ clocks) = clock (after held clocks) bus

-- the jumper is set for the ROM, and where `takes`, `at` and `high` ask for a byte of the ROM, it is the ROM's
pub record IsServed (R : List ℕ) (board : Board) (bus : Bus) : Type 0 where
  pub big : bus.big ≡ bit (not (length R == 2048))
  pub rom : takes board bus ≡ 1 → first_word R ≤ pin.at board → pin.at board < 0xC00
      → bus.rom ≡ slice_index R (2 * (pin.at board - first_word R) + pin.high board)

-- the processor reads at this address
abbrev pub reads : Bus → ℕ → Bool
reads bus a = not (nat_eq bus.access 0) && (nat_eq bus.write 0 && nat_eq bus.a a)

-- it writes a byte of the RAM, which is at 4000 to 47FF
abbrev pub writes : Bus → Bool
writes bus = not (nat_eq bus.access 0) && (not (nat_eq bus.write 0) && nat_eq (bus.a / 0x800) 8)

-- it sends a strobe
abbrev pub sends : Bus → Bool
sends bus = not (nat_eq bus.access 0) && (not (nat_eq bus.write 0) && nat_eq bus.a 0x3000)

-- what it looks at: the flag, which is the pin `halted`, or byte 001
abbrev pub looks : Board → Bus → Option Action
looks board bus =
    if reads bus 0x2002 then Some (Read (nat_eq (pin.halted board) 1))
    else if reads bus 0x4001 then Some Peek else None

-- what it changes
abbrev pub changes : Bus → Option Action
changes bus = if writes bus then Some (Wrote (bus.a % 0x800) bus.d) else if sends bus then Some Sent else None
