-- Cells of a processor and a board on one clock, with memory outside that has a game's ROM: all that may come.
use Rattle.std.specs.Prelude.{◌≡◌, ℕ, suc, ◌+◌, ◌-◌, ◌*◌, ◌<◌, ◌≤◌, ◌==◌, ◌&&◌, Bool, true, not, nat_eq, nat_le}
use Rattle.std.specs.Prelude.{nat_lt, if◌then◌else◌, List, [], ◌∷◌, length, slice_index}
use Rattle.dvg_mem.specs.Memory.{IsImage, IsRom, first_word}
use Rattle.dvg_calls_6502.specs.Processor.{put}
use Rattle.dvg_cells_board.specs.Board.{Bus}
use Rattle.dvg_cells_core.specs.Cells.{bit}
use Rattle.dvg_cells_cpu.specs.Refines.{Where}
use Rattle.dvg_calls_cells.specs.Machine.{Machine, Bus as Pins, powered, clock, access, drives_board}
use Rattle.dvg_calls_cells.specs.Machine as pin

-- `nmi` rises: it is high in the second clock of a cycle, where it is looked at, and was low when it was looked at before
abbrev pub rises : Machine → Pins → Bool
rises machine pins = nat_eq machine.answers 1 && (nat_eq pins.nmi 1 && nat_eq machine.cpu.was 0)

-- how many cycles came since it rose last: they end in their second clocks
abbrev pub calm_after : Machine → Pins → ℕ → ℕ
calm_after machine pins calm = if rises machine pins then 0 else if nat_eq machine.answers 1 then suc calm else calm

-- the work RAM outside, of the zero page and the stack, takes what is written there in the clock of the access
abbrev pub takes : Machine → Pins → Bool
takes machine pins =
    nat_eq (access machine pins) 1 && (nat_eq (pin.write machine) 1 && nat_lt (pin.a machine) 0x200)

-- and keeps it
abbrev pub work_after : Machine → Pins → (ℕ → ℕ) → ℕ → ℕ
work_after machine pins work =
    if takes machine pins then put (pin.a machine) (pin.d machine) work else work

-- what a read of the memory outside finds: in the zero page and the stack what was written; from 4800 to 7FFF always the
-- same byte, the ROM's where there is one; and its vectors also at the top, as A15 isn't decoded there. All else finds any byte
pub record Finds (rom work : ℕ → ℕ) (a byte : ℕ) : Type 0 where
  pub in_work : Where (nat_lt a 0x200) (byte ≡ work a)
  pub in_rom : Where (nat_le 0x4800 a && nat_lt a 0x8000) (byte ≡ rom a)
  pub vectors : Where (nat_le 0xFFFA a) (byte ≡ rom (a - 0x8000))

-- what is asked of a clock
pub record IsDriven (R : List ℕ) (rom : ℕ → ℕ) (machine : Machine) (work : ℕ → ℕ) (calm : ℕ) (pins : Pins) : Type 0 where
  -- the pins are bits and bytes
  pub reset : pins.reset < 2
  pub ready : pins.ready < 2
  pub nmi : pins.nmi < 2
  pub vector_rom : pins.rom < 256
  pub m : pins.m < 256
  -- the jumper is set for the generator's ROM, and where `takes`, `at` and `high` ask for a byte of it, it is there
  pub big : pins.big ≡ bit (not (length R == 2048))
  pub from_rom : pin.takes machine pins ≡ 1 → first_word R ≤ pin.at machine → pin.at machine < 0xC00
      → pins.rom ≡ slice_index R (2 * (pin.at machine - first_word R) + pin.high machine)
  -- in the second clock of a cycle that reads, the memory outside answers
  pub answers : machine.answers ≡ 1 → pin.write machine ≡ 0 → Finds rom work (pin.a machine) pins.m
  -- an NMI rises 5,200 cycles after the one before
  pub apart : rises machine pins ≡ true → 5200 ≤ suc calm

-- all that may come since power-up: the machine, the work RAM, how many cycles came since `nmi` rose, and the board's clocks,
-- the newest first
pub data IsCellsRun (R image : List ℕ) (held rom : ℕ → ℕ) : Machine → (ℕ → ℕ) → ℕ → List Bus → Type 0 where
  -- power-up, with any bytes in both RAMs, and bytes in the ROM
  powers : (work : ℕ → ℕ) (calm : ℕ) → IsRom R → IsImage image → ((a : ℕ) → a < 2048 → held a ≡ slice_index image a)
      → ((a : ℕ) → held a < 256) → ((a : ℕ) → work a < 256) → ((a : ℕ) → rom a < 256)
      → IsCellsRun R image held rom (powered held) work calm []
  -- a clock more, maybe with a reset
  ticks : {machine : Machine} {work : ℕ → ℕ} {calm : ℕ} {clocks : List Bus} (pins : Pins)
      → IsCellsRun R image held rom machine work calm clocks → IsDriven R rom machine work calm pins
      → IsCellsRun R image held rom (clock machine pins) (work_after machine pins work)
      (calm_after machine pins calm) (drives_board machine pins ∷ clocks)
