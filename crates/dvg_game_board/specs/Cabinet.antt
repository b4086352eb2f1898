-- A game on its board: a 6502 that runs a ROM by its definition, on the bus of a board of cells.
use Rattle.std.specs.Prelude.{◌≡◌, ℕ, suc, ◌<◌, ◌≤◌, ◌||◌, false, if◌then◌else◌, nat_eq, List, [], ◌∷◌}
use Rattle.std.specs.Prelude.{slice_index, Option, Some, None}
use Rattle.dvg_mem.specs.Memory.{IsImage, IsRom}
use Rattle.dvg_calls_6502.specs.Processor.{Cpu, Access, Reads, Writes}
use Rattle.dvg_calls_6502.specs.Amid.{changed, is_code}
use Rattle.dvg_calls_6502.specs.Board.{is_ram, seen, strobe_place}
use Rattle.dvg_calls_6502.specs.Calls.{Reset}
use Rattle.dvg_cells_board.specs.Board.{Board, Bus}
use Rattle.dvg_cells_board.specs.Clocks.{IsBus, IsServed, after, sends}
use Rattle.dvg_calls_board.specs.Machine.{IsIdle, Makes, SharesRam}
use Rattle.dvg_game_rules.specs.Machine.{IsTurned}
use Rattle.dvg_game_6502.specs.Play.{Begins, done, interrupted, restarts}

-- the writes of the vector RAM and of the strobe
abbrev pub written : List Access → List Access
written [] = []
written (Reads a byte ∷ log) = written log
written (Writes a byte ∷ log) =
    let rest = written log in if is_ram a || nat_eq a strobe_place then Writes a byte ∷ rest else rest

-- what an instruction does with the board: if it is the driver's, each access of the hardware; else
-- each write of the vector RAM or of the strobe
abbrev pub touched : Cpu → Cpu → List Access
touched cpu new = if is_code cpu.pc then seen new.log else written new.log

-- clocks that make these accesses on the bus, one after the other: a read finds what the board answers
pub data AreMade (R : List ℕ) (held : ℕ → ℕ) : List Access → List Bus → List Bus → Type 0 where
  no_more : {older : List Bus} → AreMade R held [] older older
  one_more : {log : List Access} {older newer : List Bus} (access : Access) (bus : Bus) → AreMade R held log older newer
      → IsBus bus → IsServed R (after held newer) bus → Makes (after held newer) bus access
      → AreMade R held (access ∷ log) older (bus ∷ newer)

-- all that may come since power-up: where the processor stands, with how many instructions came since the last NMI, or
-- in a reset of the whole system; and the board's clocks, the newest first
pub data IsCabinet (R image : List ℕ) (held : ℕ → ℕ) (rom : ℕ → ℕ) (start : ℕ) : Option (Cpu × ℕ) → List Bus → Type 0
  where
    -- power-up, with any RAM
    powers : IsRom R → IsImage image → ((a : ℕ) → a < 2048 → held a ≡ slice_index image a)
        → IsCabinet R image held rom start None []
    -- a clock in which the processor leaves the board alone, wherever it stands; the generator alone may be reset
    waits : {at : Option (Cpu × ℕ)} {older : List Bus} (bus : Bus) → IsCabinet R image held rom start at older → IsBus bus
        → IsServed R (after held older) bus → IsIdle (after held older) bus
        → IsCabinet R image held rom start at (bus ∷ older)
    -- a clock in which it reads the board, as a game may by itself: what it finds there is left open
    reads : {at : Option (Cpu × ℕ)} {older : List Bus} (bus : Bus) → IsCabinet R image held rom start at older → IsBus bus
        → IsServed R (after held older) bus → bus.access ≡ 1 → bus.write ≡ 0
        → IsCabinet R image held rom start at (bus ∷ older)
    -- a clock in which the whole system is reset
    resets : {at : Option (Cpu × ℕ)} {older : List Bus} (bus : Bus) → IsCabinet R image held rom start at older
        → IsBus bus → IsServed R (after held older) bus → IsIdle (after held older) bus → nat_eq bus.reset 0 ≡ false
        → IsCabinet R image held rom start None (bus ∷ older)
    -- before the program starts since power-up or such a reset, a clock in which the processor does anything but send a
    -- strobe, as a test of the RAM
    tests : {older : List Bus} (bus : Bus) → IsCabinet R image held rom start None older → IsBus bus
        → IsServed R (after held older) bus → sends bus ≡ false → IsCabinet R image held rom start None (bus ∷ older)
    -- the program starts, after its reset's TXS, in the vector RAM as the board has it: since power-up, a reset of the
    -- whole, one of the processor alone, or a jump to the reset
    begins : {at : Option (Cpu × ℕ)} {older : List Bus} (cpu : Cpu) (since : ℕ)
        → IsCabinet R image held rom start at older → Begins rom start cpu → SharesRam Reset cpu.mem (after held older)
        → IsCabinet R image held rom start (Some (cpu, since)) older
    -- an instruction, with the clocks that its accesses of the board take; the flag, where a game reads it by itself,
    -- answers with any byte
    does : {cpu : Cpu} {since : ℕ} {older newer : List Bus} (flags : ℕ → ℕ)
        → IsCabinet R image held rom start (Some (cpu, since)) older → restarts cpu ≡ false → flags 0 < 256
        → AreMade R held (touched cpu (done flags cpu)) older newer
        → IsCabinet R image held rom start (Some (done flags cpu, suc since)) newer
    -- an NMI, between any two instructions, 860 after the last one
    nmi : {cpu : Cpu} {since : ℕ} {older : List Bus} → IsCabinet R image held rom start (Some (cpu, since)) older
        → 860 ≤ since → IsCabinet R image held rom start (Some (interrupted cpu, 0)) older
    -- switches, coins and all else outside turn to any bytes, between any two instructions
    turns : {cpu : Cpu} {since : ℕ} {older : List Bus} (mem : ℕ → ℕ)
        → IsCabinet R image held rom start (Some (cpu, since)) older → ((b : ℕ) → mem b < 256) → IsTurned cpu.mem mem
        → IsCabinet R image held rom start (Some (changed mem cpu, since)) older

-- two boards that draw the same: their cores are the same, and their RAM is
abbrev pub DrawAlike : Board → Board → Type 0
DrawAlike one two = (one.core ≡ two.core) × (one.ram ≡ two.ram)

-- clocks of a cabinet, and those that a log is of: the same, but that a read by the game itself may be of another place.
-- After each clock the two boards draw the same
pub data ClocksDrawAlike (held : ℕ → ℕ) : List Bus → List Bus → Type 0 where
  none : ClocksDrawAlike held [] []
  same : {made shown : List Bus} (bus : Bus) → ClocksDrawAlike held made shown
      → DrawAlike (after held (bus ∷ made)) (after held (bus ∷ shown)) → ClocksDrawAlike held (bus ∷ made) (bus ∷ shown)
  elsewhere : {made shown : List Bus} (bus : Bus) (a : ℕ) → bus.write ≡ 0 → ClocksDrawAlike held made shown
      → DrawAlike (after held (bus ∷ made)) (after held (record bus { a = a } ∷ shown))
      → ClocksDrawAlike held (bus ∷ made) (record bus { a = a } ∷ shown)
