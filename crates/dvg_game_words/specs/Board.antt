-- The board: the driver's bytes in the zero page, its code, and the hardware, as driver.s and dvg.inc place them.
use Rattle.std.specs.Prelude.{◌≡◌, ℕ, ◌+◌, ◌*◌, ◌<◌, ◌&&◌, ◌||◌, Bool, not, nat_eq, nat_le, nat_lt, List, [], ◌∷◌}
use Rattle.std.specs.Prelude.{length, slice_index, if◌then◌else◌}
use Rattle.dvg_game_words.specs.Processor.{Access, Reads, Writes, flag_place}
use Rattle.dvg_game_words.specs.Code.{code, first}

-- dvg_phase: 0 after a reset, then as dvg.inc names them
abbrev pub phase_in : (ℕ → ℕ) → ℕ
phase_in mem = mem 0x10

-- free: byte 001 as it will name the free half
abbrev pub free_in : (ℕ → ℕ) → ℕ
free_in mem = mem 0x11

-- publish: the phase after a frame's last byte
abbrev pub publish_in : (ℕ → ℕ) → ℕ
publish_in mem = mem 0x12

-- at: which byte is next, from `to` on, and from `from` on
abbrev pub place_in : (ℕ → ℕ) → ℕ
place_in mem = mem 0x13

-- pages, end: of a table, how many pages end before its last byte, and `at` after that byte
abbrev pub pages_in : (ℕ → ℕ) → ℕ
pages_in mem = mem 0x16

abbrev pub end_in : (ℕ → ℕ) → ℕ
end_in mem = mem 0x17

-- second: whether the next word is the second one of its instruction
abbrev pub second_in : (ℕ → ℕ) → ℕ
second_in mem = mem 0x18

-- where the next byte comes from, by `from`, and where it goes, by `to`
abbrev pub source_in : (ℕ → ℕ) → ℕ
source_in mem = mem 0x19 + 256 * mem 0x1A + mem 0x13

abbrev pub goal_in : (ℕ → ℕ) → ℕ
goal_in mem = mem 0x14 + 256 * mem 0x15 + mem 0x13

-- the driver's own bytes: those that it keeps from call to call
abbrev pub is_own : ℕ → Bool
is_own b = nat_le 0x10 b && nat_lt b 0x1B

-- the vector RAM, which the generator calls byte 000 and so on
abbrev pub is_ram : ℕ → Bool
is_ram b = nat_le 0x4000 b && nat_lt b 0x4800

-- where byte 001 stands, and the strobe
abbrev pub byte1_place : ℕ
byte1_place = 0x4001

abbrev pub strobe_place : ℕ
strobe_place = 0x3000

-- the hardware: the vector RAM, the flag and the strobe
abbrev pub is_hardware : ℕ → Bool
is_hardware b = is_ram b || (nat_eq b flag_place || nat_eq b strobe_place)

-- what of it a read finds: the vector RAM and the flag
abbrev pub is_readable : ℕ → Bool
is_readable b = is_ram b || nat_eq b flag_place

-- what is seen outside: a read of the hardware, and a write of anything but the zero page and the stack
abbrev pub seen : List Access → List Access
seen [] = []
seen (Reads a byte ∷ log) = let rest = seen log in if is_hardware a then Reads a byte ∷ rest else rest
seen (Writes a byte ∷ log) = let rest = seen log in if nat_le 0x200 a then Writes a byte ∷ rest else rest

-- the flag's byte shows that the generator is halted: its bit 7 is clear
abbrev pub tells_halted : ℕ → Bool
tells_halted byte = not (nat_le 128 byte)

-- a memory of bytes, with the code at its place
pub record IsLoaded (mem : ℕ → ℕ) : Type 0 where
  pub code : (i : ℕ) → i < length code → mem (first + i) ≡ slice_index code i
  pub bytes : (b : ℕ) → mem b < 256
