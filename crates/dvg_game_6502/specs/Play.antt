-- What a 6502 does with a ROM since a reset, with NMIs: by its instructions alone, the driver's among them.
use Rattle.std.specs.Prelude.{◌≡◌, ℕ, suc, ◌<◌, ◌≤◌, Bool, false, List, [], ◌++◌, if◌then◌else◌}
use Rattle.dvg_calls_6502.specs.Processor
use Rattle.dvg_calls_6502.specs.Processor.{Cpu, Access, word_at}
use Rattle.dvg_calls_6502.specs.Amid.{changed, is_code}
use Rattle.dvg_calls_6502.specs.Board.{seen}
use Rattle.dvg_game_rules.specs.Machine
use Rattle.dvg_game_rules.specs.Machine.{IsLoaded, IsTurned}
use Rattle.dvg_game_rules.specs.Alike.{idle}

-- registers and memory are bytes
pub record IsByteWide (cpu : Cpu) : Type 0 where
  pub a : cpu.a < 256
  pub x : cpu.x < 256
  pub y : cpu.y < 256
  pub s : cpu.s < 256
  pub mem : (b : ℕ) → cpu.mem b < 256

-- before an instruction, with any answers of the flag from there on
abbrev pub fresh : (ℕ → ℕ) → Cpu → Cpu
fresh flags cpu = record cpu { flags = flags; log = [] }

-- one instruction, whatever the flag says
abbrev pub done : (ℕ → ℕ) → Cpu → Cpu
done flags cpu = Processor.step (fresh flags cpu)

-- an NMI. A15 isn't decoded on the board, so the vector at FFFA is the ROM's at 7FFA
abbrev pub interrupted : Cpu → Cpu
interrupted cpu = record (Processor.interrupted cpu) { pc = word_at cpu.mem 0x7FFA 0x7FFB }

-- the next instruction is a JMP to where the reset's vector leads
abbrev pub restarts : Cpu → Bool
restarts cpu = Machine.restarts (idle cpu)

-- what the driver's code accesses of the hardware in an instruction
abbrev pub made : Cpu → Cpu → List Access
made cpu new = if is_code cpu.pc then seen new.log else []

-- where a program starts: after its reset's TXS, with any memory but in the ROM
pub record Begins (rom : ℕ → ℕ) (start : ℕ) (cpu : Cpu) : Type 0 where
  pub loaded : IsLoaded rom cpu.mem
  pub entry : cpu.pc ≡ start
  pub stack : cpu.s ≡ 255
  pub bytes : IsByteWide cpu

-- all that a program may do up to the next reset, or a JMP there: with how many instructions came
-- since the last NMI, and the driver's accesses, the newest first. The flag answers with any byte.
-- An NMI may come between any two instructions, at least 860 after the one before; the first may
-- come at any time. Switches, coins and all else outside may turn to any bytes at any time
pub data IsPlay (rom : ℕ → ℕ) (start : ℕ) : Cpu → ℕ → List Access → Type 0 where
  begins : (cpu : Cpu) (since : ℕ) → Begins rom start cpu → IsPlay rom start cpu since []
  does : {cpu : Cpu} {since : ℕ} {log : List Access} (flags : ℕ → ℕ) → IsPlay rom start cpu since log
      → restarts cpu ≡ false → flags 0 < 256
      → IsPlay rom start (done flags cpu) (suc since) (made cpu (done flags cpu) ++ log)
  nmi : {cpu : Cpu} {since : ℕ} {log : List Access} → IsPlay rom start cpu since log → 860 ≤ since
      → IsPlay rom start (interrupted cpu) 0 log
  turns : {cpu : Cpu} {since : ℕ} {log : List Access} (mem : ℕ → ℕ) → IsPlay rom start cpu since log
      → ((b : ℕ) → mem b < 256) → IsTurned cpu.mem mem → IsPlay rom start (changed mem cpu) since log
