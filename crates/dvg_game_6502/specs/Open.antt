-- A call of the driver that a playing processor is in: step by step, and over an NMI.
use Rattle.std.specs.Prelude.{◌≡◌, ℕ, ◌<◌, ◌≤◌, ◌||◌, Bool, true, false, List, [], ◌∷◌, ◌++◌}
use Rattle.dvg_calls_6502.specs.Processor.{Cpu, Access, at_return}
use Rattle.dvg_calls_6502.specs.Amid.{changed, guards, is_code, is_kept}
use Rattle.dvg_calls_6502.specs.Board.{is_own, is_ram}
use Rattle.dvg_calls_6502.specs.Routines.{Enters}
use Rattle.dvg_calls_6502.specs.Calls.{Routine, Call, after, bounds, entry, frame_of, is_offered, is_over, is_table}
use Rattle.dvg_calls_6502.specs.Calls.{IsSessionBy, UnlessReset}
use Rattle.dvg_calls_6502.specs.Programs.{CallBrings}
use Rattle.dvg_game_6502.specs.Play.{done, fresh}

-- an address of the ROM, 4800 to 7FFF
abbrev pub InRom : ℕ → Type 0
InRom b = (0x4800 ≤ b) × (b < 0x8000)

-- the processor is in a call of this routine that began with this S, and has made these accesses.
-- Each guarded byte of its memory is as the call left it; an NMI may have changed the others
pub record IsIn (R : List ℕ) (routine : Routine) (s : ℕ) (calls : List Call) (cpu : Cpu) (log : List Access)
    (flags : ℕ → ℕ) : Type 0 where
  pub call : Call
  pub session : IsSessionBy (CallBrings R) (call ∷ calls)
  pub routine_is : call.routine ≡ routine
  pub level : call.from.s ≡ s
  pub in_rom : (b : ℕ) → is_table call calls b ≡ true → InRom b
  pub left : ℕ → ℕ
  pub after : after call ≡ record cpu { mem = left; flags = flags; log = log }
  pub same : (b : ℕ) → guards (is_kept (is_table call calls)) s cpu.s b ≡ true → cpu.mem b ≡ left b

-- the processor is in such a call, whatever the flag will answer to its next reads
abbrev pub IsOpen : List ℕ → Routine → ℕ → List Call → Cpu → List Access → Type 0
IsOpen R routine s calls cpu log = (flags : ℕ → ℕ) → IsIn R routine s calls cpu log flags

-- the newest call is over, and since then nobody wrote the driver's bytes, the vector RAM, or the table that was taken
abbrev pub Rested : List ℕ → List Call → (ℕ → ℕ) → Type 0
Rested R [] mem = ⊥
Rested R (older ∷ calls) mem = IsSessionBy (CallBrings R) (older ∷ calls) × (is_over older ≡ true)
    × ((b : ℕ) → (is_own b || is_ram b) ≡ true → mem b ≡ (after older).mem b)
    × ((b : ℕ) → (bounds (older ∷ calls)).0 ≤ b → b < (bounds (older ∷ calls)).1 → mem b ≡ (after older).mem b)

-- a call begins where the newest call is over, and a dvg_reset anywhere; tables are in the ROM
abbrev pub DriverBegins : Type 0
DriverBegins = (R : List ℕ) (routine : Routine) (cpu : Cpu) (calls : List Call)
    → UnlessReset routine (Rested R calls cpu.mem)
    → ((flags : ℕ → ℕ) → Enters (fresh flags cpu) (entry routine))
    → ((flags : ℕ → ℕ) → CallBrings R routine (fresh flags cpu) (frame_of calls))
    → ((b : ℕ) → (bounds calls).0 ≤ b → b < (bounds calls).1 → InRom b)
    → ((b : ℕ) → is_offered routine cpu b ≡ true → InRom b)
    → IsOpen R routine cpu.s calls cpu []

-- each instruction of the driver is a step of its call, up to the RTS that returns from it
abbrev pub DriverSteps : Type 0
DriverSteps = (R : List ℕ) (routine : Routine) (s : ℕ) (calls : List Call) (cpu : Cpu) (log : List Access)
    (flags : ℕ → ℕ) → IsOpen R routine s calls cpu log → at_return s cpu ≡ false
    → IsOpen R routine s calls (done flags cpu) ((done flags cpu).log ++ log)

-- a change of memory that spares all guarded bytes, any tables in the ROM too, leaves a call open
abbrev pub NmiPasses : Type 0
NmiPasses = (R : List ℕ) (routine : Routine) (s : ℕ) (calls : List Call) (cpu : Cpu) (log : List Access) (m : ℕ → ℕ)
    → IsOpen R routine s calls cpu log
    → ((tables : ℕ → Bool) → ((b : ℕ) → tables b ≡ true → InRom b)
    → (b : ℕ) → guards (is_kept tables) s cpu.s b ≡ true → m b ≡ cpu.mem b)
    → IsOpen R routine s calls (changed m cpu) log

-- and the call is over where it comes to its RTS
abbrev pub DriverEnds : Type 0
DriverEnds = (R : List ℕ) (routine : Routine) (s : ℕ) (calls : List Call) (cpu : Cpu) (log : List Access)
    (flags : ℕ → ℕ) → (is : IsIn R routine s calls cpu log flags) → is_code cpu.pc ≡ true
    → at_return s cpu ≡ true → is_over is.call ≡ true
