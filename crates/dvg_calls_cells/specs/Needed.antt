-- What `cells_keep` asks is needed. A premise is left out in the last step of a run of which all else holds, and there is no log as
-- it says; or else it follows from what it says.
use Rattle.std.specs.Prelude.{◌≡◌, ℕ, ◌<◌, ◌==◌, Bool, true, false, not, List, [], ◌∷◌, length, slice_index}
use Rattle.dvg_mem.specs.Memory.{IsImage, IsRom}
use Rattle.dvg_calls_6502.specs.Processor.{at_return}
use Rattle.dvg_calls_6502.specs.Board.{is_ram}
use Rattle.dvg_calls_6502.specs.Calls.{Call, is_over, IsSession}
use Rattle.dvg_calls_6502.specs.Single.{is_single}
use Rattle.dvg_cells_core.specs.Cells.{bit}
use Rattle.dvg_cells_board.specs.Board.{Bus}
use Rattle.dvg_cells_board.specs.Clocks.{after}
use Rattle.dvg_cells_board.specs.Example.{zeros}
use Rattle.dvg_calls_board.specs.Machine.{IsChecked, HaveRam, later}
use Rattle.dvg_cells_cpu.specs.Cpu.{Cpu as Cells}
use Rattle.dvg_cells_cpu.specs.Refines.{Where, Rests, cycles, made}
use Rattle.dvg_calls_cells.specs.Cycles.{Turn, cycles_of, WriteAt, IsSilent}
use Rattle.dvg_calls_cells.specs.Steps.{now, instr_of}
use Rattle.dvg_calls_cells.specs.Played.{IsPlayed, IsPlaced, AreGiven, AreFound, Does, CallsKeepHeadline, at_rest}
use Rattle.dvg_calls_cells.specs.Played.{older_after}

-- over a ROM of zeros, and a RAM of zeros at first
abbrev pub held : ℕ → ℕ
held = slice_index zeros

-- no log is of these calls and clocks as `cells_keep` says
abbrev pub NoLog : List Call → List Bus → Type 0
NoLog calls clocks = CallsKeepHeadline zeros zeros held calls clocks → ⊥

-- after a run there are cycles of the program that write only at places of this kind, with which it has no log
abbrev pub Spoils : (ℕ → Type 0) → List Call → Type 0
Spoils P calls = (older : List Bus) × (cells : Cells) × (list : List Turn) × IsPlayed zeros zeros held calls older cells
    × AreGiven zeros (at_rest held older cells) list
    × WriteAt P (made cells (cycles_of (at_rest held older cells) list) [])
    × NoLog calls (older_after held older cells list)

-- before the first call it isn't enough to leave the RAM alone: after a strobe there is no log
abbrev pub NeedsNoStrobe : Type 0
NeedsNoStrobe = Spoils (λ a. is_ram a ≡ false) []

-- after a call it isn't enough to leave the strobe alone: after a write of the RAM there is no log
abbrev pub NeedsNoWrite : Type 0
NeedsNoWrite = (call : Call) × (calls : List Call) × (is_over call ≡ true) × Spoils IsSilent (call ∷ calls)

-- which of these premises of an instruction of a call are asked
pub record Asked : Type 0 where
  pub rests : Bool
  pub free : Bool
  pub count : Bool
  pub answered : Bool

-- `Does`, where some aren't asked
pub record DoesBy (asked : Asked) (R : List ℕ) (held : ℕ → ℕ) (call : Call) (older : List Bus) (cells : Cells)
    (list : List Turn) : Type 0 where
  pub unfinished : is_over call ≡ false
  pub goes : at_return call.from.s (now call) ≡ false
  pub rests : Where asked.rests (Rests cells (now call))
  pub free : Where asked.free (cells.due ≡ 0)
  pub placed : IsPlaced (now call)
  pub single : is_single (instr_of (now call)) ≡ true
  pub count : Where asked.count
      (length (cycles_of (at_rest held older cells) list) ≡ cycles (instr_of (now call)))
  pub answered : Where asked.answered (AreFound (now call) true (at_rest held older cells) list)
  pub given : AreGiven R (at_rest held older cells) list

-- all of them
abbrev pub all : Asked
all = record { rests = true; free = true; count = true; answered = true }

abbrev pub AllIsDoes : Type 0
AllIsDoes = (R : List ℕ) (held : ℕ → ℕ) (call : Call) (older : List Bus) (cells : Cells) (list : List Turn)
    → DoesBy all R held call older cells list → Does R held call older cells list

-- after a run there are cycles that meet these premises of an instruction of its newest call, with which it has no log
abbrev pub Misleads : Asked → Type 0
Misleads asked = (call : Call) × (calls : List Call) × (older : List Bus) × (cells : Cells) × (list : List Turn)
    × IsPlayed zeros zeros held (call ∷ calls) older cells × IsSession (later 1 call ∷ calls)
    × DoesBy asked zeros held call older cells list
    × NoLog (later 1 call ∷ calls) (older_after held older cells list)

-- the cells have to rest with the call's registers; no NMI may be due; they have to have as many cycles as the instruction
-- takes; and memory has to answer as the call has it
abbrev pub NeedsRests : Type 0
NeedsRests = Misleads (record all { rests = false })

abbrev pub NeedsFree : Type 0
NeedsFree = Misleads (record all { free = false })

abbrev pub NeedsCount : Type 0
NeedsCount = Misleads (record all { count = false })

abbrev pub NeedsAnswers : Type 0
NeedsAnswers = Misleads (record all { answered = false })

-- if there are calls, they are a session
abbrev pub AreCalls : List Call → Type 0
AreCalls [] = Unit {0}
AreCalls (call ∷ calls) = IsSession (call ∷ calls)

-- of each call what is checked holds
abbrev pub AreChecked : List ℕ → List Call → Type 0
AreChecked R [] = Unit {0}
AreChecked R (call ∷ calls) = IsChecked R call.routine × AreChecked R calls

-- in each clock the jumper is set for the ROM, and what the pins have are bytes
abbrev pub AreWired : List ℕ → List Bus → Type 0
AreWired R [] = Unit {0}
AreWired R (bus ∷ older) = (bus.big ≡ bit (not (length R == 2048))) × (bus.rom < 256) × (bus.d < 256) × AreWired R older

-- what follows from a log as `cells_keep` says, so that without it there is none
pub record Premises (R image : List ℕ) (held : ℕ → ℕ) (calls : List Call) (clocks : List Bus) : Type 0 where
  pub rom : IsRom R
  pub is_image : IsImage image
  pub first : (a : ℕ) → a < 2048 → held a ≡ slice_index image a
  pub session : AreCalls calls
  pub checked : AreChecked R calls
  pub shares : HaveRam calls (after held clocks)
  pub wired : AreWired R clocks

abbrev pub PremisesFollow : Type 0
PremisesFollow = (R image : List ℕ) (held : ℕ → ℕ) (calls : List Call) (clocks : List Bus)
    → CallsKeepHeadline R image held calls clocks → Premises R image held calls clocks
