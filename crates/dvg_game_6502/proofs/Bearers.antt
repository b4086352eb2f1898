-- What bears the calls of a processor that plays: a log of its accesses, or a board's clocks. A play's stages, and each
-- step of them, are of any bearer.
use Rattle.std.specs.Prelude.{◌≡◌, ℕ, ◌<◌, ◌≤◌, Bool, true, false, List, [], ◌∷◌, ◌++◌, Some}
use Rattle.dvg_frame.specs.Ops.{IsDraft}
use Rattle.dvg_frame.specs.Faults.{Accepts}
use Rattle.dvg_calls_6502.specs.Processor.{Cpu, Access, at_return}
use Rattle.dvg_calls_6502.specs.Amid.{changed, guards, is_code, is_kept}
use Rattle.dvg_calls_6502.specs.Board.{is_ram, seen}
use Rattle.dvg_calls_6502.specs.Routines.{Enters, Labs}
use Rattle.dvg_calls_6502.specs.Calls.{Routine, Offer, Puts, Call, after, bounds, entry, frame_of, is_offered}
use Rattle.dvg_calls_6502.specs.Calls.{is_over, is_table, is_taken, IsSessionBy, UnlessReset}
use Rattle.dvg_calls_6502.specs.Programs.{CallBrings}
use Rattle.dvg_game_rules.specs.Kinds.{kind_of}
use Rattle.dvg_game_rules.specs.Machine.{State}
use Rattle.dvg_game_rules.specs.Safe.{IsSafeBy}
use Rattle.dvg_game_rules.specs.Alike.{of_cpu}
use Rattle.dvg_game_6502.specs.Play.{IsByteWide, done, fresh}
use Rattle.dvg_game_6502.specs.Open.{InRom, IsIn, IsOpen, Rested}

-- what is offered is checked
abbrev pub IsChecked : List ℕ → Routine → Type 0
IsChecked R (Offer F) = IsDraft F × Accepts F R
IsChecked R routine = Unit {0}

-- the call where its bearer has it end: at its RTS, or where its answer was decided
pub record Ended (R : List ℕ) (calls : List Call) (call : Call) : Type 0 where
  pub last : Call
  pub routine_is : last.routine ≡ call.routine
  pub from_is : last.from ≡ call.from
  pub session : IsSessionBy (CallBrings R) (last ∷ calls)
  pub over : is_over last ≡ true
  pub kept : (b : ℕ) → is_kept (is_table call calls) b ≡ true → (after call).mem b ≡ (after last).mem b
  pub taken : call.routine ≡ Puts Labs → (rest : List ℕ) → frame_of calls ≡ Some (0, rest) → is_taken last ≡ true

pub record Bearer (R : List ℕ) : Type 1 where
  pub World : Type 0
  -- the driver's code makes these accesses
  pub Makes : List Access → World → World → Type 0
  -- these calls are over, and the game's memory is this
  pub Between : List Call → (ℕ → ℕ) → World → Type 0
  -- in a call of this routine, which began with this S after these calls, and has accessed this
  pub Amid : Routine → ℕ → List Call → Cpu → List Access → World → Type 0
  pub nothing : (w v : World) → Makes [] w v → w ≡ v
  pub is_open : (routine : Routine) (s : ℕ) (calls : List Call) (cpu : Cpu) (mine : List Access) (w : World)
      → Amid routine s calls cpu mine w → IsOpen R routine s calls cpu mine
  -- a memory with the same vector RAM is as good, and so is an instruction that the checker's soundness allows
  pub keeps : (calls : List Call) (mem now : ℕ → ℕ) (w : World) → ((b : ℕ) → is_ram b ≡ true → now b ≡ mem b)
      → Between calls mem w → Between calls now w
  pub aside : (calls : List Call) (cpu : Cpu) (st : State) (flags : ℕ → ℕ) (w : World) → IsByteWide cpu
      → IsSafeBy (kind_of (cpu.mem cpu.pc)) (of_cpu cpu st) → Between calls cpu.mem w
      → Between calls (done flags cpu).mem w
  -- a call begins
  pub begins : (routine : Routine) (cpu : Cpu) (calls : List Call) (w : World)
      → UnlessReset routine (Rested R calls cpu.mem) → ((flags : ℕ → ℕ) → Enters (fresh flags cpu) (entry routine))
      → ((flags : ℕ → ℕ) → CallBrings R routine (fresh flags cpu) (frame_of calls)) → IsChecked R routine
      → ((b : ℕ) → (bounds calls).0 ≤ b → b < (bounds calls).1 → InRom b)
      → ((b : ℕ) → is_offered routine cpu b ≡ true → InRom b) → Between calls cpu.mem w
      → Amid routine cpu.s calls cpu [] w
  -- an instruction of the driver, up to its RTS
  pub steps : (routine : Routine) (s : ℕ) (calls : List Call) (cpu : Cpu) (mine : List Access) (w v : World)
      (flags : ℕ → ℕ) → IsByteWide cpu → is_code cpu.pc ≡ true → at_return s cpu ≡ false
      → Makes (seen (done flags cpu).log) w v → Amid routine s calls cpu mine w
      → Amid routine s calls (done flags cpu) ((done flags cpu).log ++ mine) v
  -- others that leave what is guarded, of any tables in the ROM
  pub passes : (routine : Routine) (s : ℕ) (calls : List Call) (cpu : Cpu) (mine : List Access) (w : World) (m : ℕ → ℕ)
      → ((tables : ℕ → Bool) → ((b : ℕ) → tables b ≡ true → InRom b)
      → (b : ℕ) → guards (is_kept tables) s cpu.s b ≡ true → m b ≡ cpu.mem b)
      → Amid routine s calls cpu mine w → Amid routine s calls (changed m cpu) mine w
  -- the flag and the log are none of it
  pub refreshes : (routine : Routine) (s : ℕ) (calls : List Call) (cpu : Cpu) (mine : List Access) (w : World)
      (flags : ℕ → ℕ) → Amid routine s calls cpu mine w → Amid routine s calls (fresh flags cpu) mine w
  -- its RTS
  pub returns : (routine : Routine) (s : ℕ) (calls : List Call) (cpu : Cpu) (mine : List Access) (w : World)
      → is_code cpu.pc ≡ true → at_return s cpu ≡ true → Amid routine s calls cpu mine w
      → (is : IsIn R routine s calls cpu mine (λ n. 0)) × (end : Ended R calls is.call)
      × Between (end.last ∷ calls) cpu.mem w
