-- What a game plays is calls of the driver.
use Rattle.std.specs.Prelude.{◌≡◌, ◌⊎◌, ◌&&◌, ℕ, ◌+◌, ◌*◌, ◌≤◌, Bool, true, false, not, nat_eq, List}
use Rattle.std.specs.Prelude.{[], ◌∷◌, ◌++◌, length}
use Rattle.dvg_frame.specs.declared.op.OpKind.{OpKind}
use Rattle.dvg_frame.specs.Ops.{IsDraft, IsOp}
use Rattle.dvg_frame.specs.Faults.{Accepts}
use Rattle.dvg_calls_6502.specs.Processor.{Cpu, Access, word_at}
use Rattle.dvg_calls_6502.specs.Amid.{is_code}
use Rattle.dvg_calls_6502.specs.Board.{seen}
use Rattle.dvg_calls_6502.specs.Build.{IsPut}
use Rattle.dvg_driver.specs.Script.{Item, IsLife}
use Rattle.dvg_calls_6502.specs.Calls.{Call, after, IsLifeOf, IsSession, IsSessionBy}
use Rattle.dvg_calls_6502.specs.Code.{dvg_offer, dvg_pair, dvg_put}
use Rattle.dvg_calls_6502.specs.Programs.{AreBuilt, CallBrings}
use Rattle.dvg_calls_6502.specs.Tables.{HasTable, table_of}
use Rattle.dvg_game_rules.specs.Alike.{idle}
use Rattle.dvg_game_rules.specs.Checker.{Notes, accepts, all_under, first, places}
use Rattle.dvg_game_rules.specs.Kinds.{Kind, Jump, Call as CallKind, kind_of}
use Rattle.dvg_game_rules.specs.Machine
use Rattle.dvg_game_rules.specs.Machine.{calls_driver}
use Rattle.dvg_game_6502.specs.Play.{IsPlay}

-- the next instruction of the game calls this routine of the driver
abbrev pub Enters : ℕ → Cpu → Type 0
Enters entry cpu = (is_code cpu.pc ≡ false) × (calls_driver (idle cpu) ≡ true)
    × (word_at cpu.mem (cpu.pc + 1) (cpu.pc + 2) ≡ entry)

-- the word in A and X is that of an operation which the program may put, as a call of a shape
pub record IsWord (R : List ℕ) (cpu : Cpu) : Type 0 where
  pub op : OpKind
  pub word : cpu.a ∷ cpu.x ∷ [] ≡ table_of (op ∷ [])
  pub put : IsPut R op
  pub is_op : IsOp op

-- at A and X stands a draft's table, in the ROM, and the check accepts the draft
pub record IsTable (R : List ℕ) (rom : ℕ → ℕ) (cpu : Cpu) : Type 0 where
  pub draft : List OpKind
  pub table : HasTable rom (cpu.a + 256 * cpu.x) draft
  pub low : 0x4800 ≤ cpu.a + 256 * cpu.x
  pub ends : cpu.a + 256 * cpu.x + 2 + length (table_of draft) ≤ 0x8000
  pub checked : IsDraft draft × Accepts draft R

-- on each run, each time: what is offered is the table of a draft that the check accepts, in the ROM; what is put is the
-- word of an operation; and nothing is put by dvg_pair. That is what the checker doesn't look at
pub record Content (R : List ℕ) (rom : ℕ → ℕ) (start : ℕ) : Type 0 where
  pub tables : {cpu : Cpu} {since : ℕ} {log : List Access} → IsPlay rom start cpu since log → Enters dvg_offer cpu
      → IsTable R rom cpu
  pub words : {cpu : Cpu} {since : ℕ} {log : List Access} → IsPlay rom start cpu since log → Enters dvg_put cpu
      → IsWord R cpu
  pub no_pair : {cpu : Cpu} {since : ℕ} {log : List Access} → IsPlay rom start cpu since log → Enters dvg_pair cpu → ⊥

-- a kind of instruction that may call the driver
abbrev pub may_call : Kind → Bool
may_call Jump = true
may_call CallKind = true
may_call kind = false

-- a JSR or a JMP to this routine stands there
abbrev pub calls_at : (rom : ℕ → ℕ) → (entry at : ℕ) → Bool
calls_at rom entry at = nat_eq (Machine.word_at rom (at + 1)) entry && may_call (kind_of (rom at))

-- and nowhere where a game's code may stand
abbrev pub never_calls : (rom : ℕ → ℕ) → ℕ → Bool
never_calls rom entry = all_under places (λ i. not (calls_at rom entry (first + i)))

-- what was accessed in all these calls, the newest first
abbrev pub accesses_of : List Call → List Access
accesses_of [] = []
accesses_of (call ∷ calls) = seen (after call).log ++ accesses_of calls

-- these are the accesses of a session of calls, or of none
abbrev pub AreOfCalls : List ℕ → List Access → Type 0
AreOfCalls R log = (log ≡ []) ⊎ ((calls : List Call) × IsSessionBy (CallBrings R) calls × (accesses_of calls ≡ log))

-- then there are drafts, of what was built, with which they are a session of the driver's laws: with the frames that
-- were taken they are a life of the driver's script
pub record Lives (R : List ℕ) (log : List Access) : Type 0 where
  pub calls : List Call
  pub session : IsSession calls
  pub built : AreBuilt R calls
  pub accesses : accesses_of calls ≡ log
  pub life : List Item
  pub of_calls : IsLifeOf calls life
  pub is_life : IsLife life

abbrev pub CallsLiveOn : Type 0
CallsLiveOn = (R : List ℕ) (log : List Access) → AreOfCalls R log → (log ≡ []) ⊎ Lives R log

-- where the checker accepts a game, and what it offers and puts is so, the driver's accesses are those of a session,
-- whatever it plays
abbrev pub GamesCall : Type 0
GamesCall = (R : List ℕ) (rom : ℕ → ℕ) (start : ℕ) (notes : Notes)
    → accepts rom start notes ≡ true → Content R rom start → (cpu : Cpu) (since : ℕ) (log : List Access)
    → IsPlay rom start cpu since log → AreOfCalls R log

-- a game that builds its frames by dvg_open, dvg_labs, dvg_vector and dvg_close alone: its bytes say so, and of what it
-- draws there is no premise
abbrev pub VectorsCall : Type 0
VectorsCall = (R : List ℕ) (rom : ℕ → ℕ) (start : ℕ) (notes : Notes)
    → accepts rom start notes ≡ true → never_calls rom dvg_offer ≡ true → never_calls rom dvg_put ≡ true
    → never_calls rom dvg_pair ≡ true → (cpu : Cpu) (since : ℕ) (log : List Access)
    → IsPlay rom start cpu since log → AreOfCalls R log
