-- A run that is followed: the words of private contracts.
use Rattle.std.specs.Prelude.{◌≡◌, ℕ, List, Option, None, Bool, true}
use Rattle.dvg_gen.specs.Bytes.{Whole}
use Rattle.dvg_gen.specs.Machine.{Machine, HasTaken, Answers}
use Rattle.dvg_gen.specs.Run.{Visit, Goes, fate, Runs}
use Rattle.dvg_gen.specs.Told.{Told, Newest, Reply, nothing}
use Rattle.dvg_dump.specs.declared.ran.Ran.{Ran}
use Rattle.dvg_dump.specs.Ends.{End, Ends}
use Rattle.dvg_dump.specs.Traces.{trace_if}

-- a first run that is open
abbrev pub opened : List Visit → Option ℕ → Newest
opened visits held = record { first = nothing.first; visits = visits; held = held; is_open = true }

-- a generator is in an open run over a memory, after so many words, with these instructions, and holds this first word
pub record FollowsRun (memory : ℕ → Option ℕ) (machine : Machine) (words : ℕ) (visits : List Visit)
    (held : Option ℕ) : Type 0 where
  pub history : List Told
  pub after : HasTaken machine history None
  pub run : after.run ≡ opened visits held
  pub runs : Runs memory words visits held
  pub goes : fate visits ≡ Goes

-- a whole word or a hole was told, with the answer that the definition gives to it
abbrev pub TakesWord : Machine → Option ℕ → Machine → Option Reply → Type 0
TakesWord old word new answer = (history : List Told) → HasTaken old history None
    → Answers history (Whole word) new answer

-- a run over a memory, of which these instructions are recorded, ends so
abbrev pub TellsRun : Bool → (ℕ → Option ℕ) → List Ran → End → Type 0
TellsRun traces memory ran end = (visits : List Visit) × Ends memory visits end × (ran ≡ trace_if traces memory visits)
