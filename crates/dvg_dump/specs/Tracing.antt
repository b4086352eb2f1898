-- What follows a run beside its generator: the words of private contracts.
use Rattle.std.specs.Prelude.{◌≡◌, ◌<◌, ◌+◌, ℕ, List, [], ◌∷◌, ◌++◌, Option, Some, None, Bool, true, false}
use Rattle.dvg_gen.specs.declared.beam.Beam.{Beam}
use Rattle.dvg_gen.specs.Machine.{Machine}
use Rattle.dvg_gen.specs.Run.{Visit, next, wanted, beam_after, Adds, Runs}
use Rattle.dvg_gen.specs.Told.{Reply, More, Drew, Fails, nothing}
use Rattle.dvg_dump.specs.declared.ran.Ran.{Ran}
use Rattle.dvg_dump.specs.declared.tracer.Spelled.{Spelled}
use Rattle.dvg_dump.specs.Ends.{Ends, Complete, Broken}
use Rattle.dvg_dump.specs.Following.{FollowsRun}
use Rattle.dvg_dump.specs.Traces.{run_at, trace, trace_if}

-- what a tracer keeps: whether it traces, the first word that it holds, the address where an instruction began, the
-- beam, and what was recorded
pub record Trail : Type 0 where
  pub traces : Bool
  pub held : Option ℕ
  pub address : ℕ
  pub beam : Beam
  pub ran : List Ran

-- of a run that begins
abbrev pub fresh : Bool → Trail
fresh traces = record { traces = traces; held = None; address = 0; beam = nothing.first; ran = [] }

-- where the instruction began to which a word at an address belongs, by the first word that is held and where the
-- newest one began
abbrev pub began : Option ℕ → ℕ → ℕ → ℕ
began None address newest = address
began (Some first) address newest = newest

-- what is recorded of an instruction that was read
abbrev pub ran_by : Trail → Spelled → Ran
ran_by trail read = run_at trail.address read.code read.canonical trail.beam

-- with an instruction more
abbrev pub recorded : Trail → Ran → Trail
recorded trail ran = record {
  traces = trail.traces;
  held = None;
  address = trail.address;
  beam = ran.beam;
  ran = trail.ran
      ++ ran ∷ [];
}

-- after a word that completes an instruction, or is held
abbrev pub taken_by : Option Spelled → ℕ → Trail → Trail
taken_by None word trail = record trail { held = Some word }
taken_by (Some read) word trail = recorded trail (ran_by trail read)

-- the words that were fetched of an instruction
abbrev pub words_by : Option ℕ → ℕ → List ℕ
words_by None word = word ∷ []
words_by (Some first) word = first ∷ word ∷ []

-- the tracer is where the run is: it holds the same first word, has the same beam, and has
-- recorded the run's instructions
pub record IsBeside (memory : ℕ → Option ℕ) (visits : List Visit) (held : Option ℕ) (trail : Trail) : Type 0 where
  pub held_is : trail.held ≡ held
  pub address_is : (first : ℕ) → held ≡ Some first → trail.address ≡ next visits
  pub beam_is : trail.beam ≡ beam_after nothing.first visits
  pub ran_is : trail.ran ≡ trace memory visits

-- it is, if it traces; else it has recorded nothing
pub record Traces (traces : Bool) (memory : ℕ → Option ℕ) (visits : List Visit) (held : Option ℕ)
    (trail : Trail) : Type 0 where
  pub flag : trail.traces ≡ traces
  pub beside : traces ≡ true → IsBeside memory visits held trail
  pub silent : traces ≡ false → trail.ran ≡ []

-- a word more of a run over a memory, which was fetched at an address
pub record Fetches (memory : ℕ → Option ℕ) (address word : ℕ) (visits : List Visit) (held : Option ℕ)
    (visits' : List Visit) (held' : Option ℕ) : Type 0 where
  pub words : ℕ
  pub runs : Runs memory words visits held
  pub address_is : address ≡ wanted visits held
  pub there : memory address ≡ Some word
  pub adds : Adds visits held word visits' held'

-- the tracer is still where the run is after a word more; a hole changes nothing
abbrev pub TracesWord : ℕ → Option ℕ → Trail → Trail → Type 0
TracesWord address None old new = new ≡ old
TracesWord address (Some word) old new = (traces : Bool) (memory : ℕ → Option ℕ) (visits visits' : List Visit)
    (held held' : Option ℕ)
    → Fetches memory address word visits held visits' held' → Traces traces memory visits held old
    → Traces traces memory visits' held' new

-- the run over a memory after a word more, by the answer: it goes on, or that was how it ends; and
-- what was recorded then
abbrev pub Stepped : (memory : ℕ → Option ℕ) → Bool → (words address : ℕ) → Machine → Trail → Option Reply → Type 0
Stepped memory traces words address machine trail None = ⊥
Stepped memory traces words address machine trail (Some More) =
    (visits : List Visit) × (held : Option ℕ) × FollowsRun memory machine (words + 1) visits held
    × Traces traces memory visits held trail
Stepped memory traces words address machine trail (Some (Drew list)) =
    (visits : List Visit) × Ends memory visits (Complete (words + 1) list)
    × (trail.ran ≡ trace_if traces memory visits)
Stepped memory traces words address machine trail (Some (Fails fault)) =
    (visits : List Visit) × Ends memory visits (Broken address fault) × (trail.ran ≡ trace_if traces memory visits)

-- a generator and a tracer that follow a run follow it a word more
abbrev pub Steps : (memory : ℕ → Option ℕ) → (address : ℕ) → Machine → Trail → Machine → Trail → Option Reply → Type 0
Steps memory address old trail new trail' answer = (traces : Bool) (words : ℕ) (visits : List Visit) (held : Option ℕ)
    → words < 65536 → address ≡ wanted visits held
    → FollowsRun memory old words visits held → Traces traces memory visits held trail
    → Stepped memory traces words address new trail' answer
