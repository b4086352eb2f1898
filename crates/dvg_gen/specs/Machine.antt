-- What contracts see of a generator, and after which histories it stands.
use Rattle.std.specs.Prelude.{◌≡◌, ℕ, ◌+◌, ◌<◌, List, [], ◌∷◌, length, slice_index, Option, Some, None, Bool, true}
use Rattle.std.specs.Prelude.{false, All, IfSome, IsSome}
use Rattle.dvg_code.specs.Spelling.{IsFirst}
use Rattle.dvg_gen.specs.declared.beam.Beam.{Beam}
use Rattle.dvg_gen.specs.declared.stroke.Stroke.{Stroke}
use Rattle.dvg_gen.specs.declared.taken.Step.{Step}
use Rattle.dvg_gen.specs.declared.taken.Step.TheVariants.{Low, Word, Done, Broke}
use Rattle.dvg_gen.specs.declared.taken.Taken.{Taken}
use Rattle.dvg_gen.specs.declared.taken.Taken.TheVariants as taken
use Rattle.dvg_gen.specs.Run.{past_call, wanted, calls, returns, beam_after, strokes}
use Rattle.dvg_gen.specs.Told.{Told, Fed, Newest, Leaves, Reply, More, Drew, Fails, reply}
use Rattle.dvg_gen.specs.Bytes.{Met, Waits, Whole}

-- the address of the next word, the first word of its instruction and its low byte where they were fetched, the return
-- addresses, newest first, the beam, the run's strokes so far, those of the newest run that came to a HALT, until they
-- are taken, and whether a run is open
pub record Machine : Type 0 where
  pub at : ℕ
  pub held : Option ℕ
  pub low : Option ℕ
  pub stack : List ℕ
  pub beam : Beam
  pub strokes : List Stroke
  pub picture : List Stroke
  pub is_open : Bool

-- what a generator keeps: its addresses have twelve bits, and a word that it holds wants a second one
pub record IsKept (at : ℕ) (held : Option ℕ) (stack : List ℕ) : Type 0 where
  pub at_is_address : at < 4096
  pub held_is_first : IfSome held IsFirst
  pub stack_is_addresses : All (λ address. address < 4096) stack

-- a low byte waits in an open run alone
abbrev pub WaitsInRun : (has_low is_open : Bool) → Type 0
WaitsInRun true is_open = is_open ≡ true
WaitsInRun false is_open = Unit {0}

-- a machine is in an open run: it is at the run's next word, and its stack has the address past
-- each call that is still open
pub record IsInRun (machine : Machine) (run : Newest) : Type 0 where
  pub at : machine.at ≡ wanted run.visits run.held
  pub held : machine.held ≡ run.held
  pub strokes : machine.strokes ≡ strokes run.first run.visits
  pub count : calls run.visits ≡ returns run.visits + length machine.stack
  pub brackets : (k : ℕ) → k < length machine.stack → slice_index machine.stack k ≡ past_call k run.visits

-- a machine stands at a run: its beam is the one that all instructions so far left and, if the run
-- is open, the machine is in that run
pub record IsAtRun (machine : Machine) (run : Newest) : Type 0 where
  pub is_open : machine.is_open ≡ run.is_open
  pub beam : machine.beam ≡ beam_after run.first run.visits
  pub running : run.is_open ≡ true → IsInRun machine run

-- a machine stands after a history of words and a low byte that waits after them: it stands at the run that the words
-- leave, and has that low byte, for which the run is open
pub record HasTaken (machine : Machine) (history : List Told) (waiting : Option ℕ) : Type 0 where
  pub run : Newest
  pub leaves : Leaves history run
  pub stands : IsAtRun machine run
  pub low : machine.low ≡ waiting
  pub waits : IsSome waiting → run.is_open ≡ true

-- the answer to a fetch that led to this step, by the picture after it; none to a low byte
abbrev pub answer_by : Step → List Stroke → Option Reply
answer_by Low picture = None
answer_by Word picture = Some More
answer_by Done picture = Some (Drew picture)
answer_by (Broke fault) picture = Some (Fails fault)

-- the same by an answer that has the strokes of a finished run with it
abbrev pub answer_of : {A : Type 0} → Taken A → Option Reply
answer_of taken.Low = None
answer_of taken.Word = Some More
answer_of (taken.Done strokes) = Some (Drew strokes.items)
answer_of (taken.Broke fault) = Some (Fails fault)

-- a machine stands after a history and one more fetch, which met this, with the answer that the definition gives to it:
-- a low byte waits, and a word or a hole is told
abbrev pub Answers : List Told → Met → Machine → Option Reply → Type 0
Answers history (Waits byte) machine answer = HasTaken machine history (Some byte) × (answer ≡ None)
Answers history (Whole word) machine answer = (after : HasTaken machine (Fed word ∷ history) None)
    × (answer ≡ Some (reply word after.run))

-- the run goes on with this answer
abbrev pub IsOnward : Option Reply → Type 0
IsOnward None = Unit {0}
IsOnward (Some More) = Unit {0}
IsOnward _ = ⊥

-- the picture after a step from this machine: a HALT makes it of the run's strokes, and else it stays
abbrev pub picture_after : Step → Machine → List Stroke
picture_after Done old = old.strokes
picture_after _ old = old.picture

-- the picture after such an answer, which hands it out
abbrev pub left_by : {A : Type 0} → Taken A → List Stroke → List Stroke
left_by (taken.Done strokes) picture = []
left_by _ picture = picture
