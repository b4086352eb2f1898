-- What a generator was told since it was made, newest first, and the run that this leaves.
use Rattle.std.specs.Prelude.{◌≡◌, ℕ, List, [], ◌∷◌, Option, Some, None, Bool, true, false, if◌then◌else◌}
use Rattle.dvg_gen.specs.declared.beam.Beam.{Beam}
use Rattle.dvg_gen.specs.declared.stroke.Stroke.{Stroke}
use Rattle.dvg_gen.specs.declared.taken.GenFault.{GenFault}
use Rattle.dvg_gen.specs.declared.taken.GenFault.TheVariants.{Hole}
use Rattle.dvg_gen.specs.Run.{Visit, Fate, Goes, Finished, Breaks, Adds, fate, beam_after, strokes, wanted}

-- a start, a reset, or a fetch of a word or of a hole
pub data Told : Type 0 where
  Start : Told
  Reset : Told
  Fed : Option ℕ → Told

-- the newest run: the beam that it began with, its instructions, the first word that it holds, and whether it is open
pub record Newest : Type 0 where
  pub first : Beam
  pub visits : List Visit
  pub held : Option ℕ
  pub is_open : Bool

-- before anything was told: no run is open, and the beam is at 0, 0 with scale 0
abbrev pub nothing : Newest
nothing = record { first = record { x = 0; y = 0; scale = 0 }; visits = []; held = None; is_open = false }

-- a new run, with the beam where the one before left it
abbrev pub begun : Newest → Newest
begun run = record { first = beam_after run.first run.visits; visits = []; held = None; is_open = true }

-- the run is over, and what it did to the beam stays
abbrev pub stopped : Newest → Newest
stopped run = record { first = run.first; visits = run.visits; held = run.held; is_open = false }

-- whether a run is open after its newest instruction
abbrev pub goes_on : Fate → Bool
goes_on Goes = true
goes_on _ = false

-- the run with one more word
abbrev pub grown : Newest → List Visit → Option ℕ → Newest
grown run visits held = record { first = run.first; visits = visits; held = held; is_open = goes_on (fate visits) }

-- the run that a history leaves
pub data Leaves : List Told → Newest → Type 0 where
  new : Leaves [] nothing
  starts : {history : List Told} {run : Newest} → Leaves history run → Leaves (Start ∷ history) (begun run)
  resets : {history : List Told} {run : Newest} → Leaves history run → Leaves (Reset ∷ history) (stopped run)
  meets_hole : {history : List Told} {run : Newest} → Leaves history run → run.is_open ≡ true
      → Leaves (Fed None ∷ history) (stopped run)
  takes : {history : List Told} {run : Newest} {word : ℕ} {visits : List Visit} {held : Option ℕ} → Leaves history run
      → run.is_open ≡ true
      → Adds run.visits run.held word visits held → Leaves (Fed (Some word) ∷ history) (grown run visits held)

-- the answer to a fetch: the run goes on, it is finished with these strokes, or it breaks
pub data Reply : Type 0 where
  More : Reply
  Drew : List Stroke → Reply
  Fails : GenFault → Reply

-- the answer by the first word that the run holds after the fetch, the run's fate and its strokes
abbrev pub reply_by : Option ℕ → Fate → List Stroke → Reply
reply_by None Finished drew = Drew drew
reply_by None (Breaks fault) drew = Fails fault
reply_by held fate drew = More

-- the answer to the newest fetch of a history that leaves this run
abbrev pub reply : Option ℕ → Newest → Reply
reply None run = Fails Hole
reply (Some word) run = reply_by run.held (fate run.visits) (strokes run.first run.visits)

-- the address of the next word after a history that leaves this run, where it is open
abbrev pub wants : Newest → Option ℕ
wants run = if run.is_open then Some (wanted run.visits run.held) else None
