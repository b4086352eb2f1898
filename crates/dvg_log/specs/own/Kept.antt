-- What a trace keeps.
use Rattle.std.specs.Prelude.{◌≡◌, ◌+◌, ◌*◌, ◌<◌, ◌≤◌, ◌∷◌, [], ◌++◌, ℕ, List, All, length, get_or, replicate, slice_get}
use Rattle.std.specs.Prelude.{Option, Some, None}
use Rattle.std.specs.List.{sum_by}
use Rattle.dvg_mem.specs.declared.TheConstants.{MEMORY_BYTES}
use Rattle.dvg_frame.specs.declared.draft.TheConstants.{MAX_OPS}
use Rattle.dvg_frame.specs.declared.op.OpKind.{OpKind}
use Rattle.dvg_frame.specs.Ops.{IsOp}
use Rattle.dvg_log.specs.declared.event.Event.{Event}
use Rattle.dvg_log.specs.declared.event.Event.TheVariants.{Offer, ResetAll}
use Rattle.dvg_log.specs.declared.runs.Run.{Run}
use Rattle.dvg_log.specs.declared.trace.TheConstants.{MOST_EVENTS}
use Rattle.dvg_log.specs.Traces.{Step}

-- an offer's operations are among all of them, and a draft can hold them
abbrev pub IsOfferIn : List OpKind → ℕ × ℕ → Type 0
IsOfferIn ops range = (range.0 + range.1 ≤ length ops) × (range.1 ≤ MAX_OPS)

-- an offer is one of so many, and a reset's image one of so many
abbrev pub IsWithin : (offers images : ℕ) → Step → Type 0
IsWithin offers images (Offer number) = number < offers
IsWithin offers images (ResetAll number) = number < images
IsWithin offers images step = Unit {0}

-- the event brings neither a draft nor an image
abbrev pub BringsNothing : {D I : Type 0} → Event D I → Type 0
BringsNothing (Offer draft) = ⊥
BringsNothing (ResetAll image) = ⊥
BringsNothing event = Unit {0}

-- an event that happens, among so many offers and images
abbrev pub IsRunIn : (offers images : ℕ) → Run → Type 0
IsRunIn offers images run = (1 ≤ run.times) × IsWithin offers images run.step

-- runs, the places of their offers among these operations, each of which a draft may hold, and the
-- images of their resets
pub record AreRuns (runs : List Run) (offers : List (ℕ × ℕ)) (ops : List OpKind) (images : List (List ℕ)) : Type 0 where
  pub valid : All IsOp ops
  pub lie : All (IsOfferIn ops) offers
  pub within : All (IsRunIn (length offers) (length images)) runs

-- where a byte has a number, the image of this number has the byte everywhere
pub record AreFilled (numbers : List (Option ℕ)) (images : List (List ℕ)) : Type 0 where
  pub found : (byte n : ℕ) → get_or numbers byte None ≡ Some n → slice_get images n ≡ Some (replicate MEMORY_BYTES byte)

-- what a trace of so many events keeps
pub record IsTrace (count : ℕ) (runs : List Run) (offers : List (ℕ × ℕ)) (ops : List OpKind) (images : List (List ℕ))
    (numbers : List (Option ℕ)) : Type 0 where
  pub are : AreRuns runs offers ops images
  pub total : count ≡ sum_by (λ run. run.times) runs
  pub most : count ≤ MOST_EVENTS
  pub some : length runs ≤ count
  pub offered : length offers ≤ length runs
  pub few : length ops ≤ MAX_OPS * length runs
  pub reset : length images ≤ length runs
  pub filled : AreFilled numbers images

-- the last run, which is of this step, comes so many times more
pub record IsLonger (old new : List Run) (step : Step) (times : ℕ) : Type 0 where
  pub front : List Run
  pub before : ℕ
  pub was : old ≡ front ++ record { step = step; times = before } ∷ []
  pub is : new ≡ front ++ record { step = step; times = before + times } ∷ []
