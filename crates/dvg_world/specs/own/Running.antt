-- Several lines more, all of one event: the words of private contracts.
use Rattle.std.specs.Prelude.{◌≡◌, ◌+◌, ◌<◌, ◌++◌, ◌∷◌, ℕ, List, length, map, None, replicate, Vec}
use Rattle.dvg_gen.specs.declared.stroke.Stroke.{Stroke}
use Rattle.dvg_log.specs.Entries.{Shown, drew_in, shown_of}
use Rattle.dvg_log.specs.declared.entry.Entry.{Entry}
use Rattle.dvg_log.specs.Events.{Happening}
use Rattle.dvg_log.specs.declared.event.Event.TheVariants.{Offer}
use Rattle.dvg_log.specs.Log.{Log, ◌⟼◌, events_of}
use Rattle.dvg_world.specs.Keeping.{entries_in}
use Rattle.dvg_world.specs.Standing.{State, WorldAfter}
use Rattle.dvg_world.specs.Wanting.{TakesMemory}

-- the world stands after a longer log, by so many lines of this event, and what is kept of it is so
pub record AddsRun (R image : List ℕ) (log : Log) (event : Happening) (times : ℕ) (IsKept : Log → Type 0) (world : State)
    : Type 0 where
  pub later : Log
  pub after : WorldAfter R image later world
  pub events : events_of later ≡ replicate times event ++ events_of log
  pub count : length later ≡ times + length log
  pub kept : IsKept later

-- it does so by fewer lines, and then the event takes memory
pub record StopsRun (R image : List ℕ) (log : Log) (event : Happening) (times : ℕ) (IsKept : Log → Type 0)
    (world : State) : Type 0 where
  pub done : ℕ
  pub before : done < times
  pub run : AddsRun R image log event done IsKept world
  pub takes : TakesMemory R image run.later event

-- an offer, of whose entry nothing is kept
abbrev pub IsPassedOver : (Log → Type 0) → Happening → Type 0
IsPassedOver IsKept (Offer F) = (log : Log) (entry : Shown) → drew_in entry ≡ None → IsKept log
    → IsKept ((Offer F ⟼ entry) ∷ log)
IsPassedOver IsKept event = ⊥

-- after each log that the world stands after, of so many lines and of which this is kept, so many lines more are added
abbrev pub KeepsRun : State → (Log → Type 0) → (number : ℕ) → Happening → (times : ℕ) → State → (Log → Type 0) → Type 0
KeepsRun old IsKept number event times new Later = (R image : List ℕ) (log : Log) → WorldAfter R image log old
    → IsKept log → length log ≡ number → AddsRun R image log event times Later new

-- or fewer, and then the event takes memory
abbrev pub StopsKeeping : State → (Log → Type 0) → (number : ℕ) → Happening → (times : ℕ) → State → (Log → Type 0)
    → Type 0
StopsKeeping old IsKept number event times new Later = (R image : List ℕ) (log : Log) → WorldAfter R image log old
    → IsKept log → length log ≡ number → StopsRun R image log event times Later new

-- the entries of a log are owned
abbrev pub AreOwned : {A : Type 0} → List (Entry (Vec Stroke A)) → Log → Type 0
AreOwned entries log = map shown_of entries ≡ entries_in log
