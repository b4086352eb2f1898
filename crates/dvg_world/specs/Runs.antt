-- What `run` answers.
use Rattle.std.specs.Prelude.{◌≡◌, ℕ, ◌⊎◌, List, map, reverse, Some, slice_get, Result, Ok, Err, Vec}
use Rattle.std.specs.List.{zip}
use Rattle.dvg_world.specs.declared.stopped.Stopped.{Stopped}
use Rattle.dvg_log.specs.Events.{Happening}
use Rattle.dvg_gen.specs.declared.stroke.Stroke.{Stroke}
use Rattle.dvg_log.specs.declared.entry.Entry.{Entry}
use Rattle.dvg_log.specs.Entries.{shown_of}
use Rattle.dvg_log.specs.Log.{Log, ◌⟼◌}
use Rattle.dvg_world.specs.Wanting.{TakesMemory}

-- the entries that were answered, oldest first: all, or those of the events before the one at which the run stopped
abbrev pub entries_of : {A : Type 0} → Result (Vec (Entry (Vec Stroke A)) A) (Stopped A) → List (Entry (Vec Stroke A))
entries_of (Ok entries) = entries.items
entries_of (Err stopped) = stopped.entries.items

-- the log of the events that have an entry, each with its own
abbrev pub log_of : {A : Type 0} → List Happening → List (Entry (Vec Stroke A)) → Log
log_of events entries = reverse (map (λ line. line.0 ⟼ shown_of line.1) (zip events entries))

-- the log of the events and the answer
abbrev pub log_by : {A : Type 0} → List Happening → Result (Vec (Entry (Vec Stroke A)) A) (Stopped A) → Log
log_by events answer = log_of events (entries_of answer)

-- the run stopped before the first event, or at an event that takes memory
abbrev pub IsStop : {A : Type 0} → List ℕ → List ℕ → List Happening → Stopped A → Type 0
IsStop R image events stopped = (stopped.event ≡ 0) ⊎ ((event : Happening)
    × (slice_get events stopped.event ≡ Some event) × TakesMemory R image (log_of events stopped.entries.items) event)
