-- What is kept of the events of a trace.
use Rattle.std.specs.Prelude.{◌≡◌, ◌≤◌, ℕ, suc, ◌⊎◌, List, [], ◌∷◌, ◌++◌}
use Rattle.std.specs.Prelude.{drop, get_or, length, replicate, reverse}
use Rattle.std.specs.Prelude.{Bool, true, false, Option, Some, None}
use Rattle.dvg_gen.specs.declared.stroke.Stroke.{Stroke}
use Rattle.dvg_log.specs.declared.entry.Entry.{Entry}
use Rattle.dvg_log.specs.declared.entry.Entry.TheVariants.{Done}
use Rattle.dvg_log.specs.Entries.{Shown, map_entry}
use Rattle.dvg_log.specs.Events.{Happening}
use Rattle.dvg_log.specs.Headline.{KeepsHeadline}
use Rattle.dvg_log.specs.Legal.{IsLegal}
use Rattle.dvg_log.specs.Log.{Log, Throughout, ◌⟼◌, events_of}
use Rattle.dvg_world.specs.declared.entries.Alike.{Alike}
use Rattle.dvg_world.specs.declared.entries.EntryRun.{EntryRun}
use Rattle.dvg_world.specs.Wanting.{TakesMemory}

-- the next event is one that takes memory
abbrev pub TakesMemoryNext : List ℕ → List ℕ → Log → (later : List Happening) → Type 0
TakesMemoryNext R image log [] = ⊥
TakesMemoryNext R image log (event ∷ later) = TakesMemory R image log event

-- no event is left; or, of a run that isn't whole, none happened, or the next one takes memory
abbrev pub IsEndOf : (is_whole : Bool) → List ℕ → List ℕ → Log → (later : List Happening) → Type 0
IsEndOf true R image log later = later ≡ []
IsEndOf false R image log later = (log ≡ []) ⊎ TakesMemoryNext R image log later

-- the events, or the first of them, have this legal log, and each of its lines keeps the headline; and what is kept of
-- it is so
pub record Happened (R image : List ℕ) (events : List Happening) (is_whole : Bool) (IsKept : Log → Type 0)
    : Type 0 where
  pub log : Log
  pub later : List Happening
  pub in_order : events ≡ reverse (events_of log) ++ later
  pub legal : IsLegal R image log
  pub headline : Throughout (KeepsHeadline R image) log
  pub kept : IsKept log
  pub ends : IsEndOf is_whole R image log later

-- the entries of a log, oldest first
abbrev pub entries_in : Log → List Shown
entries_in [] = []
entries_in ((event ⟼ entry) ∷ log) = entries_in log ++ entry ∷ []

-- the pictures of a log, oldest first: each has the number of the event that finished its run, and the strokes
abbrev pub pictures_of : Log → List (ℕ × List Stroke)
pictures_of [] = []
pictures_of ((event ⟼ Done address word strokes) ∷ log) = pictures_of log ++ (length log, strokes) ∷ []
pictures_of (line ∷ log) = pictures_of log

-- the pictures of the entries after this one: where it finished a run, the first picture is its own
abbrev pub pictures_left : Entry (Unit {0}) → List (List Stroke) → List (List Stroke)
pictures_left (Done address word drew) pictures = drop 1 pictures
pictures_left _ pictures = pictures

-- the entries of all that is kept, by the pictures of those that finished a run, in the same order
abbrev pub all_entries : List (List Stroke) → List Alike → List Shown
all_entries pictures [] = []
all_entries pictures (alike ∷ kept) =
    replicate (suc alike.again) (map_entry (λ _. get_or pictures 0 []) alike.entry)
    ++ all_entries (pictures_left alike.entry pictures) kept

-- what the run of an entry drew, or nothing
abbrev pub strokes_in : Shown → List Stroke
strokes_in (Done address word drew) = drew
strokes_in _ = []

-- the entry of a run of equal ones, with the strokes that stand beside it
abbrev pub entry_in : EntryRun → Shown
entry_in run = map_entry (λ _. run.strokes.now) run.entry.now

-- the next run of the entries that are left: None exactly where there is none, else an entry, the
-- strokes that it shows, and how many times it comes before the others
abbrev pub NextEntries : List Shown → Option EntryRun → List Shown → Type 0
NextEntries old None new = (old ≡ []) × (new ≡ [])
NextEntries old (Some run) new = (1 ≤ run.times) × (run.strokes.now ≡ strokes_in (entry_in run))
    × (old ≡ replicate run.times (entry_in run) ++ new)
