-- What is kept where all entries are.
use Rattle.std.specs.Prelude.{◌≡◌, ◌-◌, ◌++◌, ℕ, length, map, min, replicate}
use Rattle.std.specs.Prelude.{vec_capacity, vec_len}
use Rattle.dvg_log.specs.declared.trace.TheConstants.{MOST_EVENTS}
use Rattle.dvg_log.specs.Entries.{Shown}
use Rattle.dvg_log.specs.Events.{Happening}
use Rattle.dvg_log.specs.Log.{Log, ◌⟼◌}
use Rattle.dvg_world.specs.declared.logging.EntriesKept.{EntriesKept}
use Rattle.dvg_world.specs.Keeping.{all_entries, entries_in}
use Rattle.dvg_world.specs.own.Entries.{AreEntries, entry_count}

-- they are the entries of a log, and the strokes of its pictures
abbrev pub AreKept : {A : Type 0} → EntriesKept A → Log → Type 0
AreKept entries log = AreEntries entries.kept.items (length entries.drawn.items)
    × (all_entries (map (λ strokes. strokes.items) entries.drawn.items) entries.kept.items
    ≡ entries_in log)

-- for how many entries more there is room
abbrev pub room_left : {A : Type 0} → EntriesKept A → ℕ
room_left entries = min (min (vec_capacity entries.kept) MOST_EVENTS - entry_count entries.kept.items)
    (min (vec_capacity entries.drawn) MOST_EVENTS - vec_len entries.drawn)

-- so many equal entries more are kept: those of the next lines of a log, all of one event
abbrev pub KeepsAlike : {A : Type 0} → EntriesKept A → Shown → (times : ℕ) → EntriesKept A → Type 0
KeepsAlike old entry times new = (event : Happening) (log : Log) → AreKept old log
    → AreKept new (replicate times (event ⟼ entry) ++ log)
