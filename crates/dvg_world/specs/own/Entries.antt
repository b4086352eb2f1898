-- What entries are kept as.
use Rattle.std.specs.Prelude.{◌≡◌, ◌≤◌, ℕ, suc, List}
use Rattle.std.specs.List.{sum_by}
use Rattle.dvg_log.specs.declared.entry.Entry.{Entry}
use Rattle.dvg_log.specs.declared.entry.Entry.TheVariants.{Done}
use Rattle.dvg_log.specs.declared.trace.TheConstants.{MOST_EVENTS}
use Rattle.dvg_world.specs.declared.entries.Alike.{Alike}

-- how many entries are kept
abbrev pub entry_count : List Alike → ℕ
entry_count kept = sum_by (λ alike. suc alike.again) kept

-- an entry counts as one finished run or none
abbrev pub finished_in : Entry (Unit {0}) → ℕ
finished_in (Done address word drew) = 1
finished_in _ = 0

-- how many entries of those that are kept finished a run
abbrev pub finished_count : List Alike → ℕ
finished_count kept = sum_by (λ alike. finished_in alike.entry) kept

-- these are kept of a trace, and so many pictures: one for each entry that finished a run
pub record AreEntries (kept : List Alike) (pictures : ℕ) : Type 0 where
  pub count : entry_count kept ≤ MOST_EVENTS
  pub pictured : finished_count kept ≡ pictures
