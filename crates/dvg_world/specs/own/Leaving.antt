-- What a line leaves of a log's open run.
use Rattle.std.specs.Prelude.{◌∷◌, [], ℕ, List, Option, Some, None, option_map}
use Rattle.dvg_log.specs.Entries.{Shown}
use Rattle.dvg_log.specs.declared.entry.Entry.TheVariants.{Started, Fetched, Done, Broke}
use Rattle.dvg_log.specs.Events.{Happening}
use Rattle.dvg_log.specs.declared.event.Event.TheVariants.{ResetGen, ResetAll}

-- the run that an event leaves
abbrev pub left_by : Happening → Option (List (ℕ × ℕ)) → Option (List (ℕ × ℕ))
left_by ResetGen run = None
left_by (ResetAll bytes) run = None
left_by event run = run

-- the run after an entry
abbrev pub run_after : Shown → Option (List (ℕ × ℕ)) → Option (List (ℕ × ℕ))
run_after Started run = Some []
run_after (Fetched address word) run = option_map (λ fetches. (address, word) ∷ fetches) run
run_after (Done address word strokes) run = None
run_after (Broke address fault) run = None
run_after entry run = run
