-- Logs by the rule of moments: what is found in one, and what is said of it.
use Rattle.std.specs.Prelude.{◌≡◌, ◌⊎◌, ◌+◌, ◌<◌, ℕ, Bool, false, ◌&&◌, ◌||◌, List, [], ◌∷◌, length, is_some, nat_lt}
use Rattle.std.specs.Prelude.{if◌then◌else◌}
use Rattle.std.specs.List.{count_by}
use Rattle.dvg_log.specs.declared.entry.Entry.TheVariants.{Started, Low, Fetched, Done, Cleared}
use Rattle.dvg_log.specs.declared.event.Event.TheVariants.{Fetch, ResetGen, ResetAll}
use Rattle.dvg_log.specs.Entries.{Shown}
use Rattle.dvg_log.specs.Events.{Happening}
use Rattle.dvg_log.specs.Log.{◌⟼◌, Line, Log, Throughout, open_run}
use Rattle.dvg_moment.specs.Judging.{IsTorn}
use Rattle.dvg_moment.specs.Moment.{Contradicts}
use Rattle.dvg_print.specs.declared.moment_verdict.Reading.{Reading}
use Rattle.dvg_print.specs.declared.moment_verdict.Reading.TheVariants as reads
use Rattle.dvg_print.specs.declared.moment_verdict.MomentVerdict.{MomentVerdict}
use Rattle.dvg_print.specs.declared.moment_verdict.MomentVerdict.TheVariants as say
use Rattle.dvg_logs.specs.LogCounts.{begins, halts}

-- a HALT whose word isn't told ends a run as a reset of the generator does; a reset may be one of the whole system, so
-- what was told of memory is void
abbrev pub as_judged : Line → Line
as_judged (event ⟼ Done address word drew) = ResetGen ⟼ Cleared
as_judged (ResetGen ⟼ entry) = ResetAll [] ⟼ entry
as_judged line = line

-- the log that is judged
abbrev pub judged_log : Log → Log
judged_log [] = []
judged_log (line ∷ log) = as_judged line ∷ judged_log log

-- what a fetch brought, as a log shows it
abbrev pub reading_entry : Reading → Shown
reading_entry (reads.Low address byte) = Low address byte
reading_entry (reads.Fetched address word) = Fetched address word

-- the open run is mixed, and since line n none was left: this one
abbrev pub TornSince : Log → ℕ → Line → Type 0
TornSince [] n last = ⊥
TornSince (line ∷ log) n last = IsTorn (line ∷ log)
    × ((IsTorn log × TornSince log n last) ⊎ ((¬ IsTorn log) × (n ≡ length log + 1) × (line ≡ last)))

-- a line contradicts nothing that was told, and ends no torn run by a HALT
abbrev pub IsSound : Log → Happening → Shown → Type 0
IsSound log event (Done address word drew) = ¬ IsTorn (judged_log log)
IsSound log event entry = ¬ Contradicts (judged_log log) entry

-- a line decides: by it a torn run comes to its HALT, or it contradicts
abbrev pub Decides : MomentVerdict → Line → Log → Type 0
Decides (say.Torn n reading) (event ⟼ Done address word drew) log =
    TornSince (judged_log log) n (Fetch ⟼ reading_entry reading)
Decides (say.Contradicts n reading) line log = (line ≡ Fetch ⟼ reading_entry reading) × (n ≡ length log + 1)
    × Contradicts (judged_log log) (reading_entry reading)
Decides verdict line log = ⊥

-- this was said of the lines of a log that decide, the newest first, and of no other line
abbrev pub AreDecided : List MomentVerdict → Log → Type 0
AreDecided [] log = Throughout IsSound log
AreDecided (one ∷ said) [] = ⊥
AreDecided (one ∷ said) ((event ⟼ entry) ∷ log) = (IsSound log event entry × AreDecided (one ∷ said) log)
    ⊎ (Decides one (event ⟼ entry) log × AreDecided said log)

-- the newest run has fetched past word zero
abbrev pub is_past_zero : Log → Bool
is_past_zero [] = false
is_past_zero ((event ⟼ Started) ∷ log) = false
is_past_zero ((event ⟼ Low address byte) ∷ log) = nat_lt 0 address || is_past_zero log
is_past_zero ((event ⟼ Fetched address word) ∷ log) = nat_lt 0 address || is_past_zero log
is_past_zero (line ∷ log) = is_past_zero log

-- by this line an open run comes to its HALT
abbrev pub halts_run : Line → Log → Bool
halts_run line log = halts line && is_some (open_run (judged_log log))

-- how many runs came to their HALT
abbrev pub halted_of : Log → ℕ
halted_of [] = 0
halted_of (line ∷ log) = (if halts_run line log then 1 else 0) + halted_of log

-- how many of these had fetched past word zero, so they are judged
abbrev pub judged_of : Log → ℕ
judged_of [] = 0
judged_of (line ∷ log) = (if halts_run line log && is_past_zero log then 1 else 0) + judged_of log

-- what is said where no line decides
abbrev pub Ends : MomentVerdict → Log → Type 0
Ends (say.Whole runs halted judged) log = (runs ≡ count_by begins log) × (halted ≡ halted_of log)
    × (judged ≡ judged_of log) × (0 < judged)
Ends (say.NoRun runs halted) log = (runs ≡ count_by begins log) × (halted ≡ halted_of log) × (judged_of log ≡ 0)
Ends verdict log = ⊥
