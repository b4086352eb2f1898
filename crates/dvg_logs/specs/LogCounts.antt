-- What is counted in a log.
use Rattle.std.specs.Prelude.{Bool, true, false, not, ◌==◌, ◌&&◌, ◌+◌, ℕ, [], ◌∷◌, if◌then◌else◌}
use Rattle.std.specs.List.{count_by}
use Rattle.dvg_driver.specs.declared.action.Action.TheVariants.{Wrote}
use Rattle.dvg_log.specs.declared.entry.Entry.TheVariants.{Acted, Started, Done}
use Rattle.dvg_log.specs.Log.{◌⟼◌, Line, Log, open_run}
use Rattle.dvg_world.specs.Judging.{draws_half}
use Rattle.dvg_print.specs.declared.log_verdict.LogCounts.{LogCounts}
use Rattle.dvg_print.specs.declared.log_verdict.LogFinding.{LogFinding}
use Rattle.dvg_print.specs.declared.log_verdict.LogFinding.TheVariants.{NoRunDrew, NotTorn}
use Rattle.dvg_print.specs.declared.log_verdict.LogVerdict.{LogVerdict}

-- the line says that a strobe began a run
abbrev pub begins : Line → Bool
begins (event ⟼ Started) = true
begins _ = false

-- it says that a run ended by a HALT
abbrev pub halts : Line → Bool
halts (event ⟼ Done address word strokes) = true
halts _ = false

-- it says that the driver wrote a byte
abbrev pub writes : Line → Bool
writes (event ⟼ Acted (Wrote address byte)) = true
writes _ = false

-- by this line a run begins to draw a half: its first word was fetched, that at 000, a jump to the half
abbrev pub draws_from : Line → Log → Bool
draws_from line log = draws_half (open_run (line ∷ log)) && not (draws_half (open_run log))

-- how many runs of a log drew a half
abbrev pub drew_of : Log → ℕ
drew_of [] = 0
drew_of (line ∷ log) = (if draws_from line log then 1 else 0) + drew_of log

-- what a log says: how many runs began and drew a half, how many lines say `halted`, and how many bytes were written
abbrev pub counts_of : Log → LogCounts
counts_of log = record {
  runs = count_by begins log;
  drew = drew_of log;
  halted = count_by halts log;
  writes = count_by writes log;
}

-- no run drew a half, so nothing could be torn
abbrev pub no_run_drew : LogCounts → Bool
no_run_drew counts = counts.drew == 0

-- what is found where no line is torn
abbrev pub found_in : LogCounts → LogFinding
found_in counts = if no_run_drew counts then NoRunDrew else NotTorn

-- what is said where no line is torn
abbrev pub said_of : LogCounts → LogVerdict
said_of counts = record { finding = found_in counts; counts = counts }
