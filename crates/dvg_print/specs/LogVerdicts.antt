-- How what is said of a log is written.
use Rattle.std.specs.Prelude.{ℕ, List, [], ◌∷◌, ◌++◌, codes, decimal}
use Rattle.dvg_driver.specs.declared.action.Action.TheVariants.{Wrote}
use Rattle.dvg_print.specs.Lines.{spaced}
use Rattle.dvg_print.specs.Shows.{action_parts}
use Rattle.dvg_print.specs.declared.log_verdict.LogCounts.{LogCounts}
use Rattle.dvg_print.specs.declared.log_verdict.LogFinding.{LogFinding}
use Rattle.dvg_print.specs.declared.log_verdict.LogFinding.TheVariants.{NotTorn, NoRunDrew, Torn}
use Rattle.dvg_print.specs.declared.log_verdict.LogVerdict.{LogVerdict}

-- what is found in a log; 10 is LF
abbrev pub finding_text : LogFinding → List ℕ
finding_text NotTorn = codes "not torn:"
finding_text NoRunDrew = codes "no run drew a half:"
finding_text (Torn line address byte) = codes "torn at line" ++ spaced (decimal line ∷ []) ++ codes ":"
    ++ spaced (action_parts (Wrote address byte)) ++ 10 ∷ codes "so far:"

-- how many runs began, and how many of them drew a half
abbrev pub runs_text : LogCounts → List ℕ
runs_text counts = spaced (decimal counts.runs ∷ []) ++ codes " runs," ++ spaced (decimal counts.drew ∷ [])
    ++ codes " drew a half,"

-- how many lines say that a run ended by a HALT, and how many bytes were written
abbrev pub halts_text : LogCounts → List ℕ
halts_text counts = spaced (decimal counts.halted ∷ []) ++ codes " halted," ++ spaced (decimal counts.writes ∷ [])
    ++ codes " writes" ++ 10 ∷ []

-- what is said of a log, on one line, or on two where it is torn
abbrev pub log_verdict_text : LogVerdict → List ℕ
log_verdict_text verdict = finding_text verdict.finding ++ (runs_text verdict.counts ++ halts_text verdict.counts)
