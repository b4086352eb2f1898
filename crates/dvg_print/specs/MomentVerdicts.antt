-- How what the judge of moments says of a log is written.
use Rattle.std.specs.Prelude.{ℕ, List, [], ◌∷◌, ◌++◌, codes, decimal}
use Rattle.dvg_print.specs.Lines.{spaced, hex_2, hex_3, hex_4}
use Rattle.dvg_print.specs.declared.moment_verdict.Reading.{Reading}
use Rattle.dvg_print.specs.declared.moment_verdict.Reading.TheVariants.{Low, Fetched}
use Rattle.dvg_print.specs.declared.moment_verdict.MomentVerdict.{MomentVerdict}
use Rattle.dvg_print.specs.declared.moment_verdict.MomentVerdict.TheVariants.{Whole, NoRun, Torn, Contradicts, SomeTorn}

-- what a fetch brought, as a log says it
abbrev pub reading_parts : Reading → List (List ℕ)
reading_parts (Low address byte) = codes "low" ∷ hex_3 address ∷ hex_2 byte ∷ []
reading_parts (Fetched address word) = codes "fetched" ∷ hex_3 address ∷ hex_4 word ∷ []

-- how many runs began, and how many of them came to their HALT
abbrev pub runs_halted_text : ℕ → ℕ → List ℕ
runs_halted_text runs halted = spaced (decimal runs ∷ []) ++ codes " runs," ++ spaced (decimal halted ∷ [])
    ++ codes " halted"

-- the line of what is said of a log, or of a torn run in it; 10 is LF
abbrev pub moment_verdict_text : MomentVerdict → List ℕ
moment_verdict_text (Whole runs halted judged) = codes "whole:" ++ runs_halted_text runs halted
    ++ codes "," ++ spaced (decimal judged ∷ []) ++ codes " judged" ++ 10 ∷ []
moment_verdict_text (NoRun runs halted) = codes "no run to judge:" ++ runs_halted_text runs halted ++ 10 ∷ []
moment_verdict_text (Torn line reading) = codes "torn at line" ++ spaced (decimal line ∷ []) ++ codes ":"
    ++ spaced (reading_parts reading) ++ 10 ∷ []
moment_verdict_text (Contradicts line reading) = codes "line" ++ spaced (decimal line ∷ [])
    ++ codes " reads what was not written:" ++ spaced (reading_parts reading) ++ 10 ∷ []
moment_verdict_text (SomeTorn runs halted torn) = codes "in all:" ++ runs_halted_text runs halted
    ++ codes "," ++ spaced (decimal torn ∷ []) ++ codes " torn" ++ 10 ∷ []
