-- What is known of the lines of a log by the rule of halves (for private contracts).
use Rattle.std.specs.Prelude.{◌≡◌, List, [], ◌∷◌}
use Rattle.dvg_log.specs.Log.{Log, Throughout}
use Rattle.dvg_log.specs.Torn.{IsUntorn}
use Rattle.dvg_print.specs.declared.log_verdict.LogVerdict.{LogVerdict}
use Rattle.dvg_world.specs.Judging.{StandsAfter}
use Rattle.dvg_logs.specs.LogCounts.{counts_of}
use Rattle.dvg_logs.specs.declared.half_lines.HalfLines.{HalfLines}

-- the judge and the counts are those of this log
pub record StandsSo (lines : HalfLines) (log : Log) : Type 0 where
  pub stands : StandsAfter lines.judge log
  pub counts : lines.counts ≡ counts_of log

-- as long as nothing was said, no line of the log is torn; after that, no claim is made
abbrev pub PassesUntorn : List LogVerdict → Log → Type 0
PassesUntorn [] log = Throughout IsUntorn log
PassesUntorn (one ∷ said) log = Unit {0}
