-- What is known of the lines of a log by the rule of moments (for private contracts).
use Rattle.std.specs.Prelude.{◌≡◌, Option, Some, None}
use Rattle.std.specs.List.{count_by}
use Rattle.dvg_log.specs.declared.event.Event.TheVariants.{Fetch}
use Rattle.dvg_log.specs.Log.{◌⟼◌, Log}
use Rattle.dvg_moment.specs.Judging.{IsTorn, StandsAfter}
use Rattle.dvg_logs.specs.LogCounts.{begins}
use Rattle.dvg_logs.specs.MomentLogs as log
use Rattle.dvg_logs.specs.MomentLogs.{TornSince, halted_of, judged_log, judged_of, reading_entry}
use Rattle.dvg_logs.specs.declared.moment_lines.MomentLines.{MomentLines}
use Rattle.dvg_logs.specs.declared.moment_lines.Tear.{Tear}

-- where the open run tore
abbrev pub TearsSo : Option Tear → Log → Type 0
TearsSo None judged = ¬ IsTorn judged
TearsSo (Some tear) judged = TornSince judged tear.line (Fetch ⟼ reading_entry tear.reading)

-- they are those of this log
pub record StandsSo (lines : MomentLines) (told : Log) : Type 0 where
  pub stands : StandsAfter lines.judge (judged_log told)
  pub runs : lines.runs ≡ count_by begins told
  pub halted : lines.halted ≡ halted_of told
  pub judged : lines.judged ≡ judged_of told
  pub is_past_zero : lines.is_past_zero ≡ log.is_past_zero told
  pub tear : TearsSo lines.tear (judged_log told)
