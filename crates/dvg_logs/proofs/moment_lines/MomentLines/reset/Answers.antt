use Rattle.std.proofs.Common.{[], ◌∙◌, refl, sym}
use Rattle.dvg_log.specs.declared.entry.Entry.TheVariants.{Cleared}
use Rattle.dvg_log.specs.declared.event.Event.TheVariants.{ResetGen}
use Rattle.dvg_log.specs.Log.{◌⟼◌}
use Rattle.dvg_logs.specs.MomentLogs.{judged_log}
use Rattle.dvg_logs.proofs.MomentLines.{halted_same, judged_same}
use Rattle.dvg_logs.proofs.moment_lines.MomentLines.reset.Goals as goal

pub returns : goal.returns
returns c = λ log so. record {
  stands = c.reset.ensures [] (judged_log log) so.stands;
  runs = so.runs;
  halted = so.halted ∙ sym (halted_same (ResetGen ⟼ Cleared) log refl);
  judged = so.judged ∙ sym (judged_same (ResetGen ⟼ Cleared) log refl);
  is_past_zero = so.is_past_zero;
  tear = λ torn. torn.0 refl;
}
