use Rattle.std.proofs.Common.{◌∙◌, refl, sym}
use Rattle.dvg_driver.specs.declared.action.Action.TheVariants.{Idle, Wrote}
use Rattle.dvg_log.specs.declared.entry.Entry.TheVariants.{Acted}
use Rattle.dvg_log.specs.declared.event.Event.TheVariants.{Tick}
use Rattle.dvg_log.specs.Log.{◌⟼◌}
use Rattle.dvg_logs.specs.MomentLogs.{judged_log}
use Rattle.dvg_logs.proofs.MomentLines.{halted_same, judged_same, silent_tears}
use Rattle.dvg_logs.proofs.moment_lines.MomentLinesLineJudge.take.Goals as goal

pub returns-in-Passed : goal.returns-in-Passed
returns-in-Passed c = λ log so at few. rw c.in-Passed.is (record {
  stands = c.passed.ensures (judged_log log) so.stands;
  runs = so.runs;
  halted = so.halted ∙ sym (halted_same (Tick ⟼ Acted Idle) log refl);
  judged = so.judged ∙ sym (judged_same (Tick ⟼ Acted Idle) log refl);
  is_past_zero = so.is_past_zero;
  tear = silent_tears (judged_log log) Tick (Acted Idle) (λ e. cc) c.args.self.now.tear (λ a. refl) refl so.tear;
})

pub returns-in-Wrote : goal.returns-in-Wrote
returns-in-Wrote c = λ log so at few. rw c.in-Wrote.is (record {
  stands = c.wrote.ensures (judged_log log) so.stands;
  runs = so.runs;
  halted = so.halted ∙ sym (halted_same (Tick ⟼ Acted (Wrote c.in-Wrote.address c.in-Wrote.byte)) log refl);
  judged = so.judged ∙ sym (judged_same (Tick ⟼ Acted (Wrote c.in-Wrote.address c.in-Wrote.byte)) log refl);
  is_past_zero = so.is_past_zero;
  tear = silent_tears (judged_log log) Tick (Acted (Wrote c.in-Wrote.address c.in-Wrote.byte)) (λ e. cc) c.args.self.now.tear (λ a. refl) refl so.tear;
})
