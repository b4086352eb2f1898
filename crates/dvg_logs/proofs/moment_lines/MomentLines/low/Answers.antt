use Rattle.std.proofs.Common.{◌+◌, ◌||◌, ◌∙◌, ap, nat_lt, refl, sym}
use Rattle.dvg_log.specs.declared.entry.Entry.TheVariants.{Low}
use Rattle.dvg_log.specs.declared.event.Event.TheVariants.{Fetch}
use Rattle.dvg_log.specs.Log.{◌⟼◌}
use Rattle.dvg_logs.specs.MomentLogs.{judged_log}
use Rattle.dvg_logs.proofs.MomentLines.{halted_same, judged_length, judged_same}
use Rattle.dvg_logs.proofs.moment_lines.MomentLines.low.Goals as goal

pub returns : goal.returns
returns c = λ log so at.
    let stands = c.low.ensures (judged_log log) so.stands in
    record {
      stands = stands;
      runs = so.runs;
      halted = so.halted ∙ sym (halted_same (Fetch ⟼ Low c.args.address c.args.byte) log refl);
      judged = so.judged ∙ sym (judged_same (Fetch ⟼ Low c.args.address c.args.byte) log refl);
      is_past_zero = c.reads_past_zero-self.ensures ∙ ap (λ b. nat_lt 0 c.args.address || b) so.is_past_zero;
      tear = c.tear_by-self.ensures (judged_log log) stands (at ∙ ap (λ n. n + 1) (sym (judged_length log))) so.tear;
    }
