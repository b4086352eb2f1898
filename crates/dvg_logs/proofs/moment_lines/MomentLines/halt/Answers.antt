use Rattle.std.proofs.Common.{◌&&◌, [], ◌∙◌, ap, refl}
use Rattle.dvg_log.specs.declared.entry.Entry.TheVariants.{Done}
use Rattle.dvg_log.specs.declared.event.Event.TheVariants.{Fetch}
use Rattle.dvg_log.specs.Log.{◌⟼◌, open_run}
use Rattle.dvg_logs.specs.MomentLogs.{halts_run, judged_log}
use Rattle.dvg_logs.proofs.MomentLines.{halted_on, halts_is, judged_on}
use Rattle.dvg_logs.proofs.moment_lines.MomentLines.halt.Goals as goal

pub returns : goal.returns
returns c = λ log so few.
    let line = Fetch ⟼ Done 0 0 [] in
    let halts = halts_is c.is_open-halts.result (open_run (judged_log log)) (c.is_open-halts.ensures (judged_log log) so.stands) in
    let is_judged = c.is_judged.ensures ∙ ap (λ b. b && c.args.self.now.is_past_zero) halts ∙ ap (λ b. halts_run line log && b) so.is_past_zero in
    record {
      stands = c.ended.ensures (judged_log log) so.stands;
      runs = so.runs;
      halted = c.count_with-self.ensures ∙ halted_on line log c.is_open-halts.result c.args.self.now.halted halts so.halted few;
      judged = c.count_with-self-2.ensures ∙ judged_on line log c.is_judged.result c.args.self.now.judged is_judged so.judged few;
      is_past_zero = so.is_past_zero;
      tear = λ torn. torn.0 refl;
    }
