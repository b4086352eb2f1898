use Rattle.std.proofs.Common.{sym, ◌∙◌, ap}
use Rattle.dvg_log.specs.Events.{happening_of}
use Rattle.dvg_moment.specs.own.Steps.{after_event, after_reset}
use Rattle.dvg_moment.proofs.judge.MomentJudge.take_event.Goals as goal

pub returns-in-ResetAll : goal.returns-in-ResetAll
returns-in-ResetAll g c =
    c.reset_run-in-ResetAll.ensures
    ∙ (ap (after_reset c.args.starts) c.forget.ensures ∙ sym (ap (λ event. after_event (happening_of event) c.args.starts c.args.self.now) c.in-ResetAll.is))
