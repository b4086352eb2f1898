use Rattle.std.proofs.Common.{◌∷◌, subst, sym, ◌∙◌, ap}
use Rattle.dvg_log.specs.declared.entry.Entry.TheVariants.{Cleared}
use Rattle.dvg_log.specs.declared.event.Event.TheVariants.{ResetAll}
use Rattle.dvg_log.specs.Log.{◌⟼◌}
use Rattle.dvg_moment.specs.Judging.{StandsAfter}
use Rattle.dvg_moment.specs.own.Steps.{after_end}
use Rattle.dvg_moment.proofs.JudgeAfterLog.{reset_stands}
use Rattle.dvg_moment.proofs.judge.MomentJudge.reset.Goals as goal

pub returns : goal.returns
returns c = λ bytes log stands.
    subst (λ judge. StandsAfter judge ((ResetAll bytes ⟼ Cleared) ∷ log)) (sym (c.end.ensures ∙ ap after_end c.forget.ensures)) (reset_stands c.args.self.now log stands bytes)
