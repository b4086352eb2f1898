use Rattle.std.proofs.Common.{true≢false, sym}
use Rattle.dvg_driver.specs.declared.action.Action.TheVariants.{Wrote}
use Rattle.dvg_log.specs.declared.entry.Entry.TheVariants.{Acted}
use Rattle.dvg_world.proofs.Judging.{none_torn}
use Rattle.dvg_world.proofs.judge.Drawing.is_torn_at.Goals as goal

pub returns-in_default : goal.returns-in_default
returns-in_default c = λ log event byte draws.
    (λ e. absurd (true≢false (sym e)), λ torn. absurd (none_torn c.args.self c.in_default.not-Within log event (Acted (Wrote c.args.address byte)) draws torn))
