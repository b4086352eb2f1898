use Rattle.std.proofs.Common.{sym, ap, ◌∙◌}
use Rattle.dvg_device.specs.declared.reply.Reply.TheVariants.{Wants}
use Rattle.dvg_device.specs.Generators.{wanting}
use Rattle.dvg_device.proofs.HighByteWanted.{same_flag}
use Rattle.dvg_device.proofs.lone.wanted.Goals as goal

pub returns-in-Some : goal.returns-in-Some
returns-in-Some c history low after =
    ap (Wants c.in-Some.address) (same_flag c.wants_high.result low (c.wants_high.ensures.run history low after))
    ∙ ap (λ address. wanting address low) (sym c.in-Some.is ∙ c.wants.ensures.address history low after)
