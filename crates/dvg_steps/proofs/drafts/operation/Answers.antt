use Rattle.std.proofs.Common.{refl, subst, sym}
use Rattle.dvg_steps.specs.Steps.{Wants}
use Rattle.dvg_steps.proofs.drafts.operation.Goals as goal

pub returns-in-None : goal.returns-in-None
returns-in-None c = (c.in-Call.name.now, subst (λ step. Wants step c.in-Call.name.now) (sym c.in-Call.is) refl, c.in-None.ensures)

pub returns-in-None-number_of : goal.returns-in-None-number_of
returns-in-None-number_of c = (c.in-Jump.name.now, subst (λ step. Wants step c.in-Jump.name.now) (sym c.in-Jump.is) refl, c.in-None-number_of.ensures)
