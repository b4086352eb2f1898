use Rattle.std.proofs.Common.{subst}
use Rattle.dvg_log.specs.declared.event.Event.TheVariants.{Offer}
use Rattle.dvg_world.specs.Standing.{AddsLine, shown_in}
use Rattle.dvg_world.proofs.EventsAddLines.{keeps_headline}
use Rattle.dvg_world.proofs.world.World.offer.Goals as goal

pub returns-clause-stands : goal.returns-clause-stands
returns-clause-stands g c =
    subst (λ F. AddsLine c.args.self.now (Offer F) (shown_in c.offer_ops.new.self c.offer_ops.result) c.offer_ops.new.self)
    c.ops.ensures.value c.offer_ops.ensures.stands

pub returns-clause-headline : goal.returns-clause-headline
returns-clause-headline g c = keeps_headline (Offer c.args.draft.now) _ (returns-clause-stands g c)
