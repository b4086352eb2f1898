use Rattle.std.proofs.Common.{refl, ◌∙◌}
use Rattle.dvg_log.specs.declared.event.Event.TheVariants.{Offer}
use Rattle.dvg_world.proofs.EventsAddLines.{adds_between, offer_same, offers, same_parts, same_rom}
use Rattle.dvg_world.proofs.world.World.offer_ops.Goals as goal

pub returns-clause-stands : goal.returns-clause-stands
returns-clause-stands g c =
    adds_between (Offer c.args.ops.now) _ c.self.view_is refl
    (same_rom c.offer.ensures.rom (offers _ c.offer.result c.requires c.offer.ensures.answers))

pub returns-clause-same : goal.returns-clause-same
returns-clause-same g c nothing =
    same_parts c.offer.ensures.rom (offer_same _ _ _ _ c.offer.result nothing c.offer.ensures.answers) ∙ c.self.view_is
