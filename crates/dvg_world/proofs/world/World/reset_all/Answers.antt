use Rattle.std.proofs.Common.{refl}
use Rattle.dvg_log.specs.declared.event.Event.TheVariants.{ResetAll}
use Rattle.dvg_log.specs.declared.entry.Entry.TheVariants.{Cleared}
use Rattle.dvg_world.proofs.EventsAddLines.{adds_between, keeps_headline, reset_all, same_rom}
use Rattle.dvg_world.proofs.world.World.reset_all.Goals as goal

pub returns-clause-stands : goal.returns-clause-stands
returns-clause-stands g c = adds_between (ResetAll c.args.image.now) Cleared c.self.view_is refl (same_rom c.reset-2.ensures.0
    (reset_all c.load.ensures.image c.load.ensures.content c.reset.ensures.stands c.reset-2.ensures.1))

pub returns-clause-headline : goal.returns-clause-headline
returns-clause-headline g c = keeps_headline (ResetAll c.args.image.now) Cleared (returns-clause-stands g c)
