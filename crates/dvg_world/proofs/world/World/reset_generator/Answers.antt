use Rattle.std.proofs.Common.{refl}
use Rattle.dvg_log.specs.declared.event.Event.TheVariants.{ResetGen}
use Rattle.dvg_log.specs.declared.entry.Entry.TheVariants.{Cleared}
use Rattle.dvg_world.proofs.EventsAddLines.{adds_between, keeps_headline, reset_gen}
use Rattle.dvg_world.proofs.world.World.reset_generator.Goals as goal

pub returns-clause-stands : goal.returns-clause-stands
returns-clause-stands g c = adds_between ResetGen Cleared c.self.view_is refl (reset_gen c.reset.ensures.stands)

pub returns-clause-headline : goal.returns-clause-headline
returns-clause-headline g c = keeps_headline ResetGen Cleared (returns-clause-stands g c)
