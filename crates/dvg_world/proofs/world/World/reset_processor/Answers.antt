use Rattle.std.proofs.Common.{refl}
use Rattle.dvg_log.specs.declared.event.Event.TheVariants.{ResetCpu}
use Rattle.dvg_log.specs.declared.entry.Entry.TheVariants.{Cleared}
use Rattle.dvg_world.proofs.EventsAddLines.{adds_between, keeps_headline, reset_cpu, same_rom}
use Rattle.dvg_world.proofs.world.World.reset_processor.Goals as goal

pub returns-clause-stands : goal.returns-clause-stands
returns-clause-stands g c = adds_between ResetCpu Cleared c.self.view_is refl (same_rom c.reset.ensures.0 (reset_cpu c.reset.ensures.1))

pub returns-clause-headline : goal.returns-clause-headline
returns-clause-headline g c = keeps_headline ResetCpu Cleared (returns-clause-stands g c)
