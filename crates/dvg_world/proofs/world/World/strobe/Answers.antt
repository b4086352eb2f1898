use Rattle.std.proofs.Common.{refl, sym}
use Rattle.dvg_log.specs.declared.event.Event.TheVariants.{Strobe}
use Rattle.dvg_log.specs.declared.entry.Entry.TheVariants.{NoStrobe, Started}
use Rattle.dvg_world.proofs.EventsAddLines.{adds_between, keeps_headline, strobe_lost, strobe_starts}
use Rattle.dvg_world.proofs.world.World.strobe.Goals as goal

pub returns-then-not-self-clause-stands : goal.returns-then-not-self-clause-stands
returns-then-not-self-clause-stands g c = adds_between Strobe NoStrobe c.self.view_is (sym c.self.view_is) (strobe_lost c.if-not-self.true)

pub returns-then-not-self-clause-headline : goal.returns-then-not-self-clause-headline
returns-then-not-self-clause-headline g c = keeps_headline Strobe NoStrobe (returns-then-not-self-clause-stands g c)

pub returns-clause-stands : goal.returns-clause-stands
returns-clause-stands g c = adds_between Strobe Started c.self.view_is refl (strobe_starts c.if-not-self.false c.start.ensures.stands)

pub returns-clause-headline : goal.returns-clause-headline
returns-clause-headline g c = keeps_headline Strobe Started (returns-clause-stands g c)
