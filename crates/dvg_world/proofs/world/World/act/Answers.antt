use Rattle.dvg_log.specs.declared.event.Event.TheVariants.{Tick}
use Rattle.dvg_log.specs.declared.entry.Entry.TheVariants.{Acted}
use Rattle.dvg_world.proofs.EventsAddLines.{adds_between, keeps_headline, same_rom, ticks}
use Rattle.dvg_world.proofs.world.World.act.Goals as goal

pub returns-clause-stands : goal.returns-clause-stands
returns-clause-stands g c =
    let did = c.tick-action.ensures.answers in
    adds_between Tick (Acted c.tick-action.result) c.self.view_is c.perform.ensures
    (same_rom c.tick-action.ensures.rom
    (ticks c.read-byte1.ensures.image c.read-byte1.ensures.byte c.halted.ensures.value did.0
    (λ peeked life after. (did.2 peeked life after).0) (λ peeked life after. (did.2 peeked life after).1)))

pub returns-clause-headline : goal.returns-clause-headline
returns-clause-headline g c = keeps_headline Tick (Acted c.tick-action.result) (returns-clause-stands g c)
