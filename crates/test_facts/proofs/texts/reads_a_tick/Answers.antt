use Rattle.std.proofs.Common.{subst}
use Rattle.dvg_read.specs.TraceGives.{GivesTrace}
use Rattle.test_facts.proofs.Clients.{events_are}
use Rattle.test_facts.proofs.texts.reads_a_tick.Goals as goal

pub returns-in-Ok : goal.returns-in-Ok
returns-in-Ok c = events_are c.in-Ok.trace.events c.in-Ok.trace.rom.items (subst (λ text. GivesTrace text c.in-Ok.trace.events c.in-Ok.trace.rom.items) c.requires c.in-Ok.ensures.gives)
