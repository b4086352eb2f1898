use Rattle.test_facts.proofs.Clients.{plays_tick}
use Rattle.test_facts.proofs.engines.plays_a_tick.Goals as goal

pub returns-in-Ok : goal.returns-in-Ok
returns-in-Ok g c is = plays_tick _ _ _ c.in-Ok.field-0 c.requires.text c.in-Ok.ensures.means
