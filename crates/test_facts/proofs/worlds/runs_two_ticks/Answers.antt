use Rattle.test_facts.proofs.Clients.{two_run}
use Rattle.test_facts.proofs.worlds.runs_two_ticks.Goals as goal

pub returns-in-Ok : goal.returns-in-Ok
returns-in-Ok c = two_run c.args.rom c.args.image.now c.in-Ok.entries.items c.in-Ok.ensures.whole c.in-Ok.ensures.legal
