use Rattle.std.proofs.Common.{subst, length, ◌∙◌, ap}
use Rattle.dvg_log.specs.Legal.{IsLegal}
use Rattle.dvg_world.specs.Runs.{log_of}
use Rattle.test_facts.proofs.Clients.{two_run}
use Rattle.test_facts.proofs.worlds.runs_a_trace_of_two_ticks.Goals as goal

pub returns-in-Ok : goal.returns-in-Ok
returns-in-Ok c = two_run c.args.rom c.args.image.now c.in-Ok.entries.items (c.in-Ok.ensures.whole ∙ ap length c.requires) (subst (λ events. IsLegal c.args.rom c.args.image.now (log_of events c.in-Ok.entries.items)) c.requires c.in-Ok.ensures.legal)
