use Rattle.std.specs.Prelude.{codes}
use Rattle.test_facts.proofs.Clients.{job_is}
use Rattle.test_facts.proofs.command_line.asks_for_each_entry.Goals as goal

pub returns : goal.returns
returns c = job_is c.job.result _ c.job.ensures.ok (c.text_job_arguments.ensures.13 (codes "dvg")).2
