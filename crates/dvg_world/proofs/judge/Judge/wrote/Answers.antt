use Rattle.dvg_log.specs.declared.event.Event.TheVariants.{Tick}
use Rattle.dvg_world.proofs.judge.Judge.wrote.Goals as goal

pub returns-clause-torn : goal.returns-clause-torn
returns-clause-torn c = λ byte log stands. c.is_torn_at.ensures log Tick byte stands
