use Rattle.std.proofs.Common.{[], ◌∷◌}
use Rattle.dvg_log.specs.declared.entry.Entry.TheVariants.{Started}
use Rattle.dvg_log.specs.declared.event.Event.TheVariants.{Strobe}
use Rattle.dvg_log.specs.Log.{◌⟼◌}
use Rattle.test_facts.proofs.TornPicture.{begun, torn_there}
use Rattle.test_facts.proofs.judges.tells_a_torn_write.Goals as goal

pub returns : goal.returns
returns c = (c.wrote.ensures.torn 0 begun (c.fetched.ensures ((Strobe ⟼ Started) ∷ []) (c.started.ensures [] c.new-judge.ensures))).1 torn_there
