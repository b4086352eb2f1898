use Rattle.dvg_dump.specs.Memory.{memory_of}
use Rattle.test_facts.proofs.Halted.{draws_none, end_is}
use Rattle.test_facts.proofs.dumps.halts_at_once.Goals as goal

pub returns-clause-ends : goal.returns-clause-ends
returns-clause-ends c = end_is c.one_end.ensures (memory_of c.args.dump.now) c.requires c.run.result c.run.ensures.ends

pub returns-clause-room : goal.returns-clause-room
returns-clause-room c = c.run.ensures.room (draws_none c.one_end.ensures (memory_of c.args.dump.now) c.requires)
