use Rattle.std.proofs.Common.{[]}
use Rattle.test_facts.proofs.worlds.tick_takes_no_memory.Goals as goal

pub returns : goal.returns
returns c = absurd (c.in-Err.ensures.room c.args.rom c.args.image.now [] c.in-Ok.ensures.stands)
