use Rattle.dvg_mem.specs.Memory.{fetched}
use Rattle.test_facts.proofs.Alone.{InRun}
use Rattle.test_facts.proofs.undisturbed.drawn.Given as goal

abbrev pub invariant-loop-words : goal.invariant-loop-words
invariant-loop-words l = InRun (fetched l.store l.rom) l.words l.generator
