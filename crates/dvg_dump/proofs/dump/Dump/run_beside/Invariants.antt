use Rattle.dvg_dump.specs.Memory.{memory_of}
use Rattle.dvg_dump.proofs.OneWordMore.{Followed}
use Rattle.dvg_dump.proofs.dump.Dump.run_beside.Given as goal

abbrev pub invariant-loop-words : goal.invariant-loop-words
invariant-loop-words g l = Followed l.fn.tracer.traces (memory_of l.self) l.words l.generator l.tracer
