use Rattle.dvg_lay.proofs.RamLaid.{IsLaid}
use Rattle.dvg_lay.proofs.memory.laid_ram.Given as goal

abbrev pub invariant-loop-k : goal.invariant-loop-k
invariant-loop-k g l = IsLaid l.store l.fn.half l.fn.frame.operations l.k
