use Rattle.dvg_lay.proofs.RamLaid.{IsLaid}
use Rattle.test_facts.proofs.undisturbed.laid.Given as goal

abbrev pub invariant-loop-k : goal.invariant-loop-k
invariant-loop-k l = IsLaid l.store l.half l.frame.operations l.k
