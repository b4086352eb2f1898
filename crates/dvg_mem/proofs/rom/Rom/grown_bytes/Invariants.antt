use Rattle.dvg_mem.specs.Grown.{AreReturns}
use Rattle.dvg_mem.proofs.rom.Rom.grown_bytes.Given as goal

abbrev pub invariant-loop-word : goal.invariant-loop-word
invariant-loop-word g l = AreReturns l.bytes.items l._word
