use Rattle.std.proofs.Common.{◌*◌}
use Rattle.dvg_mem.specs.Grown.{AreReturns}
use Rattle.dvg_read.proofs.rom_text.fill_with_returns.Given as goal

abbrev pub invariant-loop-row : goal.invariant-loop-row
invariant-loop-row l = record { returns : AreReturns l.bytes.items (8 * l._row) }
