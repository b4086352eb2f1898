use Rattle.std.specs.Cmp.Lexicographic.{same_text}
use Rattle.dvg_mem.proofs.OneByteThroughout.{one_byte}
use Rattle.dvg_mem.proofs.image.only_byte.Goals as goal

pub returns-then-eq : goal.returns-then-eq
returns-then-eq c = one_byte c.args.bytes.now 0 c.requires (same_text _ _ c.if-eq.ensures)
