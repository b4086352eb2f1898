use Rattle.std.proofs.Common.{◌≡◌, take, length}
use Rattle.dvg_world.proofs.world.bytes_in.Given as goal

abbrev pub invariant-loop-a : goal.invariant-loop-a
invariant-loop-a g l = (length l.bytes ≡ 2048) × (take l.a l.bytes ≡ take l.a (g.S.Store.content l.store))
