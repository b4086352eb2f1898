use Rattle.std.proofs.Common.{arith}
use Rattle.dvg_mem.proofs.OneByteThroughout.{read_everywhere}
use Rattle.dvg_mem.proofs.flat.FlatStore.read.Goals as goal

pub returns-in-Some-clause-byte : goal.returns-in-Some-clause-byte
returns-in-Some-clause-byte g c =
    let count = c.self.invariant.0.count in
    read_everywhere c.self.inside.everywhere c.self.inside.bytes.value c.args.self.now c.in-Some.byte c.args.a
    c.in-Some.is c.self.view_is (omega (arith, count, c.requires))
