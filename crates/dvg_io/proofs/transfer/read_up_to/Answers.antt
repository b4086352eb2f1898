use Rattle.std.proofs.Common.{rules, take}
use Rattle.dvg_io.proofs.KnownBytesChain.{takes_more}
use Rattle.dvg_io.proofs.transfer.read_up_to.Goals as goal

pub returns-then-is_err-clause-took : goal.returns-then-is_err-clause-took
returns-then-is_err-clause-took g c =
    takes_more _ _ _ _ c.loop-piece.bytes.items (take c.in-Ok.count c.read.new.buf) (search rules) c.loop-piece.invariant.took c.in-Ok.ensures.bytes.0
