use Rattle.dvg_read.proofs.EventHeads.{byte_after}
use Rattle.dvg_read.proofs.event_head.after_bytes.Goals as goal

pub loop-byte-preserved : goal.loop-byte-preserved
loop-byte-preserved c = byte_after c.args.text.now c.args.bytes.now c.loop-byte.rest.now c.in_ok-rest.rest.now c.loop-byte.byte-index c.loop-byte-test.true c.loop-byte.invariant c.in_ok-rest.ensures
