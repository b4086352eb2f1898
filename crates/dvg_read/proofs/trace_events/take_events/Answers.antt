use Rattle.std.proofs.Common.{◌-◌, arith}
use Rattle.dvg_read.specs.TextLines.{lines_left}
use Rattle.dvg_read.specs.Texts.{lines}
use Rattle.dvg_read.specs.TraceEvents.{BeginsWithEvent}
use Rattle.dvg_read.proofs.EventHeads.{adds_length, adds_more, begins_later, on_err}
use Rattle.dvg_read.proofs.trace_events.take_events.Goals as goal

pub returns-in_err-count-clause-fault : goal.returns-in_err-count-clause-fault
returns-in_err-count-clause-fault g c =
    let begins = begins_later (lines c.args.lines.now.rest.now) (lines c.loop-room.lines.rest.now) c.args.events.now c.loop-room.events (c.unwrap_or-most.result - c.loop-room.room) c.loop-room.invariant.adds c.in_err-count.ensures.fault in
    on_err (BeginsWithEvent (lines_left c.args.lines.now)) c.from_residual.result begins

pub loop-room-preserved : goal.loop-room-preserved
loop-room-preserved g c =
    let taken = c.in_ok-count.ensures.taken in
    let count = c.in_ok-count.count in
    let most = c.in_ok-count.ensures.most in
    let size = adds_length (lines c.loop-room.lines.rest.now) (lines c.take_run.new.lines.rest.now) c.loop-room.events c.take_run.new.events count taken in
    record {
      few = omega (arith, c.loop-room.invariant.few);
      fits = omega (arith, c.loop-room.invariant.fits, size, most);
      adds = adds_more (lines c.args.lines.now.rest.now) (lines c.loop-room.lines.rest.now) (lines c.take_run.new.lines.rest.now) c.args.events.now c.loop-room.events c.take_run.new.events (c.unwrap_or-most.result - c.loop-room.room) count (c.unwrap_or-most.result - (c.loop-room.room - count)) c.loop-room.invariant.adds taken (omega (arith, c.loop-room.invariant.few, most));
    }
