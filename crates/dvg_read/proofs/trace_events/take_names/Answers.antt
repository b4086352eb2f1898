use Rattle.dvg_log.specs.Events.{spelled_as}
use Rattle.dvg_read.specs.TextLines.{lines_left}
use Rattle.dvg_read.specs.TraceEvents.{BeginsWithEvent}
use Rattle.dvg_read.proofs.EventHeads.{adds_no_run, begins_run, on_err}
use Rattle.dvg_read.proofs.trace_events.take_names.Goals as goal

pub returns-in_err-push_times-clause-fault : goal.returns-in_err-push_times-clause-fault
returns-in_err-push_times-clause-fault g c =
    let ahead = c.take_names-count.ensures.taken (spelled_as c.args.event) c.requires.named in
    on_err (BeginsWithEvent (lines_left c.args.lines.now)) c.from_residual.result (begins_run (lines_left c.args.lines.now) (lines_left c.take_names-count.new.self) (spelled_as c.args.event) c.take_names-count.result ahead c.if-count-gt0.true)

pub returns-else-count-gt0-clause-taken : goal.returns-else-count-gt0-clause-taken
returns-else-count-gt0-clause-taken g c =
    let ahead = c.take_names-count.ensures.taken (spelled_as c.args.event) c.requires.named in
    adds_no_run (lines_left c.args.lines.now) (lines_left c.take_names-count.new.self) c.args.events.now (spelled_as c.args.event) c.take_names-count.result ahead c.if-count-gt0.false
