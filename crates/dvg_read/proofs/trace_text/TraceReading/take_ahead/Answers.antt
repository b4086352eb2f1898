use Rattle.std.proofs.Common.{refl}
use Rattle.dvg_read.specs.TextLines.{lines_left}
use Rattle.dvg_read.specs.TraceGives.{events_read, opened_by, opened_of, reads_ops}
use Rattle.dvg_read.proofs.EventHeads.{adds_fit}
use Rattle.dvg_read.proofs.TraceMoves.{inside_fits, inside_room, none_opened, some_opened}
use Rattle.dvg_read.proofs.ReadTrace.{ahead_events}
use Rattle.dvg_read.proofs.trace_text.TraceReading.take_ahead.Goals as goal

pub take_ops-requires : goal.take_ops-requires
take_ops-requires g c =
    let reading = c.args.self.now in
    record {
      few = inside_room (events_read reading) (opened_of reading) reading.draft
          (some_opened reading.is_open reading.draft c.if-self.true) c.requires.held;
    }

pub returns-then-self-clause-taken : goal.returns-then-self-clause-taken
returns-then-self-clause-taken g c =
    let reading = c.args.self.now in
    reads_ops (record {
      inside = some_opened reading.is_open reading.draft c.if-self.true;
      adds = c.take_ops.ensures.taken;
      opened = some_opened reading.is_open c.take_ops.new.draft c.if-self.true;
      events = refl;
      rom = refl;
    })

pub returns-then-self-clause-held : goal.returns-then-self-clause-held
returns-then-self-clause-held g c =
    let reading = c.args.self.now in
    let F = c.take_ops.new.draft in
    inside_fits (events_read reading) (opened_of reading) (opened_by reading.is_open F) F
    (some_opened reading.is_open F c.if-self.true) c.take_ops.ensures.few c.requires.held

pub returns-clause-taken : goal.returns-clause-taken
returns-clause-taken g c =
    let reading = c.args.self.now in
    let closed = none_opened reading.is_open reading.draft c.if-self.false in
    ahead_events c.take_events.result reading (record reading { events = c.take_events.new.events })
    (lines_left c.args.lines.now) (lines_left c.take_events.new.lines) closed closed refl c.take_events.ensures.taken

pub returns-clause-held : goal.returns-clause-held
returns-clause-held g c =
    adds_fit c.take_events.result (lines_left c.args.lines.now) (lines_left c.take_events.new.lines)
    (events_read c.args.self.now) c.take_events.new.events (opened_of c.args.self.now) c.take_events.ensures.taken
    c.take_events.ensures.room c.requires.held
