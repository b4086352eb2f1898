use Rattle.std.proofs.Common.{◌≡◌, codes, rules, true}
use Rattle.dvg_read.specs.TraceGives.{events_read, opened_by, opened_of}
use Rattle.dvg_read.proofs.TraceMoves.{op_stops, op_taken, some_opened}
use Rattle.dvg_read.proofs.trace_text.TraceReading.take.Goals as goal

pub returns-clause-taken : goal.returns-clause-taken
returns-clause-taken g c =
    let reading = c.args.self.now in
    let F = c.add_op.new.draft in
    let is_open : reading.is_open ≡ true = search rules in
    op_taken c.add_op.result (events_read reading) reading.draft F (opened_of reading) (opened_by reading.is_open F) c.args.line.now reading.rom (some_opened reading.is_open reading.draft is_open) (some_opened reading.is_open F is_open) c.add_op.ensures.added

pub returns-clause-fault : goal.returns-clause-fault
returns-clause-fault g c =
    let reading = c.args.self.now in
    let inside = some_opened reading.is_open reading.draft (search rules) in
    let other : c.args.line.now ≡ codes "end" → ⊥ = search rules in
    op_stops c.add_op.result (events_read reading) reading.draft (opened_of reading) c.args.line.now reading.rom inside other c.add_op.ensures.fault
