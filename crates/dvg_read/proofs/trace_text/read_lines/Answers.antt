use Rattle.std.proofs.Common.{◌≡◌, ◌+◌, ◌∷◌, [], None, length, refl, ap, subst, arith, rules}
use Rattle.std.proofs.lemmas.List.Elements.{All-nil}
use Rattle.dvg_read.specs.Texts.{lines}
use Rattle.dvg_read.specs.TextLines.{lines_left}
use Rattle.dvg_read.specs.TraceTexts.{FitsDraft}
use Rattle.dvg_read.specs.LineFaults.{fault_at}
use Rattle.dvg_read.specs.TraceGives.{StopsReading, events_read, opened_of}
use Rattle.dvg_read.proofs.ReadTrace.{ReadTrace, all_spelled, begins, bounded, passes, reads_ahead, stops, takes}
use Rattle.dvg_read.proofs.ReadTrace.{wants_memory}
use Rattle.dvg_read.proofs.trace_text.read_lines.Goals as goal

pub loop-count-init : goal.loop-count-init
loop-count-init g c =
    let start = c.new-lines.result in
    let all : lines_left start ≡ lines c.args.text.now = c.new-lines.ensures in
    let none : c.new-2.result ≡ [] = c.new-2.ensures in
    record {
      held = record { count = omega (arith, ap length none); drafts = rw none (All-nil FitsDraft); last = tt };
      read = begins c.args.text.now (lines_left start) c.new-2.result None c.new.result all none refl c.new.ensures;
    }

pub returns-in_default-clause-fault : goal.returns-in_default-clause-fault
returns-in_default-clause-fault g c =
    let wants = c.in_default.ensures.fault in
    wants_memory c.args.text.now (lines_left c.loop-count.lines) c.loop-count.number (events_read c.loop-count.reading) (opened_of c.loop-count.reading) c.loop-count.reading.rom c.loop-count.invariant.read c.requires c.loop-count.invariant.held wants.outside wants.room wants.begins

pub overflow_add-number-in-loop-count : goal.overflow_add-number-in-loop-count
overflow_add-number-in-loop-count g c =
    let r = reads_ahead c.args.text.now (lines_left c.loop-count.lines) (lines_left c.take_ahead.new.lines)
    c.loop-count.number c.in-Ok.count c.loop-count.reading c.take_ahead.new.self c.loop-count.invariant.read
    c.in-Ok.ensures.taken in
    let few = bounded c.args.text.now (lines_left c.take_ahead.new.lines) (c.loop-count.number + c.in-Ok.count)
    (events_read c.take_ahead.new.self) (opened_of c.take_ahead.new.self) c.take_ahead.new.self.rom r c.requires in
    omega (arith, few, c.from.ensures)

pub returns-in_default-next-clause-read : goal.returns-in_default-next-clause-read
returns-in_default-next-clause-read g c =
    let r = reads_ahead c.args.text.now (lines_left c.loop-count.lines) (lines_left c.take_ahead.new.lines)
    c.loop-count.number c.in-Ok.count c.loop-count.reading c.take_ahead.new.self c.loop-count.invariant.read
    c.in-Ok.ensures.taken in
    let none : lines_left c.take_ahead.new.lines ≡ [] = c.in_default-next.ensures.steps.0 in
    record {
      rom = r.rom;
      spelled = all_spelled c.args.text.now (lines_left c.take_ahead.new.lines) (c.loop-count.number + c.in-Ok.count)
          (events_read c.take_ahead.new.self) (opened_of c.take_ahead.new.self) c.take_ahead.new.self.rom none r;
      fits = c.in-Ok.ensures.held;
      holds = r.holds;
    }

pub loop-count-preserved-then-is_passed : goal.loop-count-preserved-then-is_passed
loop-count-preserved-then-is_passed g c =
    let r = reads_ahead c.args.text.now (lines_left c.loop-count.lines) (lines_left c.take_ahead.new.lines)
    c.loop-count.number c.in-Ok.count c.loop-count.reading c.take_ahead.new.self c.loop-count.invariant.read
    c.in-Ok.ensures.taken in
    let count : c.loop-count.number + c.in-Ok.count + 1 ≡ c.loop-count.number + (c.from.result + 1) = omega (arith, c.from.ensures) in
    let next : lines_left c.take_ahead.new.lines ≡ c.in-Some.line.now ∷ lines_left c.next.new.self =
    c.in-Some.ensures.steps in
    let more = passes c.args.text.now (lines_left c.take_ahead.new.lines) (lines_left c.next.new.self)
    (c.loop-count.number + c.in-Ok.count) (events_read c.take_ahead.new.self) (opened_of c.take_ahead.new.self)
    c.take_ahead.new.self.rom c.in-Some.line.now next r (search rules) in
    record {
      held = c.in-Ok.ensures.held;
      read = subst (λ k. ReadTrace c.args.text.now (lines_left c.next.new.self) k (events_read c.take_ahead.new.self)
          (opened_of c.take_ahead.new.self) c.take_ahead.new.self.rom) count more;
    }

pub loop-count-preserved : goal.loop-count-preserved
loop-count-preserved g c =
    let r = reads_ahead c.args.text.now (lines_left c.loop-count.lines) (lines_left c.take_ahead.new.lines)
    c.loop-count.number c.in-Ok.count c.loop-count.reading c.take_ahead.new.self c.loop-count.invariant.read
    c.in-Ok.ensures.taken in
    let count : c.loop-count.number + c.in-Ok.count + 1 ≡ c.loop-count.number + (c.from.result + 1) = omega (arith, c.from.ensures) in
    let next : lines_left c.take_ahead.new.lines ≡ c.in-Some.line.now ∷ lines_left c.next.new.self =
    c.in-Some.ensures.steps in
    let more = takes c.args.text.now (lines_left c.take_ahead.new.lines) (lines_left c.next.new.self)
    (c.loop-count.number + c.in-Ok.count) (events_read c.take_ahead.new.self) (opened_of c.take_ahead.new.self)
    c.take_ahead.new.self.rom c.in-Some.line.now next r (events_read c.take.new.self) (opened_of c.take.new.self)
    c.take.new.self.rom (search rules) c.in-Ok-take.ensures.taken in
    record {
      held = c.in-Ok-take.ensures.held;
      read = subst (λ k. ReadTrace c.args.text.now (lines_left c.next.new.self) k (events_read c.take.new.self) (opened_of c.take.new.self) c.take.new.self.rom) count more;
    }

pub returns-in-Err-clause-fault : goal.returns-in-Err-clause-fault
returns-in-Err-clause-fault g c =
    let r = reads_ahead c.args.text.now (lines_left c.loop-count.lines) (lines_left c.take_ahead.new.lines)
    c.loop-count.number c.in-Ok.count c.loop-count.reading c.take_ahead.new.self c.loop-count.invariant.read
    c.in-Ok.ensures.taken in
    let count : c.loop-count.number + c.in-Ok.count + 1 ≡ c.loop-count.number + (c.from.result + 1) = omega (arith, c.from.ensures) in
    let next : lines_left c.take_ahead.new.lines ≡ c.in-Some.line.now ∷ lines_left c.next.new.self =
    c.in-Some.ensures.steps in
    let stop = stops c.args.text.now (lines_left c.take_ahead.new.lines) (lines_left c.next.new.self)
    (c.loop-count.number + c.in-Ok.count) (events_read c.take_ahead.new.self) (opened_of c.take_ahead.new.self)
    c.take_ahead.new.self.rom c.in-Some.line.now next r c.in-Err.fault c.requires c.in-Ok.ensures.held (search rules)
    c.in-Err.ensures.fault in
    rw c.at_line.ensures (subst (λ k. StopsReading (fault_at c.in-Err.fault k) c.args.text.now) count stop)
