use Rattle.std.proofs.Common.{◌≡◌, ◌+◌, ◌∙◌, ap, sym, subst, arith, rules, refl}
use Rattle.dvg_read.specs.LineParts.{bytes_of}
use Rattle.dvg_read.specs.Texts.{lines}
use Rattle.dvg_read.specs.TextLines.{lines_left}
use Rattle.dvg_read.specs.LineFaults.{fault_at}
use Rattle.dvg_named.specs.TextReading.{StopsText}
use Rattle.dvg_named.proofs.SketchRead.{are_parts, begins, bounded, goes_by, line_at, many, no_tokens, passes, passes_sourced, plain_is, reads_all, some_tokens, stops_tokens}
use Rattle.dvg_named.proofs.text_reading.read_lines.Goals as goal

pub loop-line-init : goal.loop-line-init
loop-line-init g c =
    let start = c.into_iter-line-iterator.result in
    let all : lines_left start ≡ lines c.args.small.now = search rules in
    record {
      next = tt;
      ends = tt;
      short = search rules;
      sourced = c.new-reading.ensures.sources c.args.small.now (c.first_line.ensures.number, c.first_line.ensures.line);
      read = begins c.args.small.now (lines_left start) c.new-reading.result all c.new-reading.ensures.bare c.new-reading.ensures.reads
          c.new-reading.ensures.top c.new-reading.ensures.entries;
    }

pub overflow_add-number : goal.overflow_add-number
overflow_add-number g c =
    let few = bounded c.args.small.now _ c.loop-line.number c.loop-line.reading c.loop-line.invariant.read c.loop-line.invariant.short in
    omega (arith, few)

pub returns-in-Err-clause-fault : goal.returns-in-Err-clause-fault
returns-in-Err-clause-fault g c text is =
    subst (λ fault. StopsText fault text) (sym (c.at_line.ensures ∙ ap (λ fault. fault_at fault (c.loop-line.number + 1)) c.in-Err.ensures.fault))
    (many c.args.small.now _ _ c.loop-line.number c.loop-line.reading c.in-Some.line.now c.in-Some.ensures.steps c.loop-line.invariant.read
    c.in-Err.ensures.many c.loop-line.invariant.short text is)

pub loop-line-preserved-then-is_empty : goal.loop-line-preserved-then-is_empty
loop-line-preserved-then-is_empty g c = record {
  next = tt;
  ends = tt;
  short = c.loop-line.invariant.short;
  sourced = passes_sourced c.args.small.now _ _ c.loop-line.number c.loop-line.reading c.in-Some.line.now c.in-Some.ensures.steps
      c.loop-line.invariant.read
      (no_tokens c.find_tokens.new.found.items c.in-Some.line.now c.is_empty.result c.is_empty.ensures c.if-is_empty.true
      c.in_default.ensures.found) (record { number = c.loop-line.number + 1; line = c.in-Some.line }) refl refl
      c.loop-line.invariant.sourced;
  read = passes c.args.small.now _ _ c.loop-line.number c.loop-line.reading c.in-Some.line.now c.in-Some.ensures.steps c.loop-line.invariant.read
      (no_tokens c.find_tokens.new.found.items c.in-Some.line.now c.is_empty.result c.is_empty.ensures c.if-is_empty.true
      c.in_default.ensures.found);
}

pub add-requires : goal.add-requires
add-requires g c =
    are_parts c.args.small.now _ _ c.loop-line.number c.loop-line.reading c.in-Some.line.now c.in-Some.ensures.steps c.loop-line.invariant.read
    (bytes_of c.as_slice.result.now) (ap bytes_of c.as_slice.ensures.value ∙ c.in_default.ensures.found)
    (some_tokens c.find_tokens.new.found.items c.in-Some.line.now c.is_empty.result c.is_empty.ensures c.if-is_empty.false
    c.in_default.ensures.found)

pub returns-in-Err-add-clause-fault : goal.returns-in-Err-add-clause-fault
returns-in-Err-add-clause-fault g c text is =
    subst (λ fault. StopsText fault text) (sym c.at_line-in-Err-add.ensures)
    (stops_tokens c.args.small.now _ _ c.loop-line.number c.loop-line.reading c.in-Some.line.now c.in-Some.ensures.steps c.loop-line.invariant.read
    (bytes_of c.as_slice.result.now) (ap bytes_of c.as_slice.ensures.value ∙ c.in_default.ensures.found)
    (some_tokens c.find_tokens.new.found.items c.in-Some.line.now c.is_empty.result c.is_empty.ensures c.if-is_empty.false
    c.in_default.ensures.found)
    c.in-Err-add.fault c.in-Err-add.ensures.fault c.loop-line.invariant.short text is)

pub loop-line-preserved : goal.loop-line-preserved
loop-line-preserved g c = record {
  next = tt;
  ends = tt;
  short = c.loop-line.invariant.short;
  sourced = c.in_default-add.ensures.sources c.args.small.now c.loop-line.invariant.sourced
      (line_at c.args.small.now _ _ c.loop-line.number c.loop-line.reading c.in-Some.line.now c.in-Some.ensures.steps c.loop-line.invariant.read
      _ refl refl)
      (plain_is c.args.small.now _ _ c.loop-line.number c.loop-line.reading c.in-Some.line.now c.in-Some.ensures.steps c.loop-line.invariant.read
      (bytes_of c.as_slice.result.now) (ap bytes_of c.as_slice.ensures.value ∙ c.in_default.ensures.found)
      (some_tokens c.find_tokens.new.found.items c.in-Some.line.now c.is_empty.result c.is_empty.ensures c.if-is_empty.false
      c.in_default.ensures.found))
      c.loop-line.invariant.read.rom c.loop-line.invariant.read.reads;
  read = goes_by c.args.small.now _ _ c.loop-line.number c.loop-line.reading c.in-Some.line.now c.in-Some.ensures.steps c.loop-line.invariant.read
      (bytes_of c.as_slice.result.now) (ap bytes_of c.as_slice.ensures.value ∙ c.in_default.ensures.found)
      (some_tokens c.find_tokens.new.found.items c.in-Some.line.now c.is_empty.result c.is_empty.ensures c.if-is_empty.false
      c.in_default.ensures.found)
      c.add.new.self c.in_default-add.ensures.added
      (λ rom reads. c.in_default-add.ensures.numbers rom c.args.small.now (c.loop-line.number + 1) reads c.loop-line.invariant.sourced);
}

pub returns-clause-read : goal.returns-clause-read
returns-clause-read g c =
    reads_all c.args.small.now _ c.loop-line.number c.loop-line.reading c.in-None.ensures.steps.0 c.loop-line.invariant.read
    c.loop-line.invariant.short c.loop-line.invariant.sourced
