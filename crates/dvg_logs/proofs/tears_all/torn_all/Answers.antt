use Rattle.std.proofs.Common.{◌≤◌, ◌<◌, ◌++◌, ◌∙◌, length, length-take, take, subst, arith, rules, Err, IsNone}
use Rattle.std.specs.Io.KnownBytes.{Consumes}
use Rattle.dvg_io.specs.declared.fault.ToolFault.TheVariants.{Reader}
use Rattle.dvg_io.specs.Watching.{failures_of, stream_of}
use Rattle.dvg_io.proofs.KnownBytesChain.{Consumes-trans}
use Rattle.dvg_logs.proofs.Tellings.{none_failed, takes_known, tears_known, told_ends, told_reader, told_stops}
use Rattle.dvg_logs.proofs.tears_all.torn_all.Goals as goal

pub returns-in_default-clause-tells : goal.returns-in_default-clause-tells
returns-in_default-clause-tells g c =
    let (text, before, told) = c.loop-count.invariant.told in
    let known = g.R.Read.remaining (stream_of c.args.reader.now) in
    let now = g.R.Read.remaining (stream_of c.loop-count.reader) in
    let new = g.R.Read.remaining (stream_of c.read.new.self) in
    let first = g.W.Write.contents (stream_of c.args.writer.now) in
    let last = g.W.Write.contents (stream_of c.loop-count.writer) in
    told_reader c.args.base c.loop-count.telling first last known now new text told before

pub returns-in_default-clause-tears : goal.returns-in_default-clause-tears
returns-in_default-clause-tears g c =
    let known = g.R.Read.remaining (stream_of c.args.reader.now) in
    let new = g.R.Read.remaining (stream_of c.read.new.self) in
    let first = g.W.Write.contents (stream_of c.args.writer.now) in
    let last = g.W.Write.contents (stream_of c.loop-count.writer) in
    tears_known c.args.base (Err Reader) known new first last (returns-in_default-clause-tells g c)

pub returns-then-count-eq0-clause-tells : goal.returns-then-count-eq0-clause-tells
returns-then-count-eq0-clause-tells g c =
    let (text, before, told) = c.loop-count.invariant.told in
    let known = g.R.Read.remaining (stream_of c.args.reader.now) in
    let now = g.R.Read.remaining (stream_of c.loop-count.reader) in
    let new = g.R.Read.remaining (stream_of c.read.new.self) in
    let first = g.W.Write.contents (stream_of c.args.writer.now) in
    let last = g.W.Write.contents (stream_of c.finish.new.writer) in
    let none = subst (λ n. Consumes now new (take n c.read.new.buf)) c.if-count-eq0.true c.in-Ok.ensures.bytes.0 in
    let at_end = c.in-Ok.ensures.bytes.1 c.if-count-eq0.true (omega arith) in
    told_ends c.args.base first last c.finish.result c.loop-count.telling.reading known now new text told.holds (c.finish.ensures.ends c.args.base first text told) before none at_end

pub returns-then-count-eq0-clause-tears : goal.returns-then-count-eq0-clause-tears
returns-then-count-eq0-clause-tears g c =
    let known = g.R.Read.remaining (stream_of c.args.reader.now) in
    let new = g.R.Read.remaining (stream_of c.read.new.self) in
    let first = g.W.Write.contents (stream_of c.args.writer.now) in
    let last = g.W.Write.contents (stream_of c.finish.new.writer) in
    tears_known c.args.base c.finish.result known new first last (returns-then-count-eq0-clause-tells g c)

pub returns-then-count-eq0-clause-took : goal.returns-then-count-eq0-clause-took
returns-then-count-eq0-clause-took g c =
    let known = g.R.Read.remaining (stream_of c.args.reader.now) in
    let new = g.R.Read.remaining (stream_of c.read.new.self) in
    let first = g.W.Write.contents (stream_of c.args.writer.now) in
    let last = g.W.Write.contents (stream_of c.finish.new.writer) in
    takes_known c.args.base c.finish.result known new first last (returns-then-count-eq0-clause-tells g c)

pub returns-in-Some-clause-tells : goal.returns-in-Some-clause-tells
returns-in-Some-clause-tells g c =
    let (text, before, told) = c.loop-count.invariant.told in
    let known = g.R.Read.remaining (stream_of c.args.reader.now) in
    let now = g.R.Read.remaining (stream_of c.loop-count.reader) in
    let new = g.R.Read.remaining (stream_of c.read.new.self) in
    let first = g.W.Write.contents (stream_of c.args.writer.now) in
    let last = g.W.Write.contents (stream_of c.take_piece.new.writer) in
    let short : length (take c.in-Ok.count c.read.new.buf) ≤ 32768 = omega (arith, length-take c.in-Ok.count c.read.new.buf, c.in-Ok.ensures.bound) in
    told_stops c.args.base first last c.in-Some.answer c.loop-count.telling.reading known now new text (take c.in-Ok.count c.read.new.buf) told.holds short
    (λ more. c.in-Some.ensures.ends c.args.base first text more told) before c.in-Ok.ensures.bytes.0

pub returns-in-Some-clause-tears : goal.returns-in-Some-clause-tears
returns-in-Some-clause-tears g c =
    let known = g.R.Read.remaining (stream_of c.args.reader.now) in
    let new = g.R.Read.remaining (stream_of c.read.new.self) in
    let first = g.W.Write.contents (stream_of c.args.writer.now) in
    let last = g.W.Write.contents (stream_of c.take_piece.new.writer) in
    tears_known c.args.base c.in-Some.answer known new first last (returns-in-Some-clause-tells g c)

pub returns-in-Some-clause-took : goal.returns-in-Some-clause-took
returns-in-Some-clause-took g c =
    let known = g.R.Read.remaining (stream_of c.args.reader.now) in
    let new = g.R.Read.remaining (stream_of c.read.new.self) in
    let first = g.W.Write.contents (stream_of c.args.writer.now) in
    let last = g.W.Write.contents (stream_of c.take_piece.new.writer) in
    takes_known c.args.base c.in-Some.answer known new first last (returns-in-Some-clause-tells g c)

pub loop-count-smaller : goal.loop-count-smaller
loop-count-smaller g c =
    let (text, before, told) = c.loop-count.invariant.told in
    let none : IsNone c.take_piece.result = search rules in
    let some : 0 < length (take c.in-Ok.count c.read.new.buf) = omega (arith, length-take c.in-Ok.count c.read.new.buf, c.in-Ok.ensures.bound, c.if-count-eq0.false) in
    let farther = c.take_piece.ensures.farther none some in
    omega (arith, farther, told.holds.fine.fits, told.holds.short)

pub loop-count-preserved : goal.loop-count-preserved
loop-count-preserved g c =
    let (text, before, told) = c.loop-count.invariant.told in
    let none : IsNone c.take_piece.result = search rules in
    let first = g.W.Write.contents (stream_of c.args.writer.now) in
    let piece = take c.in-Ok.count c.read.new.buf in
    record {
      counted = c.in-Ok.ensures.counts ∙ c.loop-count.invariant.counted;
      wrote = c.take_piece.ensures.failed ∙ (none_failed c.take_piece.result (failures_of c.loop-count.writer) none ∙ c.loop-count.invariant.wrote);
      told = (text ++ piece, Consumes-trans _ _ _ text piece before c.in-Ok.ensures.bytes.0, c.take_piece.ensures.told none c.args.base first text told);
    }
