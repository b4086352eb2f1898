use Rattle.std.proofs.Common.{◌≤◌, ◌<◌, ◌++◌, ◌∙◌, [], length, take, length-take, sym, subst, arith, IfSome}
use Rattle.std.specs.Io.KnownBytes.{Consumes}
use Rattle.dvg_io.specs.Watching.{stream_of}
use Rattle.dvg_io.proofs.KnownBytesChain.{Consumes-trans}
use Rattle.dvg_read.specs.Texts.{lines}
use Rattle.dvg_logs.specs.Judging.{ReadsAs}
use Rattle.dvg_logs.proofs.Inputs.{ends_input, stops_at_end, stops_input}
use Rattle.dvg_logs.proofs.judging.judge_text.Goals as goal

pub loop-count-smaller : goal.loop-count-smaller
loop-count-smaller g c =
    let (text, before, read) = c.loop-count.invariant.read in
    let some : 0 < length (take c.in-Ok.count c.read.new.buf) = omega (arith, length-take c.in-Ok.count c.read.new.buf, c.in-Ok.ensures.bound) in
    let farther = c.in-Ok-take_piece.ensures.farther some in
    omega (arith, farther, read.fine.fits, read.short)

pub loop-count-preserved : goal.loop-count-preserved
loop-count-preserved g c =
    let (text, before, read) = c.loop-count.invariant.read in
    record {
      counted = c.in-Ok.ensures.counts ∙ c.loop-count.invariant.counted;
      read = (text ++ take c.in-Ok.count c.read.new.buf, Consumes-trans _ _ _ text (take c.in-Ok.count c.read.new.buf) before c.in-Ok.ensures.bytes.0, c.in-Ok-take_piece.ensures.read c.args.base [] text read);
    }

pub returns-in-Err-clause-reads : goal.returns-in-Err-clause-reads
returns-in-Err-clause-reads g c =
    let (text, before, read) = c.loop-count.invariant.read in
    let base = c.args.base in
    let piece = take c.in-Ok.count c.read.new.buf in
    let short : length (take c.in-Ok.count c.read.new.buf) ≤ 32768 = omega (arith, length-take c.in-Ok.count c.read.new.buf, c.in-Ok.ensures.bound) in
    let known = g.R.Read.remaining (stream_of c.args.reader.now) in
    let new = g.R.Read.remaining (stream_of c.read.new.self) in
    subst (λ answer. IfSome known (λ input. ReadsAs base (g.J.LineJudge.Passes []) g.J.LineJudge.Finds g.J.LineJudge.Ends answer input known new)) (sym c.answer.ensures)
    (stops_input base g.J.LineJudge.Stands (g.J.LineJudge.Passes []) g.J.LineJudge.Finds g.J.LineJudge.Ends c.loop-count.reading c.in-Err.stopped.stop known _ new text piece read short (omega (arith, read.fine.count, c.in-Err.ensures.later)) (λ more. c.in-Err.ensures.stop base [] text more read) before c.in-Ok.ensures.bytes.0)

pub returns-in-Err-finish-clause-reads : goal.returns-in-Err-finish-clause-reads
returns-in-Err-finish-clause-reads g c =
    let (text, before, read) = c.loop-count.invariant.read in
    let base = c.args.base in
    let known = g.R.Read.remaining (stream_of c.args.reader.now) in
    let now = g.R.Read.remaining (stream_of c.loop-count.reader) in
    let new = g.R.Read.remaining (stream_of c.read.new.self) in
    let none = subst (λ n. Consumes now new (take n c.read.new.buf)) c.if-count-eq0.true c.in-Ok.ensures.bytes.0 in
    let at_end = c.in-Ok.ensures.bytes.1 c.if-count-eq0.true (omega arith) in
    subst (λ answer. IfSome known (λ input. ReadsAs base (g.J.LineJudge.Passes []) g.J.LineJudge.Finds g.J.LineJudge.Ends answer input known new)) (sym c.answer-in-Err-finish.ensures)
    (stops_at_end base g.J.LineJudge.Stands (g.J.LineJudge.Passes []) g.J.LineJudge.Finds g.J.LineJudge.Ends c.loop-count.reading c.in-Err-finish.stop known now new text read (omega (arith, read.fine.count, c.in-Err-finish.ensures.next)) (c.in-Err-finish.ensures.stop base [] text read) before none at_end)

pub returns-in-Ok-finish-clause-reads : goal.returns-in-Ok-finish-clause-reads
returns-in-Ok-finish-clause-reads g c =
    let (text, before, read) = c.loop-count.invariant.read in
    let base = c.args.base in
    let known = g.R.Read.remaining (stream_of c.args.reader.now) in
    let now = g.R.Read.remaining (stream_of c.loop-count.reader) in
    let new = g.R.Read.remaining (stream_of c.read.new.self) in
    let none = subst (λ n. Consumes now new (take n c.read.new.buf)) c.if-count-eq0.true c.in-Ok.ensures.bytes.0 in
    let at_end = c.in-Ok.ensures.bytes.1 c.if-count-eq0.true (omega arith) in
    ends_input base g.J.LineJudge.Stands (g.J.LineJudge.Passes []) g.J.LineJudge.Finds g.J.LineJudge.Ends c.at_end.result known now new text (c.at_end.ensures base [] (lines text) (c.in-Ok-finish.ensures.read base [] text read)) before none at_end
