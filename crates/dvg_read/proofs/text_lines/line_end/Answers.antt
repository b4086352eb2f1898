use Rattle.std.proofs.Common.{length, ap, arith}
use Rattle.std.proofs.lemmas.List.{length-take}
use Rattle.dvg_read.proofs.FirstBytes.{NoneFirst, first_later, none_later, none_more}
use Rattle.dvg_read.proofs.text_lines.line_end.Goals as goal

pub loop-place-preserved : goal.loop-place-preserved
loop-place-preserved c = none_more 10 16 c.args.text.now c.in-Some.head.now c.loop-place.place c.in-Some.ensures.cases.same (omega arith) c.loop-place.invariant c.if-byte-eq10.false

pub returns-in_err-place : goal.returns-in_err-place
returns-in_err-place c =
    let text = c.args.text.now in
    let head = c.in-Some.ensures.cases in
    let none : NoneFirst 10 text 16 = λ k low. c.loop-place.invariant k (omega (arith, low, c.loop-place-test.false, ap length head.same, length-take 16 text, head.enough)) in
    let later = rw c.in_err-place.was at c.memchr-2.ensures in
    rw c.from_residual.ensures (none_later 10 16 text head.enough none later)

pub returns : goal.returns
returns c =
    let text = c.args.text.now in
    let head = c.in-Some.ensures.cases in
    let none : NoneFirst 10 text 16 = λ k low. c.loop-place.invariant k (omega (arith, low, c.loop-place-test.false, ap length head.same, length-take 16 text, head.enough)) in
    first_later 10 16 text c.in_ok-place.place head.enough none (rw c.in_ok-place.was at c.memchr-2.ensures)
