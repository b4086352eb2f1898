use Rattle.std.proofs.Common.{◌++◌, ap, ◌∙◌, rules, eqb, length, arith}
use Rattle.std.proofs.lemmas.Iterator.{items_from_drains}
use Rattle.std.proofs.lemmas.Iterator.Splits.{YieldsList-from_slice_split}
use Rattle.std.specs.Slice.Iter.{split_callee, split_done, split_rest}
use borrow.Author.Tests.{tests}
use Rattle.dvg_read.specs.LineParts.{bytes_of}
use Rattle.dvg_read.proofs.Cuts.{fewer}
use Rattle.dvg_read.proofs.line_parts.parts_of.Goals as goal

pub returns-in-Ok-clause-found : goal.returns-in-Ok-clause-found
returns-in-Ok-clause-found c =
    let ran = c.in-Ok.ensures.ran in
    let all = items_from_drains ran.1 (ran.4.1.0, ran.4.1.1, λ _. (ran.4.0, ran.4.1.2)) (YieldsList-from_slice_split _ (λ byte. eqb byte 32) c.args.line.now (ap split_rest ran.2 ∙ c.split.ensures.rest) (ap split_done ran.2 ∙ c.split.ensures.done) (ap split_callee ran.2 ∙ c.split.ensures.closure) (λ x b q k. search (rules, tests))) in
    ap bytes_of (ran.3 ∙ ap (λ l. l ++ ran.1) c.new-found.ensures) ∙ all

pub returns-in-Err-clause-many : goal.returns-in-Err-clause-many
returns-in-Err-clause-many c =
    let more = c.in-Err.ensures.one_more in
    let fewer_are = fewer more.1 more.2 more.3 more.5 (YieldsList-from_slice_split _ (λ byte. eqb byte 32) c.args.line.now (ap split_rest more.4 ∙ c.split.ensures.rest) (ap split_done more.4 ∙ c.split.ensures.done) (ap split_callee more.4 ∙ c.split.ensures.closure) (λ x b q k. search (rules, tests))) in
    let count = ap length (more.6 ∙ ap (λ l. l ++ more.1) c.new-found.ensures) in
    omega (arith, fewer_are, count, c.in-Err.ensures.full)
