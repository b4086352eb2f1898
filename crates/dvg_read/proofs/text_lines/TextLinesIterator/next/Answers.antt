use Rattle.std.proofs.Common.{arith}
use Rattle.std.proofs.lemmas.Grind.{common_steps}
use Rattle.dvg_read.proofs.FirstBytes.{IsCutAt, cut_at_first}
use Rattle.dvg_read.proofs.LineEnds.{line_ended, line_unended}
use Rattle.dvg_read.proofs.text_lines.TextLinesIterator.next.Goals as goal

pub returns-in-Some-clause-steps : goal.returns-in-Some-clause-steps
returns-in-Some-clause-steps c =
    let text = c.args.self.now.rest.now in
    let cut : IsCutAt 10 text c.line_end.result = cut_at_first 10 text _ c.line_end.ensures in
    line_ended text c.in-Some.end (rw c.in-Some.is at cut)

pub returns-in-None-clause-steps : goal.returns-in-None-clause-steps
returns-in-None-clause-steps c =
    let text = c.args.self.now.rest.now in
    let cut : IsCutAt 10 text c.line_end.result = cut_at_first 10 text _ c.line_end.ensures in
    line_unended text (grind (arith, common_steps)) (rw c.in-None.is at cut)
