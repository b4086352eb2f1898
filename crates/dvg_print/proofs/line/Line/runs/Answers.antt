use Rattle.std.proofs.Common.{codes, decimal, ◌∷◌, []}
use Rattle.dvg_print.specs.Lines.{spaced}
use Rattle.dvg_print.proofs.GrownLine.{four_parts}
use Rattle.dvg_print.proofs.line.Line.runs.Goals as goal

pub returns-clause-text : goal.returns-clause-text
returns-clause-text c =
    let counts = c.args.counts in
    four_parts c.args.self.now (spaced (decimal counts.runs ∷ [])) (codes " runs,") (spaced (decimal counts.drew ∷ [])) (codes " drew a half,")
    c.number.ensures.text c.text.ensures.text c.number-2.ensures.text c.text-2.ensures.text
