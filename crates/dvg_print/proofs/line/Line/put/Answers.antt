use Rattle.std.proofs.Common.{ap, ◌∙◌, set}
use Rattle.dvg_print.proofs.Counting.{take_set}
use Rattle.dvg_print.proofs.line.Line.put.Goals as goal

pub returns : goal.returns
returns c =
    take_set c.self.inside.count c.self.inside.bytes c.args.at c.args.byte
    ∙ ap (λ l. set l c.args.at c.args.byte) c.self.view_is
