use Rattle.std.proofs.Common.{◌∷◌, [], codes, decimal}
use Rattle.dvg_print.specs.Lines.{hex_3, hex_4}
use Rattle.dvg_print.proofs.Spaced.{spaced_more}
use Rattle.dvg_print.proofs.line.Line.entry.Goals as goal

pub returns-in-Fetched-clause-text : goal.returns-in-Fetched-clause-text
returns-in-Fetched-clause-text g c = rw c.in-Fetched.is c.fetched.ensures.text

pub returns-in-Done-clause-text : goal.returns-in-Done-clause-text
returns-in-Done-clause-text g c =
    let place = codes "done" ∷ hex_3 c.in-Done.address ∷ hex_4 c.in-Done.word ∷ [] in
    rw c.in-Done.is (spaced_more c.args.self.now c.fetched-in-Done.new.self c.number.new.self place (decimal c.args.drew ∷ []) c.fetched-in-Done.ensures.text c.number.ensures.text)
