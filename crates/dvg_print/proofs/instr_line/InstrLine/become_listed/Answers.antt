use Rattle.std.proofs.Common.{◌∷◌, ◌++◌, ap, ◌∙◌, rules}
use Rattle.std.proofs.lemmas.List.{drop_all}
use Rattle.dvg_print.specs.Lines.{hex_3, listed_parts, spaced}
use Rattle.dvg_print.proofs.instr_line.InstrLine.become_listed.Goals as goal

pub returns : goal.returns
returns c =
    let listed = listed_parts c.args.code.now c.args.canonical in
    let last = c.put_byte-newline.ensures.text
    ∙ ap (λ rest. 10 ∷ rest) (drop_all 96 c.self.inside.bytes (search rules)) in
    c.put_placed-self-inside.ensures.text ∙ ap (λ rest. hex_3 c.args.place ++ spaced listed ++ rest) last
