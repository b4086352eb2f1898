use Rattle.std.proofs.Common.{[], ◌∷◌, ◌++◌, drop, ap, sym, ◌∙◌, append_assoc, rules}
use Rattle.std.proofs.lemmas.Grind.{flat_map-append}
use Rattle.std.proofs.lemmas.List.{drop_all}
use Rattle.dvg_print.specs.Lines.{hex_3, listed_parts, spaced}
use Rattle.dvg_print.specs.RunLines.{beam_parts}
use Rattle.dvg_print.proofs.instr_line.InstrLine.become_instruction.Goals as goal

pub returns : goal.returns
returns c =
    let listed = listed_parts c.args.code.now c.args.canonical in
    let beam = beam_parts c.args.beam.now in
    let address = c.args.address in
    let last = c.put_byte-newline.ensures.text
    ∙ ap (λ rest. 10 ∷ rest) (drop_all 96 c.self.inside.bytes (search rules)) in
    let after = c.put_beam-at.ensures.text ∙ ap (λ rest. spaced beam ++ rest) last in
    c.put_placed-self-inside.ensures.text
    ∙ ap (λ n. hex_3 n ++ spaced listed ++ drop c.put_beam-at.result c.put_beam-at.new.bytes) c.from.ensures
    ∙ ap (λ rest. hex_3 address ++ spaced listed ++ rest) after
    ∙ ap (λ text. hex_3 address ++ text) (
    sym (append_assoc (spaced listed) (spaced beam) (10 ∷ []))
    ∙ ap (λ text. text ++ 10 ∷ []) (sym (flat_map-append (λ part. 32 ∷ part) listed beam))
    )
