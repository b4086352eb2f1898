use Rattle.std.proofs.Common.{◌++◌, ap, ◌∙◌, append-nil, rules}
use Rattle.std.proofs.lemmas.List.{drop_all}
use Rattle.dvg_print.specs.Shows.{stroke_line}
use Rattle.dvg_print.proofs.stroke_lines.StrokeLines.become_line.Goals as goal

pub returns-then-not-is_small : goal.returns-then-not-is_small
returns-then-not-is_small c =
    let stroke = c.args.stroke.now in
    c.put_any-self-inside.ensures.text
    ∙ ap (λ rest. stroke_line stroke ++ rest) (drop_all 96 c.self.inside.bytes (search rules))
    ∙ append-nil (stroke_line stroke)
