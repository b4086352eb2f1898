use Rattle.std.proofs.Common.{◌++◌, drop, ap, ◌∙◌, append-nil, rules}
use Rattle.std.proofs.lemmas.List.{drop_all}
use Rattle.dvg_print.specs.Shows.{position_text, stroke_line}
use Rattle.dvg_print.proofs.StrokeTexts.{stroke_put}
use Rattle.dvg_print.proofs.stroke_lines.put_small.Goals as goal

pub returns-clause-text : goal.returns-clause-text
returns-clause-text c =
    let stroke = c.args.stroke.now in
    let x = c.point_at-end.ensures.x in
    let y = c.point_at-end.ensures.y in
    let last = drop c.put_intensity-to.result c.put_intensity-to.new.bytes in
    let end = c.put_point-middle.ensures.text ∙ (λ i. position_text (x i) (y i) ++ last) in
    stroke_put stroke (drop 96 c.args.bytes.now) last _ _ _ c.put_intensity-to.ensures.text end
    c.put_byte-space.ensures.text c.put_start-start.ensures.text
    ∙ ap (λ rest. stroke_line stroke ++ rest) (drop_all 96 c.args.bytes.now (search rules))
    ∙ append-nil (stroke_line stroke)
