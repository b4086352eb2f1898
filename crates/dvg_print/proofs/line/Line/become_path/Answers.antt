use Rattle.std.proofs.Common.{◌++◌, [], ◌∷◌, ◌∙◌, ap, codes, rules}
use Rattle.std.proofs.lemmas.Int.{to_z-of_z}
use mir.Val.{SFits}
use mir.Syntax.{w32}
use Rattle.dvg_print.specs.Svg as spec
use Rattle.dvg_print.specs.Svg.{pair_text}
use Rattle.dvg_print.proofs.GrownLine.{joined, pair_is}
use Rattle.dvg_print.proofs.line.Line.become_path.Goals as goal

pub returns : goal.returns
returns c =
    let stroke = c.args.stroke in
    let x0 : SFits w32 c.centred.result = search rules in
    let y0 : SFits w32 c.centred-2.result = search rules in
    let dx : SFits w32 c.way.result = search rules in
    let dy : SFits w32 c.way-2.result = search rules in
    let first = simp to_z-of_z at c.pair.ensures.text in
    let second = simp to_z-of_z at c.pair-2.ensures.text in
    joined (codes "<path d=\"M") (pair_text (spec.centred stroke.x0) (spec.centred stroke.y0))
    (codes "l") (pair_text (spec.way stroke.x0 stroke.x1) (spec.way stroke.y0 stroke.y1))
    (codes "\" opacity=\"") (spec.opacity stroke.z) (codes "\"/>") (10 ∷ [])
    c.text.new.self c.pair.new.self c.text-2.new.self c.pair-2.new.self c.text-3.new.self c.opacity.new.self
    c.text-4.new.self
    (c.text.ensures.text ∙ ap (λ l. l ++ codes "<path d=\"M") c.clear.ensures)
    (pair_is _ _ _ _ _ _ first c.centred.ensures.value c.centred-2.ensures.value)
    c.text-2.ensures.text
    (pair_is _ _ _ _ _ _ second c.way.ensures.value c.way-2.ensures.value)
    c.text-3.ensures.text c.opacity.ensures.text c.text-4.ensures.text
