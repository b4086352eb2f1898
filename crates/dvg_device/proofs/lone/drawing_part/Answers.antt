use Rattle.std.proofs.Common.{◌<◌, ◌*◌, List, length, [], ◌∷◌, ◌++◌, Some, inl, inr, sym, ap, ◌∙◌, subst}
use Rattle.std.specs.Prelude.{slice_get}
use Rattle.dvg_gen.specs.declared.stroke.Stroke.{Stroke}
use Rattle.dvg_device.specs.declared.state.StatePart.TheVariants.{Place}
use Rattle.dvg_device.specs.States.{stroke_parts}
use Rattle.dvg_device.proofs.StateParts.{last_place, no_place, past_place, stroke_part}
use Rattle.dvg_device.proofs.lone.drawing_part.Goals.{else-stroke-count-2-via-then-stroke-count-2+else-i-eq0}
use Rattle.dvg_device.proofs.lone.drawing_part.Goals.{else-stroke-count-2-via-else-stroke-count-2}
use Rattle.dvg_device.proofs.lone.drawing_part.Goals as goal

pub returns-then-stroke-count : goal.returns-then-stroke-count
returns-then-stroke-count c =
    let beam = c.args.generator.now.beam in
    let rest = Place beam.x beam.y ∷ [] in
    let none : Stroke = record { x0 = 0; y0 = 0; x1 = 0; y1 = 0; z = 0 } in
    let strokes = c.strokes_so_far-strokes.result.now in
    ap Some c.part_of_stroke.ensures
    ∙ sym (stroke_part strokes rest c.args.i none c.if-stroke-count.true)
    ∙ ap (λ strokes. slice_get (stroke_parts strokes ++ rest) c.args.i) c.strokes_so_far-strokes.ensures

pub returns-then-i-eq0 : goal.returns-then-i-eq0
returns-then-i-eq0 c =
    let drawn = ap length c.strokes_so_far-strokes.ensures in
    let beam = c.beam.view_is ∙ c.beam-beam.ensures.value in
    ap (λ beam. Some (Place beam.x beam.y)) beam
    ∙ sym (last_place c.args.generator.now c.args.i (c.if-stroke-count-2.true ∙ drawn) c.if-i-eq0.true)

pub returns-else-stroke-count-2 : goal.returns-else-stroke-count-2
returns-else-stroke-count-2 c =
    let strokes = c.strokes_so_far-strokes.result.now in
    let outside = c.if-stroke-count.false in
    let past : 2 * length strokes < c.args.i = past_place (length strokes) c.args.i outside
    (elim c.else-stroke-count-2.branch [
      | else-stroke-count-2-via-then-stroke-count-2+else-i-eq0 w ↦ inr w.if-i-eq0.false
      | else-stroke-count-2-via-else-stroke-count-2 w ↦ inl w.if-stroke-count-2.false
    ]) in
    sym (no_place c.args.generator.now c.args.i
    (subst (λ (strokes : List Stroke). 2 * length strokes < c.args.i) c.strokes_so_far-strokes.ensures past))
