use Rattle.std.proofs.Common.{◌≡◌, decimal, subst, ap, ◌∙◌}
use Rattle.dvg_io.specs.Watching.{Writes}
use Rattle.dvg_svg.specs.Svg as spec
use Rattle.dvg_svg.proofs.Texts.{sized}
use Rattle.dvg_svg.proofs.pictures.write_size.Goals as goal

pub returns : goal.returns
returns g c =
    let text : c.as_bytes-side.result.now ≡ decimal (spec.side c.args.percent) = c.as_bytes-side.ensures.value ∙ c.format.ensures.text ∙ ap decimal c.side.ensures in
    subst (λ side. Writes g.W.Write.contents (sized side) c.write_parts.result c.args.writer.now c.write_parts.new.writer) text c.write_parts.ensures
