use Rattle.std.proofs.Common.{◌≡◌, ◌*◌, decimal, subst, ap, ◌∙◌}
use Rattle.dvg_io.specs.Watching.{Writes}
use Rattle.dvg_svg.specs.Svg as spec
use Rattle.dvg_svg.proofs.Texts.{turned}
use Rattle.dvg_svg.proofs.pictures.write_first_turn.Goals as goal

pub returns : goal.returns
returns g c =
    let last : c.as_bytes.result.now ≡ decimal c.args.last = c.as_bytes.ensures.value ∙ c.format.ensures.text in
    let seen : c.as_bytes-2.result.now ≡ decimal (spec.seen c.args.rate) = c.as_bytes-2.ensures.value ∙ c.format-2.ensures.text ∙ ap decimal c.seen.ensures in
    let hidden : c.as_bytes-3.result.now ≡ decimal (spec.seen c.args.rate * c.args.last) = c.as_bytes-3.ensures.value ∙ c.format-3.ensures.text ∙ ap decimal c.hidden.ensures in
    let all = ap (λ text. turned text c.as_bytes-2.result.now c.as_bytes-3.result.now) last
    ∙ ap (λ text. turned (decimal c.args.last) text c.as_bytes-3.result.now) seen
    ∙ ap (λ text. turned (decimal c.args.last) (decimal (spec.seen c.args.rate)) text) hidden in
    subst (λ text. Writes g.W.Write.contents text c.write_parts.result c.args.writer.now c.write_parts.new.writer) all c.write_parts.ensures
