use Rattle.std.proofs.Common.{ap, ◌∙◌}
use Rattle.dvg_dump.specs.Endings.{end_of}
use Rattle.dvg_picture.specs.Svgs.{strokes_of}
use Rattle.dvg_picture.proofs.ShownSvg.{draws}
use Rattle.dvg_picture.proofs.svg.draw_dump.Goals as goal

pub returns-clause-drawn : goal.returns-clause-drawn
returns-clause-drawn g c =
    let run = c.in_ok-run.run' in
    draws c.args.bytes.now run.ran.items (end_of run.ending) c.in-Ok.strokes.items c.undrawn_by.result c.in_ok-run.ensures.run
    (c.in-Ok.ensures ∙ ap strokes_of c.as_slice.ensures.value) c.undrawn_by.ensures
