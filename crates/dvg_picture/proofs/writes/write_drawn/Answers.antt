use Rattle.std.proofs.Common.{subst}
use Rattle.dvg_io.specs.Watching.{Writes}
use Rattle.dvg_picture.proofs.Recorded.{in_units_text}
use Rattle.dvg_picture.proofs.writes.write_drawn.Goals as goal

pub returns-then-units : goal.returns-then-units
returns-then-units g c =
    subst (λ text. Writes g.W.Write.contents text c.write_moves.result c.args.writer.now c.write_moves.new.writer)
    (in_units_text c.args.units c.args.trace.now c.args.strokes.now c.if-units.true) c.write_moves.ensures
