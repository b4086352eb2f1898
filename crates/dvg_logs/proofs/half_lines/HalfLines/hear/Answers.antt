use Rattle.std.proofs.Common.{◌∷◌}
use Rattle.dvg_logs.specs.LogLineTells.{line_of}
use Rattle.dvg_logs.proofs.DrawnCounts.{draws_by}
use Rattle.dvg_logs.proofs.half_lines.HalfLines.hear.Goals as goal

pub returns-clause-stands : goal.returns-clause-stands
returns-clause-stands c = λ log so few.
    let line = line_of c.args.logged in
    let stands = c.tell-torn.ensures.stands log so.stands in
    record {
      stands = stands;
      counts = c.count.ensures log so.counts few
          (draws_by line log c.begins-draws.result _ _ c.begins-draws.ensures (c.is_drawing-drew.ensures.counted log so.stands) (c.is_drawing.ensures.counted (line ∷ log) stands));
    }
