use Rattle.dvg_judged_cells.proofs.Keeps.{judged}
use Rattle.dvg_judged_cells.proofs.judged_on_cells_keeps.Goals as goal

pub returns : goal.returns
returns c = judged c.games_on_cells_keep.ensures
