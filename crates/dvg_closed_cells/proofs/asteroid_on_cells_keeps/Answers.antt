use Rattle.dvg_closed_cells.proofs.Closed.{asteroid}
use Rattle.dvg_closed_cells.proofs.asteroid_on_cells_keeps.Goals as goal

pub returns : goal.returns
returns c = asteroid c.games_on_cells_keep_by_bytes.ensures
