use Rattle.dvg_closed_cells.proofs.Closed.{first}
use Rattle.dvg_closed_cells.proofs.first_on_cells_keeps.Goals as goal

pub returns : goal.returns
returns c = first c.games_on_cells_keep_by_bytes.ensures
