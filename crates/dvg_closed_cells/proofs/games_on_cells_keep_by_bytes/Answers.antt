use Rattle.dvg_closed_cells.proofs.Closed.{by_bytes}
use Rattle.dvg_closed_cells.proofs.games_on_cells_keep_by_bytes.Goals as goal

pub returns : goal.returns
returns c = by_bytes c.games_on_cells_keep.ensures
