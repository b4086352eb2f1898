use Rattle.dvg_closed_cells.proofs.Closed.{rocks}
use Rattle.dvg_closed_cells.proofs.rocks_on_cells_keeps.Goals as goal

pub returns : goal.returns
returns c = rocks c.games_on_cells_keep_by_bytes.ensures
