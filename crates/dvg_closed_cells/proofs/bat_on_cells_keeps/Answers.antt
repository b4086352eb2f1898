use Rattle.dvg_closed_cells.proofs.Closed.{bat}
use Rattle.dvg_closed_cells.proofs.bat_on_cells_keeps.Goals as goal

pub returns : goal.returns
returns c = bat c.games_on_cells_keep_by_bytes.ensures
