use Rattle.dvg_closed_cells.proofs.Closed.{test_rom}
use Rattle.dvg_closed_cells.proofs.test_rom_on_cells_keeps.Goals as goal

pub returns : goal.returns
returns c = test_rom c.games_on_cells_keep_by_bytes.ensures
