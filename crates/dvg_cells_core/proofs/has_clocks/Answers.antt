use Rattle.dvg_cells_core.proofs.Histories as histories
use Rattle.dvg_cells_core.proofs.has_clocks.Goals as goal

pub returns : goal.returns
returns c = histories.has_clocks
