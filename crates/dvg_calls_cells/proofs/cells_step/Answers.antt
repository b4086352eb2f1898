use Rattle.dvg_calls_cells.proofs.CallOnCells.{cells_step}
use Rattle.dvg_calls_cells.proofs.cells_step.Goals as goal

pub returns : goal.returns
returns c = cells_step
