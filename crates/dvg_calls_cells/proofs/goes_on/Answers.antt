use Rattle.dvg_calls_cells.proofs.OneCycleMore.{call_goes_on, cells_go_on, cells_wait_on}
use Rattle.dvg_calls_cells.proofs.goes_on.Goals as goal

pub returns : goal.returns
returns c = record { alone = cells_go_on; waits = cells_wait_on; calls = call_goes_on }
