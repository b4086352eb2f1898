use Rattle.dvg_cells_motion.proofs.Wiring.{takes_time_law}
use Rattle.dvg_cells_motion.proofs.takes_time.Goals as goal

pub returns : goal.returns
returns c = takes_time_law
