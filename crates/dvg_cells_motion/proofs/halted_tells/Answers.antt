use Rattle.dvg_cells_motion.proofs.Wiring.{halted_tells_law}
use Rattle.dvg_cells_motion.proofs.halted_tells.Goals as goal

pub returns : goal.returns
returns c = halted_tells_law
