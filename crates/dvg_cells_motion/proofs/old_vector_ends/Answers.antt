use Rattle.dvg_cells_motion.proofs.Resets.{old_vector_ends_law}
use Rattle.dvg_cells_motion.proofs.old_vector_ends.Goals as goal

pub returns : goal.returns
returns c = old_vector_ends_law
