use Rattle.dvg_cells_motion.proofs.Moves.{shows_law}
use Rattle.dvg_cells_motion.proofs.shows.Goals as goal

pub returns : goal.returns
returns c = shows_law
