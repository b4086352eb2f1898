use Rattle.dvg_cells_motion.proofs.Halts.{takes_picture_law}
use Rattle.dvg_cells_motion.proofs.takes_picture.Goals as goal

pub returns : goal.returns
returns c = takes_picture_law
