use Rattle.dvg_cells_motion.proofs.Machine.{stays_dark_law}
use Rattle.dvg_cells_motion.proofs.Moves.{dacs_law}
use Rattle.dvg_cells_motion.proofs.stays_dark.Goals as goal

pub returns-clause-dark : goal.returns-clause-dark
returns-clause-dark c = stays_dark_law

pub returns-clause-dacs : goal.returns-clause-dacs
returns-clause-dacs c = dacs_law
