use Rattle.dvg_cells_motion.proofs.Moves.{vctr_law, svec_law, labs_law}
use Rattle.dvg_cells_motion.proofs.follows.Goals as goal

pub returns-clause-vctr : goal.returns-clause-vctr
returns-clause-vctr c = vctr_law

pub returns-clause-svec : goal.returns-clause-svec
returns-clause-svec c = svec_law

pub returns-clause-labs : goal.returns-clause-labs
returns-clause-labs c = labs_law
