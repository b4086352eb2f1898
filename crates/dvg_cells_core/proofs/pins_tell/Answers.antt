use Rattle.dvg_cells_core.proofs.Tells.{pins_tell_law, pins_rest_law}
use Rattle.dvg_cells_core.proofs.pins_tell.Goals as goal

pub returns-clause-event : goal.returns-clause-event
returns-clause-event c = pins_tell_law

pub returns-clause-rest : goal.returns-clause-rest
returns-clause-rest c = pins_rest_law
