use Rattle.dvg_judged_circuit.proofs.Keeps.{judged}
use Rattle.dvg_judged_circuit.proofs.judged_on_circuit_keeps.Goals as goal

pub returns : goal.returns
returns c = judged c.judged_on_cells_keeps.ensures
