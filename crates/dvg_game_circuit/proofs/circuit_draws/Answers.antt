use Rattle.dvg_game_circuit.proofs.Pictures.{draws}
use Rattle.dvg_game_circuit.proofs.circuit_draws.Goals as goal

pub returns : goal.returns
returns c = draws c.machine_follows.ensures c.halted_tells.ensures
