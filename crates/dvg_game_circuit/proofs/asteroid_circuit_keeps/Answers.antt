use Rattle.dvg_game_circuit.proofs.Games.{asteroid}
use Rattle.dvg_game_circuit.proofs.asteroid_circuit_keeps.Goals as goal

pub returns : goal.returns
returns c = asteroid c.asteroid_on_cells_keeps.ensures c.can_be_powered.ensures
