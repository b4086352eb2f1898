use Rattle.dvg_game_circuit.proofs.Games.{rocks}
use Rattle.dvg_game_circuit.proofs.rocks_circuit_keeps.Goals as goal

pub returns : goal.returns
returns c = rocks c.rocks_on_cells_keeps.ensures c.can_be_powered.ensures
