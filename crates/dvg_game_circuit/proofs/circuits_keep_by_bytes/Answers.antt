use Rattle.dvg_game_circuit.proofs.Games.{by_bytes}
use Rattle.dvg_game_circuit.proofs.circuits_keep_by_bytes.Goals as goal

pub returns : goal.returns
returns c = by_bytes c.games_on_cells_keep_by_bytes.ensures
