use Rattle.dvg_game_circuit.proofs.Games.{games_load}
use Rattle.dvg_game_circuit.proofs.games_load.Goals as goal

pub returns : goal.returns
returns c = games_load c.can_be_powered.ensures
