use Rattle.dvg_game_circuit.proofs.Around.{goes_around}
use Rattle.dvg_game_circuit.proofs.board_goes_around.Goals as goal

pub returns : goal.returns
returns c = goes_around
