use Rattle.dvg_game_circuit.proofs.Pictures.{pictures}
use Rattle.dvg_game_circuit.proofs.circuit_takes_picture.Goals as goal

pub returns : goal.returns
returns c = pictures c.takes_picture.ensures
