use Rattle.dvg_game_6502.proofs.OnLog.{vectors_call}
use Rattle.dvg_game_6502.proofs.vectors_call.Goals as goal

pub returns : goal.returns
returns c = vectors_call
