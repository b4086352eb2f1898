use Rattle.dvg_game_6502.proofs.OnLog.{games_call}
use Rattle.dvg_game_6502.proofs.games_call.Goals as goal

pub returns : goal.returns
returns c = games_call
