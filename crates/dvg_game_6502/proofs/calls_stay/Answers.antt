use Rattle.dvg_game_6502.proofs.CallsStay.{calls_stay}
use Rattle.dvg_game_6502.proofs.calls_stay.Goals as goal

pub returns : goal.returns
returns c = calls_stay
