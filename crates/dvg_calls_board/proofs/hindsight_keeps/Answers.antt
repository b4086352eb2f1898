use Rattle.dvg_calls_board.proofs.Hindsight.{hindsight_keeps}
use Rattle.dvg_calls_board.proofs.hindsight_keeps.Goals as goal

pub returns : goal.returns
returns c = hindsight_keeps
