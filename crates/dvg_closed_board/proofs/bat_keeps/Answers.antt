use Rattle.dvg_closed_board.proofs.BatContent.{keeps}
use Rattle.dvg_closed_board.proofs.bat_keeps.Goals as goal

pub returns : goal.returns
returns c = keeps c.games_keep.ensures.keeps
