use Rattle.dvg_closed_board.proofs.FirstContent.{keeps}
use Rattle.dvg_closed_board.proofs.first_keeps.Goals as goal

pub returns : goal.returns
returns c = keeps c.games_keep.ensures.keeps
