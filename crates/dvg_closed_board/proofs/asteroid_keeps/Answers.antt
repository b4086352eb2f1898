use Rattle.dvg_closed_board.proofs.AsteroidContent.{keeps}
use Rattle.dvg_closed_board.proofs.asteroid_keeps.Goals as goal

pub returns : goal.returns
returns c = keeps c.games_keep.ensures.keeps
