use Rattle.dvg_closed_board.proofs.RocksContent.{keeps}
use Rattle.dvg_closed_board.proofs.rocks_keeps.Goals as goal

pub returns : goal.returns
returns c = keeps c.games_keep.ensures.keeps
