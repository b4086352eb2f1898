use Rattle.dvg_judged_board.proofs.Keeps.{judged}
use Rattle.dvg_judged_board.proofs.judged_keeps.Goals as goal

pub returns : goal.returns
returns c = judged c.games_keep.ensures.keeps
