use Rattle.dvg_game_board.proofs.ByBytes.{games_keep_by_bytes}
use Rattle.dvg_game_board.proofs.games_keep_by_bytes.Goals as goal

pub returns : goal.returns
returns c = games_keep_by_bytes c.games_keep.ensures.keeps
