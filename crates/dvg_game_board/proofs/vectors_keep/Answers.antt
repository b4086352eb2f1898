use Rattle.dvg_game_board.proofs.Runs.{vectors_keep}
use Rattle.dvg_game_board.proofs.vectors_keep.Goals as goal

pub returns : goal.returns
returns c = vectors_keep (record { hindsight = c.hindsight_keeps.ensures; shared = c.machine_keeps.ensures.shared })
