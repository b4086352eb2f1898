use Rattle.dvg_game_board.proofs.Runs.{games_keep, games_leave_board}
use Rattle.dvg_game_board.proofs.games_keep.Goals as goal

pub returns-clause-keeps : goal.returns-clause-keeps
returns-clause-keeps c =
    games_keep (record { hindsight = c.hindsight_keeps.ensures; shared = c.machine_keeps.ensures.shared })

pub returns-clause-leaves : goal.returns-clause-leaves
returns-clause-leaves c =
    games_leave_board (record { hindsight = c.hindsight_keeps.ensures; shared = c.machine_keeps.ensures.shared })
