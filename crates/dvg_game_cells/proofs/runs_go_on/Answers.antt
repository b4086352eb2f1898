use Rattle.dvg_game_cells.proofs.RunCanGoOn.{runs_go_on}
use Rattle.dvg_game_cells.proofs.runs_go_on.Goals as goal

pub returns : goal.returns
returns c = runs_go_on
