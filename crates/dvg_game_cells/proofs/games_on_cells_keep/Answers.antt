use Rattle.dvg_game_cells.proofs.CabinetOfCells.{games_on_cells_keep}
use Rattle.dvg_game_cells.proofs.games_on_cells_keep.Goals as goal

pub returns : goal.returns
returns c = games_on_cells_keep (record {
  hindsight = c.hindsight_keeps.ensures;
  shared = c.machine_keeps.ensures.shared;
}) c.games_keep.ensures.keeps c.machine_keeps.ensures.memory
