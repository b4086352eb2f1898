use Rattle.dvg_game_cells.proofs.CabinetOfCells.{vectors_on_cells_keep}
use Rattle.dvg_game_cells.proofs.vectors_on_cells_keep.Goals as goal

pub returns : goal.returns
returns c = vectors_on_cells_keep (record {
  hindsight = c.hindsight_keeps.ensures;
  shared = c.machine_keeps.ensures.shared;
}) c.vectors_keep.ensures c.machine_keeps.ensures.memory
