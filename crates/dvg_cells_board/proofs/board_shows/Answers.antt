use Rattle.std.proofs.Common.{refl}
use Rattle.dvg_cells_board.proofs.board_shows.Goals as goal

pub returns : goal.returns
returns c = λ board. (
  refl,
  refl,
  refl,
  refl,
  refl,
  refl,
  refl,
  refl,
  refl,
  refl,
  refl,
  λ bus. (refl, refl, refl, refl, refl, refl, refl, refl, refl, refl, refl),
)
