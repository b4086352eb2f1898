use Rattle.dvg_cells_board.proofs.Board.{legal, keeps_headline, memory}
use Rattle.dvg_cells_board.proofs.board_keeps.Goals as goal

pub returns : goal.returns
returns c = record { legal = legal; headline = keeps_headline; memory = memory }
