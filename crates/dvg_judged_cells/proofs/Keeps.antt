-- The judge's yes has the premises of the law of games on cells.
use Rattle.dvg_game_cells.specs.Keeps.{GamesOnCellsKeep}
use Rattle.dvg_game_check.specs.Rules.{notes_in}
use Rattle.dvg_judged_board.proofs.Keeps.{content_is}
use Rattle.dvg_judged_cells.specs.Judged.{JudgedOnCellsKeeps}

pub judged : GamesOnCellsKeep → JudgedOnCellsKeeps
judged law bytes R start safe image held rom at_bytes machine work calm clocks is =
    law R image held rom start (notes_in safe.notes) (safe.accepted rom at_bytes)
    (content_is bytes R start safe rom at_bytes) machine work calm clocks is
