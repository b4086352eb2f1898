-- What the judge's yes to a program says of each run of it on a machine of cells.
use Rattle.std.specs.Prelude.{ℕ, List}
use Rattle.dvg_cells_board.specs.Board.{Bus}
use Rattle.dvg_calls_cells.specs.Machine.{Machine}
use Rattle.dvg_game_cells.specs.Whole.{IsCellsRun}
use Rattle.dvg_game_cells.specs.Keeps.{CellsKeep}
use Rattle.dvg_game_check.specs.Rules.{HasBytes}
use Rattle.dvg_game_check.specs.Verdicts.{IsSafe}

-- that these bytes are safe with this vector ROM, as a yes says, means this of each machine of cells whose ROM has them
abbrev pub JudgedOnCellsKeeps : Type 0
JudgedOnCellsKeeps = (bytes R : List ℕ) (start : ℕ) → IsSafe bytes R start
    → (image : List ℕ) (held rom : ℕ → ℕ) → HasBytes bytes rom
    → (machine : Machine) (work : ℕ → ℕ) (calm : ℕ) (clocks : List Bus)
    → IsCellsRun R image held rom machine work calm clocks → CellsKeep R image held rom start machine clocks
