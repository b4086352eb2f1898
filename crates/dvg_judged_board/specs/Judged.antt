-- What the judge's yes to a program says of each run of it on its board.
use Rattle.std.specs.Prelude.{ℕ, List, Option}
use Rattle.dvg_calls_6502.specs.Processor.{Cpu}
use Rattle.dvg_cells_board.specs.Board.{Bus}
use Rattle.dvg_game_board.specs.Cabinet.{IsCabinet}
use Rattle.dvg_game_board.specs.Keeps.{GameKeepsHeadline}
use Rattle.dvg_game_check.specs.Rules.{HasBytes}
use Rattle.dvg_game_check.specs.Verdicts.{IsSafe}

-- that these bytes are safe with this vector ROM, as a yes says, means this of each cabinet whose ROM has them
abbrev pub JudgedKeeps : Type 0
JudgedKeeps = (bytes R : List ℕ) (start : ℕ) → IsSafe bytes R start
    → (image : List ℕ) (held rom : ℕ → ℕ) → HasBytes bytes rom
    → (at : Option (Cpu × ℕ)) (clocks : List Bus) → IsCabinet R image held rom start at clocks
    → GameKeepsHeadline R image held clocks
