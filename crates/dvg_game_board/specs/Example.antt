-- The laws aren't empty: a run of a game that the checker accepts.
use Rattle.std.specs.Prelude.{◌≡◌, ℕ, [], ◌∷◌, Some}
use Rattle.dvg_calls_6502.specs.Processor.{Cpu}
use Rattle.dvg_cells_board.specs.Board.{Bus}
use Rattle.dvg_cells_board.specs.Example.{zeros}
use Rattle.dvg_game_6502.specs.SomeGame.{rom, start}
use Rattle.dvg_game_board.specs.Cabinet.{IsCabinet}

-- zeros, wherever the program's ROM isn't
abbrev pub nothing : ℕ → ℕ
nothing b = 0

-- over a RAM and a ROM of zeros dvg_game_6502's example of a game runs on its board: 18 instructions after its start the driver
-- has booted and reads byte 001, in a clock
abbrev pub SomeCabinet : Type 0
SomeCabinet = (cpu : Cpu) × (clock : Bus)
    × IsCabinet zeros zeros nothing (rom nothing) start (Some (cpu, 18)) (clock ∷ []) × (clock.a ≡ 0x4001)
