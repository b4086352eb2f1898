-- The board's pins that show its core.
use Rattle.std.specs.Prelude.{◌≡◌}
use Rattle.dvg_cells_core.specs.Cells.{both, none}
use Rattle.dvg_cells_core.specs.Core.{halted}
use Rattle.dvg_cells_core.specs.Core as core
use Rattle.dvg_cells_board.specs.Board.{Board, Bus, pins}
use Rattle.dvg_cells_board.specs.Board as pin

-- those that tell of the clock itself: each is the core's, and `starts` is its `start` without a reset
abbrev pub TellsCore : Board → Bus → Type 0
TellsCore board bus = (pin.starts board bus ≡ both (pins board bus).start (none (pins board bus).reset))
    × (pin.ends board bus ≡ core.ends board.core (pins board bus))
    × (pin.jsrl board bus ≡ core.jsrl board.core (pins board bus))
    × (pin.labs board bus ≡ core.labs board.core (pins board bus))
    × (pin.vec board bus ≡ core.vec board.core (pins board bus))
    × (pin.sum board bus ≡ core.sum board.core (pins board bus))
    × (pin.dx_sign board bus ≡ core.dx_sign board.core (pins board bus))
    × (pin.dy_sign board bus ≡ core.dy_sign board.core (pins board bus))
    × (pin.dx board bus ≡ core.dx board.core (pins board bus))
    × (pin.dy board bus ≡ core.dy board.core (pins board bus))
    × (pin.vec_z board bus ≡ core.vec_z board.core (pins board bus))

-- each is the core's
abbrev pub ShowsCore : Type 0
ShowsCore = (board : Board) → (pin.at board ≡ board.core.at) × (pin.high board ≡ board.core.high)
    × (pin.halted board ≡ halted board.core) × (pin.done board ≡ board.core.done) × (pin.fault board ≡ board.core.fault)
    × (pin.stroke board ≡ board.core.stroke) × (pin.x0 board ≡ board.core.x0) × (pin.y0 board ≡ board.core.y0)
    × (pin.x board ≡ board.core.x) × (pin.y board ≡ board.core.y) × (pin.z board ≡ board.core.z)
    × ((bus : Bus) → TellsCore board bus)
