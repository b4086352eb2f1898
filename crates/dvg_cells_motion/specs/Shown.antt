-- The pins of a whole machine, by those of its board, its pace and its motion.
use Rattle.std.specs.Prelude.{◌≡◌}
use Rattle.dvg_cells_core.specs.Cells.{both, mux, none}
use Rattle.dvg_cells_board.specs.Board as board
use Rattle.dvg_cells_motion.specs.Motion as motion
use Rattle.dvg_cells_motion.specs.Pace.{rests}
use Rattle.dvg_cells_motion.specs.Vectors.{Vectors, Bus, drives_board, drives_motion}
use Rattle.dvg_cells_motion.specs.Vectors as pin

-- what the monitor gets is the motion's, but dark until an instruction's own ticks are over; `halted` is high where the
-- board's flag is, these are over, and no vector goes
abbrev pub ShowsMotion : Vectors → Type 0
ShowsMotion vectors = (pin.dac_x vectors ≡ motion.dac_x vectors.motion) × (pin.dac_y vectors ≡ motion.dac_y vectors.motion)
    × (pin.z vectors ≡ mux (rests vectors.pace) (motion.shown_z vectors.motion) 0)
    × (pin.lit vectors ≡ both (motion.lit vectors.motion) (rests vectors.pace))
    × (pin.halted vectors ≡ both (both (board.halted vectors.board) (rests vectors.pace)) (none (motion.going vectors.motion)))
    × (pin.going vectors ≡ motion.going vectors.motion) × (pin.x vectors ≡ vectors.motion.x) × (pin.y vectors ≡ vectors.motion.y)

-- the pins of the processor's bus and of fetches are the board's
abbrev pub ShowsBoard : Vectors → Bus → Type 0
ShowsBoard vectors bus = (pin.q vectors bus ≡ board.q vectors.board (drives_board vectors bus))
    × (pin.takes vectors bus ≡ board.takes vectors.board (drives_board vectors bus))
    × (pin.at vectors ≡ board.at vectors.board) × (pin.high vectors ≡ board.high vectors.board)
    × (pin.done vectors ≡ board.done vectors.board) × (pin.fault vectors ≡ board.fault vectors.board)

-- what is driven from outside drives the board, and the core's vectors and the ticks that aren't own ones drive the motion
abbrev pub Drives : Vectors → Bus → Type 0
Drives vectors bus = ((drives_board vectors bus).reset ≡ bus.reset) × ((drives_board vectors bus).access ≡ bus.access)
    × ((drives_board vectors bus).write ≡ bus.write) × ((drives_board vectors bus).a ≡ bus.a)
    × ((drives_board vectors bus).d ≡ bus.d) × ((drives_board vectors bus).big ≡ bus.big)
    × ((drives_board vectors bus).rom ≡ bus.rom)
    × ((drives_motion vectors bus).z ≡ board.vec_z vectors.board (drives_board vectors bus))
    × ((drives_motion vectors bus).tick ≡ both bus.tick (rests vectors.pace))

-- in each clock, whatever came before
abbrev pub ShowsParts : Type 0
ShowsParts = (vectors : Vectors) (bus : Bus) → ShowsMotion vectors × ShowsBoard vectors bus × Drives vectors bus
