-- The cells of core/dvg_vectors.v as yosys reads them: made by core/cells dvg_vectors.
use Rattle.std.specs.Prelude.{ℕ}
use Rattle.dvg_cells_core.specs.Cells.{both, mux, none, part, joined}
use Rattle.dvg_cells_board.specs.Board.{Board}
use Rattle.dvg_cells_board.specs.Board as board
use Rattle.dvg_cells_motion.specs.Pace.{Pace}
use Rattle.dvg_cells_motion.specs.Pace as pace
use Rattle.dvg_cells_motion.specs.Motion.{Motion}
use Rattle.dvg_cells_motion.specs.Motion as motion

-- Yosys 0.23, digest 1f10c98194c795a6

-- the board, the pace, and the motion
pub record Vectors : Type 0 where
  pub board : Board
  pub pace : Pace
  pub motion : Motion

-- the pins that are driven from outside
pub record Bus : Type 0 where
  -- 1 bit
  pub tick : ℕ
  -- 1 bit
  pub reset : ℕ
  -- 1 bit
  pub access : ℕ
  -- 1 bit
  pub write : ℕ
  -- 16 bits
  pub a : ℕ
  -- 8 bits
  pub d : ℕ
  -- 1 bit
  pub big : ℕ
  -- 8 bits
  pub rom : ℕ
  -- what yosys leaves undefined: any number
  pub undefined : ℕ

-- at power-up, with any RAM
abbrev pub powered : (ℕ → ℕ) → Vectors
powered ram =
    record {
      board = board.powered ram;
      pace = pace.zeros;
      motion = motion.zeros;
    }

-- what drives the pins of the board
abbrev pub drives_board : Vectors → Bus → board.Bus
drives_board vectors bus =
    record {
      reset = bus.reset;
      hold = (pace.hold vectors.pace);
      access = bus.access;
      write = bus.write;
      a = bus.a;
      d = bus.d;
      big = bus.big;
      rom = bus.rom;
      undefined = bus.undefined;
    }

-- what drives the pins of the pace
abbrev pub drives_pace : Vectors → Bus → pace.Pins
drives_pace vectors bus =
    record {
      tick = bus.tick;
      start = (board.starts vectors.board (drives_board vectors bus));
      takes = (board.takes vectors.board (drives_board vectors bus));
      ends = (board.ends vectors.board (drives_board vectors bus));
      jsrl = (board.jsrl vectors.board (drives_board vectors bus));
      labs = (board.labs vectors.board (drives_board vectors bus));
      going = (motion.going vectors.motion);
    }

-- what drives the pins of the motion
abbrev pub drives_motion : Vectors → Bus → motion.Pins
drives_motion vectors bus =
    record {
      tick = (pace.steps vectors.pace (drives_pace vectors bus));
      places = (pace.places vectors.pace (drives_pace vectors bus));
      to_x = (part 9 12 (board.x vectors.board));
      to_y = (part 9 12 (board.y vectors.board));
      vec = (board.vec vectors.board (drives_board vectors bus));
      sum = (board.sum vectors.board (drives_board vectors bus));
      dx_sign = (board.dx_sign vectors.board (drives_board vectors bus));
      dy_sign = (board.dy_sign vectors.board (drives_board vectors bus));
      dx = (board.dx vectors.board (drives_board vectors bus));
      dy = (board.dy vectors.board (drives_board vectors bus));
      z = (board.vec_z vectors.board (drives_board vectors bus));
    }

-- the pin `q`
abbrev pub q : Vectors → Bus → ℕ
q vectors bus =
    (board.q vectors.board (drives_board vectors bus))

-- the pin `takes`
abbrev pub takes : Vectors → Bus → ℕ
takes vectors bus =
    (board.takes vectors.board (drives_board vectors bus))

-- the pin `at`
abbrev pub at : Vectors → ℕ
at vectors =
    (board.at vectors.board)

-- the pin `high`
abbrev pub high : Vectors → ℕ
high vectors =
    (board.high vectors.board)

-- the pin `halted`
abbrev pub halted : Vectors → ℕ
halted vectors =
    let n1 : ℕ = both (board.halted vectors.board) (pace.rests vectors.pace) in
    let n2 : ℕ = none (motion.going vectors.motion) in
    both n1 n2

-- the pin `done`
abbrev pub done : Vectors → ℕ
done vectors =
    (board.done vectors.board)

-- the pin `fault`
abbrev pub fault : Vectors → ℕ
fault vectors =
    (board.fault vectors.board)

-- the pin `dac_x`
abbrev pub dac_x : Vectors → ℕ
dac_x vectors =
    (motion.dac_x vectors.motion)

-- the pin `dac_y`
abbrev pub dac_y : Vectors → ℕ
dac_y vectors =
    (motion.dac_y vectors.motion)

-- the pin `lit`
abbrev pub lit : Vectors → ℕ
lit vectors =
    both (motion.lit vectors.motion) (pace.rests vectors.pace)

-- the pin `z`
abbrev pub z : Vectors → ℕ
z vectors =
    mux (pace.rests vectors.pace) (motion.shown_z vectors.motion) 0

-- the pin `going`
abbrev pub going : Vectors → ℕ
going vectors =
    (motion.going vectors.motion)

-- the pin `x`
abbrev pub x : Vectors → ℕ
x vectors =
    vectors.motion.x

-- the pin `y`
abbrev pub y : Vectors → ℕ
y vectors =
    vectors.motion.y

-- the board, the pace, and the motion after a clock
abbrev pub clock : Vectors → Bus → Vectors
clock vectors bus =
    record {
      board = board.clock vectors.board (drives_board vectors bus);
      pace = pace.clock vectors.pace (drives_pace vectors bus);
      motion = motion.clock vectors.motion (drives_motion vectors bus);
    }
