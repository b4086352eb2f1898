-- The cells of core/dvg_board.v as yosys reads them: made by core/cells dvg_board.
use Rattle.std.specs.Prelude.{ℕ}
use Rattle.dvg_cells_core.specs.Cells.{both, either, eq, lt, mux, none, part, joined}
use Rattle.dvg_cells_core.specs.Core.{Core, Pins, zeros}
use Rattle.dvg_cells_core.specs.Core as cells
use Rattle.dvg_cells_board.specs.Memory.{memrd, memwr}

-- Yosys 0.23, digest cc6859fa35e62e1a

-- the registers, the RAM, and the core
pub record Board : Type 0 where
  -- 8 bits
  pub read : ℕ
  -- 1 bit
  pub starting : ℕ
  -- 1 bit
  pub pending : ℕ
  -- 1 bit
  pub flag : ℕ
  -- 1 bit
  pub ran : ℕ
  -- 2,048 bytes
  pub ram : ℕ → ℕ
  pub core : Core

-- the pins that are driven from outside
pub record Bus : Type 0 where
  -- 1 bit
  pub reset : ℕ
  -- 1 bit
  pub hold : ℕ
  -- 1 bit
  pub access : ℕ
  -- 1 bit
  pub write : ℕ
  -- 16 bits
  pub a : ℕ
  -- 8 bits
  pub d : ℕ
  -- 1 bit
  pub big : ℕ
  -- 8 bits
  pub rom : ℕ
  -- what yosys leaves undefined: any number
  pub undefined : ℕ

-- at power-up, with any RAM
abbrev pub powered : (ℕ → ℕ) → Board
powered ram =
    record {
      read = 0;
      starting = 0;
      pending = 0;
      flag = 0;
      ran = 0;
      ram = ram;
      core = zeros;
    }

-- what drives the pins of the core
abbrev pub pins : Board → Bus → Pins
pins board bus =
    let in_ram : ℕ = lt board.core.at 1024 in
    let n19 : ℕ = none in_ram in
    let n25 : ℕ = lt board.core.at 3072 in
    let first : ℕ = mux bus.big 1024 2048 in
    let n24 : ℕ = lt board.core.at first in
    let n18 : ℕ = none n24 in
    let in_rom : ℕ = both n18 n25 in
    let n20 : ℕ = none in_rom in
    let hole : ℕ = both n19 n20 in
    let din : ℕ = mux in_ram board.read bus.rom in
    record {
      reset = bus.reset;
      start = board.starting;
      valid = board.pending;
      hole = hole;
      din = din;
    }

-- the pin `q`
abbrev pub q : Board → Bus → ℕ
q board bus =
    mux board.flag (joined 7 0 board.ran) board.read

-- the pin `takes`
abbrev pub takes : Board → Bus → ℕ
takes board bus =
    let n21 : ℕ = none bus.reset in
    let n9 : ℕ = both board.pending n21 in
    let n22 : ℕ = none board.starting in
    both n9 n22

-- the pin `starts`
abbrev pub starts : Board → Bus → ℕ
starts board bus =
    let n10 : ℕ = none bus.reset in
    both board.starting n10

-- the pin `at`
abbrev pub at : Board → ℕ
at board =
    board.core.at

-- the pin `high`
abbrev pub high : Board → ℕ
high board =
    board.core.high

-- the pin `halted`
abbrev pub halted : Board → ℕ
halted board =
    (cells.halted board.core)

-- the pin `done`
abbrev pub done : Board → ℕ
done board =
    board.core.done

-- the pin `fault`
abbrev pub fault : Board → ℕ
fault board =
    board.core.fault

-- the pin `stroke`
abbrev pub stroke : Board → ℕ
stroke board =
    board.core.stroke

-- the pin `x0`
abbrev pub x0 : Board → ℕ
x0 board =
    board.core.x0

-- the pin `y0`
abbrev pub y0 : Board → ℕ
y0 board =
    board.core.y0

-- the pin `x`
abbrev pub x : Board → ℕ
x board =
    board.core.x

-- the pin `y`
abbrev pub y : Board → ℕ
y board =
    board.core.y

-- the pin `z`
abbrev pub z : Board → ℕ
z board =
    board.core.z

-- the pin `ends`
abbrev pub ends : Board → Bus → ℕ
ends board bus =
    (cells.ends board.core (pins board bus))

-- the pin `jsrl`
abbrev pub jsrl : Board → Bus → ℕ
jsrl board bus =
    (cells.jsrl board.core (pins board bus))

-- the pin `labs`
abbrev pub labs : Board → Bus → ℕ
labs board bus =
    (cells.labs board.core (pins board bus))

-- the pin `vec`
abbrev pub vec : Board → Bus → ℕ
vec board bus =
    (cells.vec board.core (pins board bus))

-- the pin `sum`
abbrev pub sum : Board → Bus → ℕ
sum board bus =
    (cells.sum board.core (pins board bus))

-- the pin `dx_sign`
abbrev pub dx_sign : Board → Bus → ℕ
dx_sign board bus =
    (cells.dx_sign board.core (pins board bus))

-- the pin `dy_sign`
abbrev pub dy_sign : Board → Bus → ℕ
dy_sign board bus =
    (cells.dy_sign board.core (pins board bus))

-- the pin `dx`
abbrev pub dx : Board → Bus → ℕ
dx board bus =
    (cells.dx board.core (pins board bus))

-- the pin `dy`
abbrev pub dy : Board → Bus → ℕ
dy board bus =
    (cells.dy board.core (pins board bus))

-- the pin `vec_z`
abbrev pub vec_z : Board → Bus → ℕ
vec_z board bus =
    (cells.vec_z board.core (pins board bus))

-- the registers and the RAM after a clock
abbrev pub clock : Board → Bus → Board
clock board bus =
    let n1 : ℕ = eq (part 11 5 bus.a) 8 in
    let n2 : ℕ = eq bus.a 12288 in
    let n3 : ℕ = eq bus.a 8194 in
    let on_ram : ℕ = both bus.access n1 in
    let writes : ℕ = both on_ram bus.write in
    let n4 : ℕ = both bus.access bus.write in
    let sends : ℕ = both n4 n2 in
    let n11 : ℕ = none bus.write in
    let n5 : ℕ = both bus.access n11 in
    let looks : ℕ = both n5 n3 in
    let n12 : ℕ = none (cells.halted board.core) in
    let n13 : ℕ = none bus.hold in
    let n6 : ℕ = both n12 n13 in
    let n15 : ℕ = none on_ram in
    let n16 : ℕ = none bus.reset in
    let n8 : ℕ = both sends n16 in
    let n17 : ℕ = none (cells.halted board.core) in
    let n23 : ℕ = either bus.reset board.starting in
    let moves : ℕ = either n23 board.pending in
    let n14 : ℕ = none moves in
    let n7 : ℕ = both n6 n14 in
    let asks : ℕ = both n7 n15 in
    let n27 : ℕ = mux writes 255 0 in
    let n28 : ℕ = mux writes bus.d (part 0 8 bus.undefined) in
    let place : ℕ = mux on_ram (part 0 11 bus.a) (joined 1 board.core.high (part 0 10 board.core.at)) in
    let n26 : ℕ = memrd board.ram place in
    let n29 : ℕ = mux writes place (part 0 11 bus.undefined) in
    let n30 : ℕ = mux writes board.read n26 in
    record {
      read = n30;
      starting = n8;
      pending = asks;
      flag = looks;
      ran = n17;
      ram = memwr n27 n29 n28 board.ram;
      core = cells.clock board.core (pins board bus);
    }
