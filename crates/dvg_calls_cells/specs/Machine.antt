-- The cells of core/dvg_machine.v as yosys reads them: made by core/cells dvg_machine.
use Rattle.std.specs.Prelude.{ℕ}
use Rattle.dvg_cells_core.specs.Cells.{both, either, eq, mux, none, part, joined}
use Rattle.dvg_cells_board.specs.Board.{Board}
use Rattle.dvg_cells_board.specs.Board as board
use Rattle.dvg_cells_cpu.specs.Cpu.{Cpu}
use Rattle.dvg_cells_cpu.specs.Cpu as cpu

-- Yosys 0.23, digest 84ff4e240f3fc53b

-- the registers, the board, and the cpu
pub record Machine : Type 0 where
  -- 1 bit
  pub answers : ℕ
  pub board : Board
  pub cpu : Cpu

-- the pins that are driven from outside
pub record Bus : Type 0 where
  -- 1 bit
  pub reset : ℕ
  -- 1 bit
  pub ready : ℕ
  -- 1 bit
  pub nmi : ℕ
  -- 1 bit
  pub hold : ℕ
  -- 1 bit
  pub big : ℕ
  -- 8 bits
  pub rom : ℕ
  -- 8 bits
  pub m : ℕ
  -- what yosys leaves undefined: any number
  pub undefined : ℕ

-- at power-up, with any RAM
abbrev pub powered : (ℕ → ℕ) → Machine
powered ram =
    record {
      answers = 0;
      board = board.powered ram;
      cpu = cpu.zeros;
    }

-- what drives the pins of the board
abbrev pub drives_board : Machine → Bus → board.Bus
drives_board machine bus =
    let n5 : ℕ = none machine.answers in
    let resets : ℕ = both bus.reset n5 in
    let n6 : ℕ = none machine.answers in
    let n7 : ℕ = none bus.reset in
    let n4 : ℕ = both n6 n7 in
    let access : ℕ = mux bus.ready n4 0 in
    record {
      reset = resets;
      hold = bus.hold;
      access = access;
      write = (cpu.write machine.cpu);
      a = (cpu.at machine.cpu);
      d = (cpu.dout machine.cpu);
      big = bus.big;
      rom = bus.rom;
      undefined = bus.undefined;
    }

-- what drives the pins of the cpu
abbrev pub drives_cpu : Machine → Bus → cpu.Pins
drives_cpu machine bus =
    let n1 : ℕ = eq (part 11 5 (cpu.at machine.cpu)) 8 in
    let n2 : ℕ = eq (cpu.at machine.cpu) 8194 in
    let n3 : ℕ = eq (cpu.at machine.cpu) 12288 in
    let n5 : ℕ = none machine.answers in
    let resets : ℕ = both bus.reset n5 in
    let n8 : ℕ = either n1 n2 in
    let on_board : ℕ = either n8 n3 in
    let din : ℕ = mux on_board (board.q machine.board (drives_board machine bus)) bus.m in
    record {
      reset = resets;
      step = machine.answers;
      nmi = bus.nmi;
      din = din;
    }

-- the pin `access`
abbrev pub access : Machine → Bus → ℕ
access machine bus =
    let n6 : ℕ = none machine.answers in
    let n7 : ℕ = none bus.reset in
    let n4 : ℕ = both n6 n7 in
    mux bus.ready n4 0

-- the pin `write`
abbrev pub write : Machine → ℕ
write machine =
    (cpu.write machine.cpu)

-- the pin `a`
abbrev pub a : Machine → ℕ
a machine =
    (cpu.at machine.cpu)

-- the pin `d`
abbrev pub d : Machine → ℕ
d machine =
    (cpu.dout machine.cpu)

-- the pin `sync`
abbrev pub sync : Machine → ℕ
sync machine =
    (cpu.sync machine.cpu)

-- the pin `takes`
abbrev pub takes : Machine → Bus → ℕ
takes machine bus =
    (board.takes machine.board (drives_board machine bus))

-- the pin `at`
abbrev pub at : Machine → ℕ
at machine =
    (board.at machine.board)

-- the pin `high`
abbrev pub high : Machine → ℕ
high machine =
    (board.high machine.board)

-- the pin `halted`
abbrev pub halted : Machine → ℕ
halted machine =
    (board.halted machine.board)

-- the pin `done`
abbrev pub done : Machine → ℕ
done machine =
    (board.done machine.board)

-- the pin `fault`
abbrev pub fault : Machine → ℕ
fault machine =
    (board.fault machine.board)

-- the pin `stroke`
abbrev pub stroke : Machine → ℕ
stroke machine =
    (board.stroke machine.board)

-- the pin `x0`
abbrev pub x0 : Machine → ℕ
x0 machine =
    (board.x0 machine.board)

-- the pin `y0`
abbrev pub y0 : Machine → ℕ
y0 machine =
    (board.y0 machine.board)

-- the pin `x`
abbrev pub x : Machine → ℕ
x machine =
    (board.x machine.board)

-- the pin `y`
abbrev pub y : Machine → ℕ
y machine =
    (board.y machine.board)

-- the pin `z`
abbrev pub z : Machine → ℕ
z machine =
    (board.z machine.board)

-- the registers after a clock
abbrev pub clock : Machine → Bus → Machine
clock machine bus =
    let n6 : ℕ = none machine.answers in
    let n7 : ℕ = none bus.reset in
    let n4 : ℕ = both n6 n7 in
    let access : ℕ = mux bus.ready n4 0 in
    record {
      answers = access;
      board = board.clock machine.board (drives_board machine bus);
      cpu = cpu.clock machine.cpu (drives_cpu machine bus);
    }
