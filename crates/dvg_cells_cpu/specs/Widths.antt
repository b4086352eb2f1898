-- Registers and pins fit their widths, which numbers don't carry.
use Rattle.std.specs.Prelude.{◌<◌}
use Rattle.dvg_cells_cpu.specs.Cpu.{Cpu as Cells, Pins, zeros, clock, at, write, dout}

pub record Fits (cells : Cells) : Type 0 where
  pub a : cells.a < 256
  pub x : cells.x < 256
  pub y : cells.y < 256
  pub s : cells.s < 256
  pub pc : cells.pc < 65536
  pub n : cells.n < 2
  pub v : cells.v < 2
  pub d : cells.d < 2
  pub i : cells.i < 2
  pub z : cells.z < 2
  pub c : cells.c < 2
  -- the states of core/dvg_cpu.v: those from 21 to 31 don't come
  pub state : cells.state < 21
  pub ir : cells.ir < 256
  pub low : cells.low < 256
  pub high : cells.high < 256
  pub back : cells.back < 256
  pub was : cells.was < 2
  pub due : cells.due < 2

-- at power-up, and after each clock of a bit `nmi` and a byte `din`; so do the pins
abbrev pub CpuFits : Type 0
CpuFits = Fits zeros
    × ((cells : Cells) (pins : Pins) → Fits cells → pins.nmi < 2 → pins.din < 256 → Fits (clock cells pins))
    × ((cells : Cells) → Fits cells → (at cells < 65536) × (write cells < 2) × (dout cells < 256))
