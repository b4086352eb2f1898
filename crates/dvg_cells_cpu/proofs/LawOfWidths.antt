-- The law of widths.
use Rattle.std.proofs.Common.{arith, lit<}
use Rattle.dvg_cells_cpu.specs.Cpu.{Pins}
use Rattle.dvg_cells_cpu.specs.Widths.{CpuFits}
use Rattle.dvg_cells_cpu.proofs.Widths.{all_in}

abbrev some_pins : Pins
some_pins = record { reset = 0; step = 0; nmi = 0; din = 0 }

pub fits : CpuFits
fits = (
  omega arith,
  λ cells pins is nmi din. (all_in cells pins is nmi din).0,
  λ cells is. let all = all_in cells some_pins is (lit< tt) (lit< tt) in (all.1, all.2, all.3),
)
