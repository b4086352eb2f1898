use Rattle.dvg_cells_cpu.proofs.EachOpcode.{stays}
use Rattle.dvg_cells_cpu.proofs.cpu_stays.Goals as goal

pub returns : goal.returns
returns c = stays
