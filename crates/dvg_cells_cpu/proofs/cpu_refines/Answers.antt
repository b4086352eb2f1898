use Rattle.dvg_cells_cpu.proofs.EachOpcode.{refines}
use Rattle.dvg_cells_cpu.proofs.cpu_refines.Goals as goal

pub returns : goal.returns
returns c = refines
