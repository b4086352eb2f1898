use Rattle.dvg_cells_cpu.proofs.Interrupting.{hears, interrupts}
use Rattle.dvg_cells_cpu.proofs.cpu_interrupts.Goals as goal

pub returns : goal.returns
returns c = record { comes = interrupts; hears = hears }
