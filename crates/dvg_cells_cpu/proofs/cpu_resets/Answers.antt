use Rattle.dvg_cells_cpu.proofs.Interrupting.{powers_up, reset_keeps, restarts}
use Rattle.dvg_cells_cpu.proofs.cpu_resets.Goals as goal

pub returns : goal.returns
returns c = record { keeps = reset_keeps; restarts = restarts; powers_up = powers_up }
