use Rattle.dvg_named.proofs.NoFaultBeside.{no_fault_beside}
use Rattle.dvg_named.proofs.laws.no_fault_beside.Goals as goal

pub returns : goal.returns
returns c = no_fault_beside
