use Rattle.dvg_read.proofs.OneStop.{no_fault_beside}
use Rattle.dvg_read.proofs.laws.no_fault_beside.Goals as goal

pub returns : goal.returns
returns c = no_fault_beside
