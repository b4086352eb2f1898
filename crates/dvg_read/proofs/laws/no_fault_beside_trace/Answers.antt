use Rattle.dvg_read.proofs.OneTrace.{no_fault_beside_trace}
use Rattle.dvg_read.proofs.laws.no_fault_beside_trace.Goals as goal

pub returns : goal.returns
returns c = no_fault_beside_trace
