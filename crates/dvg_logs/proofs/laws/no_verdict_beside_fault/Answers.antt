use Rattle.dvg_logs.proofs.OneVerdict.{no_verdict_beside_fault}
use Rattle.dvg_logs.proofs.laws.no_verdict_beside_fault.Goals as goal

pub returns : goal.returns
returns c = no_verdict_beside_fault
