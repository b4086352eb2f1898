use Rattle.dvg_logs.proofs.OneVerdict.{one_fault}
use Rattle.dvg_logs.proofs.laws.one_fault.Goals as goal

pub returns : goal.returns
returns c = one_fault
