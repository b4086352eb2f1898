use Rattle.dvg_logs.proofs.OneVerdict.{one_verdict}
use Rattle.dvg_logs.proofs.laws.one_verdict.Goals as goal

pub returns : goal.returns
returns c = one_verdict
