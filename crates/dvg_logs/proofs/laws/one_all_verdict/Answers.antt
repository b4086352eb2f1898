use Rattle.dvg_logs.proofs.OneAll.{one_all_verdict}
use Rattle.dvg_logs.proofs.laws.one_all_verdict.Goals as goal

pub returns : goal.returns
returns c = one_all_verdict
