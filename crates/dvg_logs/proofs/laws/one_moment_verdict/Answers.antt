use Rattle.dvg_logs.proofs.OneMoment.{one_moment_verdict}
use Rattle.dvg_logs.proofs.laws.one_moment_verdict.Goals as goal

pub returns : goal.returns
returns c = one_moment_verdict
