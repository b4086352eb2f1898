use Rattle.dvg_moment.proofs.TornRun.{some_run_is_torn}
use Rattle.dvg_moment.proofs.laws.some_run_is_torn.Goals as goal

pub returns : goal.returns
returns c = some_run_is_torn
