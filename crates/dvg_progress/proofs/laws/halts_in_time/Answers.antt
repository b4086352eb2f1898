use Rattle.dvg_progress.proofs.FetchesSoFar.{halts_in_time}
use Rattle.dvg_progress.proofs.laws.halts_in_time.Goals as goal

pub returns : goal.returns
returns c = halts_in_time
