use Rattle.dvg_progress.proofs.DrawnFromEveryLog.{never_stuck}
use Rattle.dvg_progress.proofs.laws.never_stuck.Goals as goal

pub returns : goal.returns
returns c = never_stuck
