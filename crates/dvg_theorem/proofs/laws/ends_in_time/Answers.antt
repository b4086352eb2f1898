use Rattle.dvg_theorem.proofs.InTime.{ends_in_time}
use Rattle.dvg_theorem.proofs.laws.ends_in_time.Goals as goal

pub returns : goal.returns
returns c = ends_in_time
