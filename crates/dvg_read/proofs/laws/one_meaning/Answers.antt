use Rattle.dvg_read.proofs.DraftSteps.{one_meaning}
use Rattle.dvg_read.proofs.laws.one_meaning.Goals as goal

pub returns : goal.returns
returns c = one_meaning
