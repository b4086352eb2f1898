use Rattle.dvg_named.proofs.OneMeaning.{one_meaning}
use Rattle.dvg_named.proofs.laws.one_meaning.Goals as goal

pub returns : goal.returns
returns c = one_meaning
