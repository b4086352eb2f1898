use Rattle.dvg_code.proofs.Cuttings.{cutting_of, same_cutting}
use Rattle.dvg_code.proofs.laws.one_cutting.Goals as goal

pub returns : goal.returns
returns c = (cutting_of, same_cutting)
