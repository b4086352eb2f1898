use Rattle.dvg_named.proofs.OneSketch.{one_sketch}
use Rattle.dvg_named.proofs.laws.one_sketch.Goals as goal

pub returns : goal.returns
returns c = one_sketch
