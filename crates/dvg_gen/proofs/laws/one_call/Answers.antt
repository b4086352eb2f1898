use Rattle.dvg_gen.proofs.Returning.{some_call, same_call}
use Rattle.dvg_gen.proofs.laws.one_call.Goals as goal

pub returns : goal.returns
returns c = (some_call, same_call)
