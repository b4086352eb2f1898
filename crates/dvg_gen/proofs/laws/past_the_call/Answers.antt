use Rattle.dvg_gen.proofs.Returning.{answers_a_call, past_the_call}
use Rattle.dvg_gen.proofs.laws.past_the_call.Goals as goal

pub returns-clause-call : goal.returns-clause-call
returns-clause-call c = answers_a_call

pub returns-clause-address : goal.returns-clause-address
returns-clause-address c = past_the_call
