use Rattle.dvg_gen.proofs.BeamOfHistory.{some_completed, beam_of_completed}
use Rattle.dvg_gen.proofs.laws.beam_of_all.Goals as goal

pub returns : goal.returns
returns c = (λ history run l. some_completed l, λ history run all l completed. beam_of_completed l completed)
