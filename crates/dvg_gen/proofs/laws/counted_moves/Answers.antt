use Rattle.dvg_gen.proofs.Counted.{counted_step, counted_run}
use Rattle.dvg_gen.proofs.laws.counted_moves.Goals as goal

pub returns-clause-step : goal.returns-clause-step
returns-clause-step c = counted_step

pub returns-clause-run : goal.returns-clause-run
returns-clause-run c = counted_run
