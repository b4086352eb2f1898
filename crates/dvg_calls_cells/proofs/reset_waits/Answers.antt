use Rattle.dvg_calls_cells.proofs.Playing.{cpu_waits, cycle_ends, reset_takes, reset_waits}
use Rattle.dvg_calls_cells.proofs.reset_waits.Goals as goal

pub returns-clause-takes : goal.returns-clause-takes
returns-clause-takes c = reset_takes

pub returns-clause-waits : goal.returns-clause-waits
returns-clause-waits c = reset_waits

pub returns-clause-ends : goal.returns-clause-ends
returns-clause-ends c = cycle_ends

pub returns-clause-processor : goal.returns-clause-processor
returns-clause-processor c = cpu_waits
