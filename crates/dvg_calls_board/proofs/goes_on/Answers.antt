use Rattle.dvg_calls_board.proofs.Waiting.{goes_on, accesses_come}
use Rattle.dvg_calls_board.proofs.goes_on.Goals as goal

pub returns-clause-waits : goal.returns-clause-waits
returns-clause-waits c = goes_on

pub returns-clause-accesses : goal.returns-clause-accesses
returns-clause-accesses c = accesses_come
