use Rattle.dvg_log.proofs.trace.Trace.push_times.Goals as goal

pub returns-in-ResetAll-clause-pushed : goal.returns-in-ResetAll-clause-pushed
returns-in-ResetAll-clause-pushed g c = rw c.in-ResetAll.is c.push_filled.ensures.pushed
