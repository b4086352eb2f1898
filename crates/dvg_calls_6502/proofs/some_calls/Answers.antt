use Rattle.dvg_calls_6502.proofs.Example.{some_calls, some_ticks, some_building, some_logs}
use Rattle.dvg_calls_6502.proofs.some_calls.Goals as goal

pub returns : goal.returns
returns c = record { calls = some_calls; ticks = some_ticks; building = some_building; logs = some_logs }
