use Rattle.dvg_device.proofs.Resumed.{driver_passed, operation_passed, world_resumed, world_taken}
use Rattle.dvg_device.proofs.laws.world_is_resumed.Goals as goal

pub returns-clause-driver : goal.returns-clause-driver
returns-clause-driver c = driver_passed

pub returns-clause-operations : goal.returns-clause-operations
returns-clause-operations c = operation_passed

pub returns-clause-resumed : goal.returns-clause-resumed
returns-clause-resumed c = world_resumed

pub returns-clause-taken : goal.returns-clause-taken
returns-clause-taken c = world_taken
