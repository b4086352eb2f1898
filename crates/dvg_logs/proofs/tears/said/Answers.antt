use Rattle.std.proofs.Common.{Some}
use Rattle.dvg_logs.proofs.tears.said.Goals as goal

pub returns-in-Found : goal.returns-in-Found
returns-in-Found c base text stops = (Some c.in-Found.field-0, rw c.in-Found.is at stops)
