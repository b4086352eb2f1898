use Rattle.dvg_logs.proofs.NumberLines.{line_taken, fetched_head}
use Rattle.dvg_logs.proofs.log_reading.JudgedLines.take_fetched.Goals as goal

pub returns-then-take_logged-clause-taken : goal.returns-then-take_logged-clause-taken
returns-then-take_logged-clause-taken g c =
    line_taken (fetched_head c.in_ok-address.ensures) (λ base is. tt) (c.take_logged.ensures.taken c.if-take_logged.true)
