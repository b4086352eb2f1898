use Rattle.std.proofs.Common.{arith}
use Rattle.std.proofs.lemmas.Grind.{common_steps}
use Rattle.dvg_read.proofs.EventRows.{byte_fits}
use Rattle.dvg_read.proofs.event_line.byte.Goals as goal

pub returns-clause-only : goal.returns-clause-only
returns-clause-only c n h =
    let fits = byte_fits h in
    let same = c.in_ok-hex.ensures.only n h in
    grind (arith, common_steps, fits, same)
