use Rattle.dvg_calls_6502.proofs.Offering.{redraw_is_taken, redraw_is_refused}
use Rattle.dvg_calls_6502.proofs.redraw.Goals as goal

pub returns : goal.returns
returns c = record { takes = redraw_is_taken; refuses = redraw_is_refused }
