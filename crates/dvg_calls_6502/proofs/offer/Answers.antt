use Rattle.dvg_calls_6502.proofs.Offering.{offer_is_taken, offer_is_refused}
use Rattle.dvg_calls_6502.proofs.offer.Goals as goal

pub returns : goal.returns
returns c = record { takes = offer_is_taken; refuses = offer_is_refused }
