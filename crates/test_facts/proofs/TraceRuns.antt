-- The first run of a trace.
use Rattle.std.proofs.Common.{◌≡◌, ℕ, zero, suc, ◌≤◌, List, ◌∷◌, ◌++◌, replicate, arith}
use Rattle.dvg_log.specs.Events.{Happening}
use Rattle.dvg_log.specs.Traces.{Seen, seen_as}
use Rattle.dvg_log.specs.declared.event.Event.TheVariants.{Offer, Redraw, Tick, Strobe, Fetch, ResetGen, ResetCpu, ResetAll}

-- the first event is that of the first run
pub first_of : (event first : Happening) (rest later : List Happening) (times : ℕ) → 1 ≤ times → event ∷ rest ≡ replicate times first ++ later → first ≡ event
first_of event first rest later zero some is = absurd (omega (arith, some))
first_of event first rest later (suc n) some is = cc

-- a strobe is seen as one
pub strobe_seen : (event : Seen) → seen_as event ≡ Strobe → event ≡ Strobe
strobe_seen (Offer ops) is = cc
strobe_seen Redraw is = cc
strobe_seen Tick is = cc
strobe_seen Strobe is = cc
strobe_seen Fetch is = cc
strobe_seen ResetGen is = cc
strobe_seen ResetCpu is = cc
strobe_seen (ResetAll image) is = cc
