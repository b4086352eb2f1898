-- What a driver alone answers to a request.
use Rattle.std.specs.Prelude.{◌≡◌, ℕ, List, []}
use Rattle.dvg_frame.specs.declared.op.OpKind.{OpKind}
use Rattle.dvg_driver.specs.declared.action.Action.{Action}
use Rattle.dvg_driver.specs.Stands.{Driving, StandsAfter}
use Rattle.dvg_log.specs.declared.entry.Entry.{Entry}
use Rattle.dvg_log.specs.declared.entry.Entry.TheVariants.{Acted, Cleared}
use Rattle.dvg_world.specs.Desks.{OfferAnswers, RedrawAnswers, TickAnswers}
use Rattle.dvg_device.specs.declared.reply.Reply.{Reply}
use Rattle.dvg_device.specs.declared.reply.Reply.TheVariants.{Came, Unknown}
use Rattle.dvg_device.specs.declared.request.Request.{Request}
use Rattle.dvg_device.specs.declared.request.Request.TheVariants.{Offer, Redraw, Tick, ResetProcessor}

-- the reply is of an entry of which this holds
abbrev pub OfEntry : (Entry (Unit {0}) → Type 0) → Reply → Type 0
OfEntry P (Came entry) = P entry
OfEntry P reply = ⊥

-- the reply is of an action of which this holds
abbrev pub OfAction : (Action → Type 0) → Reply → Type 0
OfAction P (Came (Acted action)) = P action
OfAction P reply = ⊥

-- what a driver over this ROM, with this draft, comes to by a request
abbrev pub DriverAnswers : List ℕ → List OpKind → Request → Driving → Driving → Reply → Type 0
DriverAnswers R F Offer driver later reply = OfEntry (OfferAnswers R F driver later) reply
DriverAnswers R F Redraw driver later reply = OfEntry (RedrawAnswers driver later) reply
DriverAnswers R F (Tick halted byte1) driver later reply = OfAction (TickAnswers halted byte1 driver later) reply
DriverAnswers R F ResetProcessor driver later reply = ((peeked : ℕ) → StandsAfter later.stage peeked [])
    × (reply ≡ Came Cleared)
DriverAnswers R F request driver later reply = (later ≡ driver) × (reply ≡ Unknown)
