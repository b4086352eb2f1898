-- After which logs a world stands. That it stands after a log includes that the log is legal: so
-- one premise serves each clause of `apply`.
use Rattle.std.specs.Prelude.{◌≡◌, ℕ, Bool, List, [], ◌∷◌, slice_index, Option}
use Rattle.dvg_gen.specs.Machine as generator
use Rattle.dvg_gen.specs.Machine.{Machine}
use Rattle.dvg_gen.specs.Run.{beam_after}
use Rattle.dvg_gen.specs.declared.beam.Beam.{Beam}
use Rattle.dvg_gen.specs.declared.stroke.Stroke.{Stroke}
use Rattle.dvg_gen.specs.Told.{Told}
use Rattle.dvg_driver.specs.declared.action.Action.TheVariants.{Idle}
use Rattle.dvg_driver.specs.Script.{Item}
use Rattle.dvg_driver.specs.Stands as driver
use Rattle.dvg_driver.specs.Stands.{Driving, byte1_of}
use Rattle.dvg_log.specs.Events.{Happening}
use Rattle.dvg_log.specs.declared.entry.Entry.{Entry}
use Rattle.dvg_log.specs.declared.entry.Entry.TheVariants.{Refused, Busy, NothingPublished, Acted, NoStrobe, Done, Still}
use Rattle.dvg_log.specs.Entries.{Shown, map_entry}
use Rattle.dvg_log.specs.Headline.{KeepsHeadline}
use Rattle.dvg_log.specs.Log.{Log, ◌⟼◌, ram, low_byte, history, life, strobed}
use Rattle.dvg_log.specs.Legal.{IsLegal}
use Rattle.dvg_world.specs.Wanting.{DrawsNext}

-- what contracts see of a world: the ROM, the RAM, the generator, the driver, and whether a strobe was sent
pub record State : Type 0 where
  pub rom : List ℕ
  pub ram : List ℕ
  pub machine : Machine
  pub driver : Driving
  pub sent : Bool

-- an entry of a world, with the picture that it keeps as what the run drew, if it finished one
abbrev pub shown_in : State → Entry (Unit {0}) → Shown
shown_in world entry = map_entry (λ _. world.machine.picture) entry

-- what is left of a picture where an entry that finished its run has the strokes
abbrev pub picture_left : {S : Type 0} → Entry S → List Stroke → List Stroke
picture_left (Done address word drew) picture = []
picture_left _ picture = picture

-- an entry that changes nothing: the same event has it again, as often as it comes next
abbrev pub ChangesNothing : Entry (Unit {0}) → Type 0
ChangesNothing (Refused fault) = Unit {0}
ChangesNothing Busy = Unit {0}
ChangesNothing NothingPublished = Unit {0}
ChangesNothing (Acted Idle) = Unit {0}
ChangesNothing NoStrobe = Unit {0}
ChangesNothing Still = Unit {0}
ChangesNothing _ = ⊥

-- a world has this ROM and this RAM; its generator stands after the words that it was told and the low byte that waits,
-- and its driver after its life, which gives byte 001 of the RAM; and it knows whether a strobe was sent
pub record StandsAt (world : State) (R bytes : List ℕ) (told : List Told) (low : Option ℕ) (items : List Item)
    (strobe : Bool) : Type 0 where
  pub rom : world.rom ≡ R
  pub ram : world.ram ≡ bytes
  pub machine : generator.HasTaken world.machine told low
  pub peeked : ℕ
  pub stage : driver.StandsAfter world.driver.stage peeked items
  pub byte1 : byte1_of peeked items ≡ slice_index bytes 1
  pub sent : world.sent ≡ strobe

-- a world stands after a legal log over this ROM and first image
pub record WorldAfter (R image : List ℕ) (log : Log) (world : State) : Type 0 where
  pub legal : IsLegal R image log
  pub stands : StandsAt world R (ram image log) (history R image log) (low_byte log) (life image log) (strobed log)

-- after each log that the old world stands after, and this line, the new one stands: so the line is legal
abbrev pub AddsLine : State → Happening → Shown → State → Type 0
AddsLine old event entry new = (R image : List ℕ) (log : Log) → WorldAfter R image log old
    → WorldAfter R image ((event ⟼ entry) ∷ log) new

-- the new world stands after each log that the old one stands after
abbrev pub KeepsLogs : State → State → Type 0
KeepsLogs old new = (R image : List ℕ) (log : Log) → WorldAfter R image log old → WorldAfter R image log new

-- over each log that the world stands after, this line keeps the headline
abbrev pub KeepsHeadlineAfter : State → Happening → Shown → Type 0
KeepsHeadlineAfter world event entry = (R image : List ℕ) (log : Log) → WorldAfter R image log world
    → KeepsHeadline R image log event entry

-- after each log that the world stands after, the next fetch adds a stroke
abbrev pub DrawsNow : State → Type 0
DrawsNow world = (R image : List ℕ) (log : Log) → WorldAfter R image log world → DrawsNext R image log

-- this holds of the RAM after each log that the world stands after
abbrev pub OfRam : State → (List ℕ → Type 0) → Type 0
OfRam world P = (R image : List ℕ) (log : Log) → WorldAfter R image log world → P (ram image log)

-- this holds of the beam after each log that the world stands after: where the instructions of its history left it
abbrev pub OfBeam : State → (Beam → Type 0) → Type 0
OfBeam world P = (R image : List ℕ) (log : Log) (after : WorldAfter R image log world)
    → P (beam_after after.stands.machine.run.first after.stands.machine.run.visits)

-- this holds of what the generator was told, and of the low byte that waits, after each log that the world stands after
abbrev pub OfHistory : State → (List Told → Option ℕ → Type 0) → Type 0
OfHistory world P = (R image : List ℕ) (log : Log) → WorldAfter R image log world
    → P (history R image log) (low_byte log)
