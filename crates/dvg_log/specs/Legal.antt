-- Legal logs: each event has the entry that it gets over the log before it.
use Rattle.std.specs.Prelude.{◌≡◌, ℕ, true, false, List, [], ◌∷◌, Option, Some, None, is_none}
use Rattle.dvg_mem.specs.Memory.{IsImage, IsRom}
use Rattle.dvg_gen.specs.Bytes.{Waits, Whole}
use Rattle.dvg_gen.specs.Told.{Told, Fed, Newest, Leaves, Reply, More, Drew, Fails, reply, wants}
use Rattle.dvg_frame.specs.Faults.{Refuses, Accepts}
use Rattle.dvg_driver.specs.Script.{Did, IsWhole, IsLife, has_flip}
use Rattle.dvg_driver.specs.Stands.{ShowsFlag}
use Rattle.dvg_log.specs.Events.{Happening, IsEvent}
use Rattle.dvg_log.specs.declared.event.Event.TheVariants.{Offer, Redraw, Tick, Strobe, Fetch, ResetGen, ResetCpu}
use Rattle.dvg_log.specs.declared.event.Event.TheVariants.{ResetAll}
use Rattle.dvg_log.specs.Entries.{Shown}
use Rattle.dvg_log.specs.declared.entry.Entry.TheVariants.{Offered, Refused, Busy, Asked, NothingPublished, Acted}
use Rattle.dvg_log.specs.declared.entry.Entry.TheVariants.{Started, NoStrobe, Low, Fetched, Done, Broke, Still, Cleared}
use Rattle.dvg_log.specs.Log.{◌⟼◌, Log, events_of, Throughout, meets, history, open_run, life, strobed}

-- after this history the next word is the one at this address
pub record IsWanted (before : List Told) (address : ℕ) : Type 0 where
  pub run : Newest
  pub leaves : Leaves before run
  pub wanted : wants run ≡ Some address

-- after this history the next word is the one at this address, and this is the answer where it is this word, or a hole
pub record IsFetch (before : List Told) (address : ℕ) (word : Option ℕ) (answer : Reply) : Type 0 where
  pub asked : IsWanted before address
  pub later : Newest
  pub leaves_later : Leaves (Fed word ∷ before) later
  pub replies : reply word later ≡ answer

-- the event gets this entry over the log before it
abbrev pub Fits : List ℕ → List ℕ → Log → Happening → Shown → Type 0
-- a draft is refused for the fault that the check picks, and one that it accepts only while the driver isn't idle
Fits R image log (Offer F) (Refused fault) = Refuses F R fault
Fits R image log (Offer F) Busy = Accepts F R × ¬ IsWhole (life image log)
Fits R image log (Offer F) Offered = Accepts F R × IsWhole (life image log)
-- there is nothing to draw again before the life's first flip
Fits R image log Redraw NothingPublished = has_flip (life image log) ≡ false
Fits R image log Redraw Busy = (has_flip (life image log) ≡ true) × ¬ IsWhole (life image log)
Fits R image log Redraw Asked = (has_flip (life image log) ≡ true) × IsWhole (life image log)
-- the action is the next one of the script, and a read of the HALT flag shows whether no run is open
Fits R image log Tick (Acted action) = IsLife (Did action ∷ life image log) × ShowsFlag action (is_none (open_run log))
Fits R image log Strobe Started = strobed log ≡ true
Fits R image log Strobe NoStrobe = strobed log ≡ false
-- a fetch is of the wanted address: a low byte waits; a word goes on with a run, finishes or breaks it, as a hole does
Fits R image log Fetch Still = open_run log ≡ None
Fits R image log Fetch (Low a byte) = (meets R image log a ≡ Waits byte) × IsWanted (history R image log) a
Fits R image log Fetch (Fetched address word) = (meets R image log address ≡ Whole (Some word))
    × IsFetch (history R image log) address (Some word) More
Fits R image log Fetch (Done address word strokes) = (meets R image log address ≡ Whole (Some word))
    × IsFetch (history R image log) address (Some word) (Drew strokes)
Fits R image log Fetch (Broke address fault) = (word : Option ℕ) × (meets R image log address ≡ Whole word)
    × IsFetch (history R image log) address word (Fails fault)
Fits R image log ResetGen Cleared = Unit {0}
Fits R image log ResetCpu Cleared = Unit {0}
Fits R image log (ResetAll bytes) Cleared = Unit {0}
Fits R image log event entry = ⊥

-- a legal log over a ROM and a first image of the RAM
abbrev pub IsLegal : List ℕ → List ℕ → Log → Type 0
IsLegal R image [] = IsRom R × IsImage image
IsLegal R image ((event ⟼ entry) ∷ log) = Fits R image log event entry × IsEvent event × IsLegal R image log

-- over each ROM and from each first image, this holds of each line of each legal log
abbrev pub Always : (List ℕ → List ℕ → Log → Happening → Shown → Type 0) → Type 0
Always P = (R image : List ℕ) (log : Log) → IsLegal R image log → Throughout (P R image) log

-- a list of events has at most one legal log
abbrev pub SameLog : Type 0
SameLog = (R image : List ℕ) (one other : Log) → IsLegal R image one → IsLegal R image other
    → events_of one ≡ events_of other → one ≡ other
