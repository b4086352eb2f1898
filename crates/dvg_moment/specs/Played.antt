-- Logs of any driver, and what a consistent run draws.
use Rattle.std.specs.Prelude.{◌≡◌, ℕ, suc, ◌<◌, List, ◌∷◌, Some, None, length}
use Rattle.std.specs.List.{AllByRecursion}
use Rattle.dvg_mem.specs.Memory.{IsImage, fetched}
use Rattle.dvg_gen.specs.declared.beam.Beam.{Beam}
use Rattle.dvg_gen.specs.Told.{Newest, Leaves}
use Rattle.dvg_driver.specs.declared.action.Action.TheVariants.{Wrote}
use Rattle.dvg_log.specs.Events.{Happening}
use Rattle.dvg_log.specs.declared.event.Event.TheVariants.{Offer, Redraw, Tick, Strobe, Fetch, ResetGen, ResetCpu}
use Rattle.dvg_log.specs.declared.event.Event.TheVariants.{ResetAll}
use Rattle.dvg_log.specs.Entries.{Shown}
use Rattle.dvg_log.specs.declared.entry.Entry.TheVariants.{Offered, Refused, Busy, Asked, NothingPublished, Acted}
use Rattle.dvg_log.specs.declared.entry.Entry.TheVariants.{Started, NoStrobe, Done, Cleared}
use Rattle.dvg_log.specs.Log.{◌⟼◌, Log, Throughout, ram, history, open_run}
use Rattle.dvg_log.specs.Legal.{Fits}
use Rattle.dvg_theorem.specs.Law.{Finishes}
use Rattle.dvg_moment.specs.Moment.{Known, stands, told, Contradicts, Changes, IsMoment, IsOfOneMoment}

-- the generator fetches what is in memory then; what the driver does, and when strobes arrive, is left open
abbrev pub FetchesMemory : List ℕ → List ℕ → Log → Happening → Shown → Type 0
FetchesMemory R image log Fetch entry = Fits R image log Fetch entry
FetchesMemory R image log Tick (Acted (Wrote a byte)) = byte < 256
FetchesMemory R image log Tick (Acted action) = Unit {0}
FetchesMemory R image log Strobe Started = Unit {0}
FetchesMemory R image log Strobe NoStrobe = Unit {0}
FetchesMemory R image log (Offer F) Offered = Unit {0}
FetchesMemory R image log (Offer F) (Refused fault) = Unit {0}
FetchesMemory R image log (Offer F) Busy = Unit {0}
FetchesMemory R image log Redraw NothingPublished = Unit {0}
FetchesMemory R image log Redraw Busy = Unit {0}
FetchesMemory R image log Redraw Asked = Unit {0}
FetchesMemory R image log ResetGen Cleared = Unit {0}
FetchesMemory R image log ResetCpu Cleared = Unit {0}
FetchesMemory R image log (ResetAll bytes) Cleared = IsImage bytes
FetchesMemory R image log event entry = ⊥

-- a consistent run that reaches HALT drew what a run over that moment's memory draws, in as many words
abbrev pub DrewItsMoment : Known → List ℕ → List ℕ → Log → Happening → Shown → Type 0
DrewItsMoment known R image log event (Done address word drew) = (fetches : List (ℕ × ℕ))
    → open_run log ≡ Some fetches
    → (since moment : Log) → IsMoment known ((event ⟼ Done address word drew) ∷ log) since moment
    → (run : Newest) → Leaves (history R image log) run
    → Finishes (fetched (ram image moment) R) run.first drew (suc (length fetches))
DrewItsMoment known R image log event entry = Unit {0}

-- so it is in every log that is played, whoever drives; what is known may depend on the first image
abbrev pub DrawsTheMoment : (List ℕ → Known) → Type 0
DrawsTheMoment known = (R image : List ℕ) (log : Log) → IsImage image → Throughout (FetchesMemory R image) log
    → Throughout (DrewItsMoment (known image) R image) log

-- whoever drives, nothing that is read contradicts what the log told
abbrev pub NeverContradicts : Type 0
NeverContradicts = (R image : List ℕ) (log : Log) → IsImage image → Throughout (FetchesMemory R image) log
    → Throughout (λ log event entry. ¬ Contradicts log entry) log

-- whoever drives, a write that changes a byte by what the log told, and none in memory, is of a byte that wasn't told
abbrev pub ErrsUntold : Type 0
ErrsUntold = (R image : List ℕ) (log : Log) (entry : Shown) (a : ℕ) → IsImage image
    → Throughout (FetchesMemory R image) log → Changes told a log entry → ¬ Changes (stands image) a log entry
    → told log a ≡ None

-- the newest run of a log is of a moment of which this holds
abbrev pub HasMoment : List ℕ → Log → (Log → Type 0) → Type 0
HasMoment image log P = (since : Log) × (moment : Log) × IsMoment (stands image) log since moment × P moment

-- a run that reaches HALT drew what a run over a moment's memory draws, from any beam
abbrev pub DrewAMoment : List ℕ → List ℕ → Log → Happening → Shown → Type 0
DrewAMoment R image log event (Done address word drew) = (fetches : List (ℕ × ℕ)) → open_run log ≡ Some fetches
    → HasMoment image ((event ⟼ Done address word drew) ∷ log) (λ moment. (beam : Beam)
    → Finishes (fetched (ram image moment) R) beam drew (suc (length fetches)))
DrewAMoment R image log event entry = Unit {0}

-- of a run that reaches HALT each word that it fetched stands in memory at a moment as it was read
abbrev pub StoodThen : List ℕ → List ℕ → Log → Happening → Shown → Type 0
StoodThen R image log event (Done address word drew) = (fetches : List (ℕ × ℕ)) → open_run log ≡ Some fetches
    → HasMoment image ((event ⟼ Done address word drew) ∷ log) (λ moment.
    AllByRecursion (λ fetch. fetched (ram image moment) R fetch.0 ≡ Some fetch.1) ((address, word) ∷ fetches))
StoodThen R image log event entry = Unit {0}

-- over each ROM a generator makes a log in which a run comes to its HALT and is mixed, also by what is told
abbrev pub SomeRunIsTorn : Type 0
SomeRunIsTorn = (R : List ℕ) → (image : List ℕ) × (log : Log) × IsImage image × Throughout (FetchesMemory R image) log
    × (¬ Throughout (IsOfOneMoment (stands image)) log) × ¬ Throughout (IsOfOneMoment told) log
