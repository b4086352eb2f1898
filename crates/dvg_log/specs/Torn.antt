-- Lines of a log, legal or not, that tear a picture.
use Rattle.std.specs.Prelude.{◌≡◌, ℕ, ◌/◌, ◌∷◌, ◌++◌, length}
use Rattle.dvg_mem.specs.declared.half.Half.{Half}
use Rattle.dvg_mem.specs.Areas.{IsInHalf}
use Rattle.dvg_driver.specs.declared.action.Action.TheVariants.{Wrote}
use Rattle.dvg_log.specs.Events.{Happening}
use Rattle.dvg_log.specs.Entries.{Shown}
use Rattle.dvg_log.specs.declared.entry.Entry.TheVariants.{Acted}
use Rattle.dvg_log.specs.Log.{◌⟼◌, Log, Throughout, IsBeingDrawn}

-- a byte is written in the half that the open run draws; a reset of the generator, or of the whole system, has ended
-- the run before its own entry counts
abbrev pub IsTorn : Log → Happening → Shown → Type 0
IsTorn log event (Acted (Wrote a byte)) = (half : Half) × IsBeingDrawn ((event ⟼ Acted (Wrote a byte)) ∷ log) half
    × IsInHalf half (a / 2)
IsTorn log event entry = ⊥

-- the line isn't torn
abbrev pub IsUntorn : Log → Happening → Shown → Type 0
IsUntorn log event entry = ¬ IsTorn log event entry

-- the line of this number is torn, and none before it
pub record IsFirstTorn (log : Log) (number : ℕ) : Type 0 where
  pub later : Log
  pub event : Happening
  pub entry : Shown
  pub before : Log
  pub split : log ≡ later ++ (event ⟼ entry) ∷ before
  pub at : length before ≡ number
  pub torn : IsTorn before event entry
  pub untorn : Throughout IsUntorn before
