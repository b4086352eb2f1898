-- How the lines of a trace's text lead from one to the next (for private contracts).
use Rattle.std.specs.Prelude.{ℕ, List, [], ◌∷◌, ◌++◌, codes, Option, Some, None}
use Rattle.dvg_frame.specs.declared.op.OpKind.{OpKind}
use Rattle.dvg_log.specs.Events.{Happening}
use Rattle.dvg_log.specs.declared.event.Event.TheVariants.{Offer}
use Rattle.dvg_read.specs.Texts.{parts}
use Rattle.dvg_read.specs.OpLines.{IsOpLine}
use Rattle.dvg_read.specs.RomTexts.{RomText}
use Rattle.dvg_read.specs.RomReading.{TellsRom}
use Rattle.dvg_read.specs.TraceTexts.{EventParts}

-- what some lines spell so far, with the operations of the offer that they leave open
pub record SoFar : Type 0 where
  pub rom : RomText
  pub events : List Happening
  pub opened : Option (List OpKind)

-- what one more line makes of a ROM, events and an open offer
pub data Takes : RomText → List Happening → Option (List OpKind) → List ℕ → RomText → List Happening
    → Option (List OpKind) → Type 0 where
  tells : {rom now : RomText} {line : List ℕ} → TellsRom rom line now → Takes rom [] None line now [] None
  events : {rom : RomText} {old more : List Happening} {line : List ℕ} → EventParts more (parts line)
      → Takes rom old None line rom (old ++ more) None
  opens : {rom : RomText} {old : List Happening} → Takes rom old None (codes "offer") rom old (Some [])
  does : {rom : RomText} {old : List Happening} {F : List OpKind} {line : List ℕ} (op : OpKind) → IsOpLine op line
      → Takes rom old (Some F) line rom old (Some (F ++ op ∷ []))
  ends : {rom : RomText} {old : List Happening} {F : List OpKind}
      → Takes rom old (Some F) (codes "end") rom (old ++ Offer F ∷ []) None

-- the same, of whole states
abbrev pub TraceTakes : SoFar → List ℕ → SoFar → Type 0
TraceTakes old line new = Takes old.rom old.events old.opened line new.rom new.events new.opened
