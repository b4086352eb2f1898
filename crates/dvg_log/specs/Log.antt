-- Logs, and what they show: memory, runs, lives of the driver, what is published and what is drawn.
-- A line is read by its entry, whatever its event: so a log that isn't legal has runs, too.
use Rattle.std.specs.Prelude.{◌≡◌, ◌+◌, ◌==◌, ℕ, Bool, true, false, List, [], ◌∷◌, ◌++◌, length, slice_index, slice_set}
use Rattle.std.specs.Prelude.{if◌then◌else◌, Option, Some, None, is_some, option_and_then, option_map}
use Rattle.dvg_mem.specs.declared.half.Half.{Half}
use Rattle.dvg_mem.specs.Areas.{IsInHalf, half_of_high, other}
use Rattle.dvg_mem.specs.Memory.{fetched_byte}
use Rattle.dvg_gen.specs.Told.{Told, Start, Reset, Fed}
use Rattle.dvg_gen.specs.Bytes.{Met, met, word_of}
use Rattle.dvg_frame.specs.declared.op.OpKind.{OpKind}
use Rattle.dvg_driver.specs.declared.action.Action.TheVariants.{Wrote, Sent}
use Rattle.dvg_driver.specs.Script
use Rattle.dvg_driver.specs.Script.{Item, Did}
use Rattle.dvg_log.specs.Events.{Happening}
use Rattle.dvg_log.specs.declared.event.Event.TheVariants.{Offer, ResetGen, ResetCpu, ResetAll}
use Rattle.dvg_log.specs.Entries.{Shown}
use Rattle.dvg_log.specs.declared.entry.Entry.TheVariants.{Offered, Asked, Acted, Started, Low, Fetched, Done, Broke}

-- an event and its entry
infix 30 ◌⟼◌
pub data Line : Type 0 where
  ◌⟼◌ : Happening → Shown → Line

-- the newest line first; the number of an event is the length of the log before it
abbrev pub Log : Type 0
Log = List Line

-- the events of a log
abbrev pub events_of : Log → List Happening
events_of [] = []
events_of ((event ⟼ entry) ∷ log) = event ∷ events_of log

-- this holds of each line, by the log before it, its event and its entry
abbrev pub Throughout : (Log → Happening → Shown → Type 0) → Log → Type 0
Throughout P [] = Unit {0}
Throughout P ((event ⟼ entry) ∷ log) = P log event entry × Throughout P log

-- the bytes of the RAM: those of the last image, each byte as it was written last since then
abbrev pub ram : List ℕ → Log → List ℕ
ram image [] = image
ram image ((ResetAll bytes ⟼ entry) ∷ log) = bytes
ram image ((event ⟼ Acted (Wrote a byte)) ∷ log) = slice_set (ram image log) a byte
ram image (line ∷ log) = ram image log

-- the low byte whose high byte the open run fetches next, with its address
abbrev pub waiting : Log → Option (ℕ × ℕ)
waiting [] = None
waiting ((event ⟼ Started) ∷ log) = None
waiting ((ResetGen ⟼ entry) ∷ log) = None
waiting ((ResetAll bytes ⟼ entry) ∷ log) = None
waiting ((event ⟼ Low address byte) ∷ log) = Some (address, byte)
waiting ((event ⟼ Fetched address word) ∷ log) = None
waiting ((event ⟼ Done address word strokes) ∷ log) = None
waiting ((event ⟼ Broke address fault) ∷ log) = None
waiting (line ∷ log) = waiting log

-- that low byte alone
abbrev pub low_byte : Log → Option ℕ
low_byte log = option_map (λ low. low.1) (waiting log)

-- what a fetch at this address meets now: it reads the word's high byte after a low byte that waits, else its low one
abbrev pub meets : List ℕ → List ℕ → Log → ℕ → Met
meets R image log address = met (low_byte log) (fetched_byte (ram image log) R address (is_some (low_byte log)))

-- what the generator was told, newest first
abbrev pub history : List ℕ → List ℕ → Log → List Told
history R image [] = []
history R image ((event ⟼ Started) ∷ log) = Start ∷ history R image log
history R image ((ResetGen ⟼ entry) ∷ log) = Reset ∷ history R image log
history R image ((ResetAll bytes ⟼ entry) ∷ log) = Reset ∷ history R image log
history R image ((event ⟼ Fetched address word) ∷ log) = Fed (Some word) ∷ history R image log
history R image ((event ⟼ Done address word strokes) ∷ log) = Fed (Some word) ∷ history R image log
history R image ((event ⟼ Broke address fault) ∷ log) = Fed (word_of (meets R image log address)) ∷ history R image log
history R image (line ∷ log) = history R image log

-- the whole words that the open run fetched, newest first, each with its address; none where no run is open
abbrev pub open_run : Log → Option (List (ℕ × ℕ))
open_run [] = None
open_run ((event ⟼ Started) ∷ log) = Some []
open_run ((ResetGen ⟼ entry) ∷ log) = None
open_run ((ResetAll bytes ⟼ entry) ∷ log) = None
open_run ((event ⟼ Fetched address word) ∷ log) = option_map (λ fetches. (address, word) ∷ fetches) (open_run log)
open_run ((event ⟼ Done address word strokes) ∷ log) = None
open_run ((event ⟼ Broke address fault) ∷ log) = None
open_run (line ∷ log) = open_run log

-- a half is being drawn: the open run's first word is that at 000, a jump to an address in the half
pub record IsBeingDrawn (log : Log) (half : Half) : Type 0 where
  pub later : List (ℕ × ℕ)
  pub target : ℕ
  pub fetches : open_run log ≡ Some (later ++ (0x000, 0xE000 + target) ∷ [])
  pub in_half : IsInHalf half target

-- the half that is free: the one that byte 001 doesn't name
abbrev pub free_half : List ℕ → Log → Half
free_half image log = other (half_of_high (slice_index (ram image log) 1))

-- the driver's life since its last reset, newest item first; a frame goes to the half that is free when it is accepted
abbrev pub life : List ℕ → Log → List Item
life image [] = []
life image ((ResetCpu ⟼ entry) ∷ log) = []
life image ((ResetAll bytes ⟼ entry) ∷ log) = []
life image ((Offer F ⟼ Offered) ∷ log) = Script.Offered (free_half image log) F ∷ life image log
life image ((event ⟼ Asked) ∷ log) = Script.Asked ∷ life image log
life image ((event ⟼ Acted action) ∷ log) = Did action ∷ life image log
life image (line ∷ log) = life image log

-- the driver sent a strobe since the last reset of the whole system
abbrev pub strobed : Log → Bool
strobed [] = false
strobed ((ResetAll bytes ⟼ entry) ∷ log) = false
strobed ((event ⟼ Acted Sent) ∷ log) = true
strobed (line ∷ log) = strobed log

-- the draft of the last frame that was accepted
abbrev pub offered : Log → Option (List OpKind)
offered [] = None
offered ((Offer F ⟼ Offered) ∷ log) = Some F
offered (line ∷ log) = offered log

-- the log before the last flip since the last reset of the whole system: before the write of byte 001
abbrev pub before_flip : Log → Option Log
before_flip [] = None
before_flip ((ResetAll bytes ⟼ entry) ∷ log) = None
before_flip ((event ⟼ Acted (Wrote a byte)) ∷ log) = if a == 1 then Some log else before_flip log
before_flip (line ∷ log) = before_flip log

-- the draft that is published: that of the last frame accepted before the flip
abbrev pub published : Log → Option (List OpKind)
published log = option_and_then offered (before_flip log)

-- the publication's number: that of the flip's event
abbrev pub publication : Log → Option ℕ
publication log = option_map length (before_flip log)

-- the run has fetched a word
abbrev pub has_fetched : Option (List (ℕ × ℕ)) → Bool
has_fetched (Some (fetch ∷ fetches)) = true
has_fetched _ = false

-- the log before the open run fetched word zero; the log itself, where no open run has
abbrev pub at_zero : Log → Log
at_zero [] = []
at_zero (line ∷ log) = if has_fetched (open_run (line ∷ log)) then at_zero log else line ∷ log
