-- What is said of a log before that is written (for private contracts).
use Rattle.std.specs.Prelude.{ℕ, List, Option, Result, Ok, Err}
use Rattle.dvg_read.specs.declared.fault.TextFault.TheVariants as of_text
use Rattle.dvg_io.specs.declared.fault.ToolFault.{ToolFault}
use Rattle.dvg_io.specs.declared.fault.ToolFault.TheVariants.{Text, Reader}
use Rattle.dvg_logs.specs.declared.log_reading.LogStop.{LogStop}
use Rattle.dvg_logs.specs.declared.log_reading.LogStop.TheVariants.{Found, Syntax, TooLong}
use Rattle.dvg_logs.specs.LogTexts.{HasFaultIn, Says}
use Rattle.dvg_logs.specs.Tears.{TakesAtFault, TakesTo}
use Rattle.dvg_log.specs.Log.{Line, Log}
use Rattle.dvg_read.specs.Texts.{lines}

-- the answer to a log whose reading stops in this way
abbrev pub answer_of : {V : Type 0} → LogStop V → Result V ToolFault
answer_of (Found n verdict) = Ok verdict
answer_of (Syntax n) = Err (Text (of_text.Syntax n))
answer_of TooLong = Err (Text of_text.TooLong)

-- the answer to an input, and what was taken of it
abbrev pub ReadsAs : {V : Type 0} → (base : Option ℕ) → (Log → Type 0) → (V → Line → Log → Type 0)
    → (V → Log → Type 0) → Result V ToolFault → (input : List ℕ) → Option (List ℕ) → Option (List ℕ) → Type 0
ReadsAs base Passes Finds Ends (Ok verdict) input old new =
    (decided : Option ℕ) × Says base Passes Finds Ends verdict (lines input) decided × TakesTo decided input old new
ReadsAs base Passes Finds Ends (Err (Text fault)) input old new =
    HasFaultIn base Passes input fault × TakesAtFault fault input old new
ReadsAs base Passes Finds Ends (Err Reader) input old new = Unit {0}
ReadsAs base Passes Finds Ends (Err _) input old new = ⊥

-- the faults that come while a log is read: its own, and that of the reader
abbrev pub IsReadingFault : ToolFault → Type 0
IsReadingFault (Text fault) = Unit {0}
IsReadingFault Reader = Unit {0}
IsReadingFault _ = ⊥
