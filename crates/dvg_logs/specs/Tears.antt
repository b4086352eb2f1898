-- What `torn` answers, writes and takes.
use Rattle.std.specs.Prelude.{◌+◌, ◌-◌, ◌^◌, ℕ, List, [], ◌∷◌, ◌++◌, flat_map, length, take, Option, Some, None}
use Rattle.std.specs.Prelude.{Result, Ok, Err}
use Rattle.std.specs.Io.KnownBytes.{Appends, Consumes, IsAtEnd}
use Rattle.dvg_read.specs.Texts.{lines}
use Rattle.dvg_print.specs.LogVerdicts.{log_verdict_text}
use Rattle.dvg_read.specs.declared.fault.TextFault.{TextFault}
use Rattle.dvg_read.specs.declared.fault.TextFault.TheVariants.{Syntax}
use Rattle.dvg_print.specs.declared.log_verdict.LogVerdict.{LogVerdict}
use Rattle.dvg_io.specs.declared.fault.ToolFault.{ToolFault}
use Rattle.dvg_io.specs.declared.fault.ToolFault.TheVariants.{Text, Reader, Writer, Memory}
use Rattle.dvg_io.specs.Watching.{BeginsToWrite, TakesAtMost}
use Rattle.dvg_logs.specs.LogTexts.{HasLogFault, JudgesHalves, JudgesLog}

-- what `torn` answers to an input, and what went out: the verdict's text, or at `Writer` a beginning of it (that
-- nothing went out at the others is a clause of its own)
abbrev pub Tears : (base : Option ℕ) → Result LogVerdict ToolFault → (input : List ℕ) → Option (List ℕ)
    → Option (List ℕ) → Type 0
Tears base (Ok verdict) input old new = JudgesLog base input verdict × Appends old new (log_verdict_text verdict)
Tears base (Err (Text fault)) input old new = HasLogFault base input fault
Tears base (Err Writer) input old new = (verdict : LogVerdict) × JudgesLog base input verdict
    × BeginsToWrite (log_verdict_text verdict) old new
Tears base (Err Reader) input old new = Unit {0}
Tears base (Err Memory) input old new = ⊥

-- the bytes of lines with their ends; 10 is LF
abbrev pub ended : List (List ℕ) → List ℕ
ended = flat_map (λ line. line ++ 10 ∷ [])

-- of an input no more was taken than the lines before line n and 32,832 bytes: an unfinished line of at most 64, and a
-- piece of at most 32,768
abbrev pub TakesUpTo : ℕ → (input : List ℕ) → Option (List ℕ) → Option (List ℕ) → Type 0
TakesUpTo n input old new = TakesAtMost (length (ended (take (n - 1) (lines input))) + 32832) old new

-- what was taken of an input: all of it, or up to line n
abbrev pub TakesTo : Option ℕ → (input : List ℕ) → Option (List ℕ) → Option (List ℕ) → Type 0
TakesTo None input old new = Consumes old new input × IsAtEnd new
TakesTo (Some n) input old new = TakesUpTo n input old new

-- what was taken of an input with this fault
abbrev pub TakesAtFault : TextFault → (input : List ℕ) → Option (List ℕ) → Option (List ℕ) → Type 0
TakesAtFault (Syntax n) input old new = TakesUpTo n input old new
TakesAtFault _ input old new = TakesUpTo (2 ^ 64) input old new

-- what `torn` took of an input, by its answer: all of it, or up to the torn line
abbrev pub Takes : (base : Option ℕ) → Result LogVerdict ToolFault → (input : List ℕ) → Option (List ℕ)
    → Option (List ℕ) → Type 0
Takes base (Ok verdict) input old new =
    (decided : Option ℕ) × JudgesHalves base input verdict decided × TakesTo decided input old new
Takes base (Err (Text fault)) input old new = TakesAtFault fault input old new
Takes base (Err Writer) input old new = (verdict : LogVerdict) × (decided : Option ℕ)
    × JudgesHalves base input verdict decided × TakesTo decided input old new
Takes base (Err _) input old new = Unit {0}
