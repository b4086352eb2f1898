-- What `torn --moments` answers, writes and takes.
use Rattle.std.specs.Prelude.{ℕ, List, Option, Result, Ok, Err}
use Rattle.std.specs.Io.KnownBytes.{Appends}
use Rattle.dvg_log.specs.Log.{Throughout}
use Rattle.dvg_read.specs.Texts.{lines}
use Rattle.dvg_read.specs.declared.fault.TextFault.{TextFault}
use Rattle.dvg_print.specs.declared.moment_verdict.MomentVerdict.{MomentVerdict}
use Rattle.dvg_print.specs.MomentVerdicts.{moment_verdict_text}
use Rattle.dvg_io.specs.declared.fault.ToolFault.{ToolFault}
use Rattle.dvg_io.specs.declared.fault.ToolFault.TheVariants.{Text, Reader, Writer, Memory}
use Rattle.dvg_io.specs.Watching.{BeginsToWrite}
use Rattle.dvg_logs.specs.LogTexts.{HasFaultIn, Says}
use Rattle.dvg_logs.specs.MomentLogs.{Decides, Ends, IsSound}
use Rattle.dvg_logs.specs.Tears.{TakesAtFault, TakesTo}

-- this is said of the text of a log: at line n, or at its end
abbrev pub JudgesMoments : (base : Option ℕ) → (text : List ℕ) → MomentVerdict → Option ℕ → Type 0
JudgesMoments base text verdict decided = Says base (Throughout IsSound) Decides Ends verdict (lines text) decided

-- the fault of a log's text, before which no line decides
abbrev pub HasMomentFault : (base : Option ℕ) → List ℕ → TextFault → Type 0
HasMomentFault base = HasFaultIn base (Throughout IsSound)

-- what `torn --moments` answers to an input, and what went out: the verdict's text, or at `Writer` a beginning of it
-- (that nothing went out at the others is a clause of its own)
abbrev pub MomentTears : (base : Option ℕ) → Result MomentVerdict ToolFault → (input : List ℕ) → Option (List ℕ)
    → Option (List ℕ) → Type 0
MomentTears base (Ok verdict) input old new = ((decided : Option ℕ) × JudgesMoments base input verdict decided)
    × Appends old new (moment_verdict_text verdict)
MomentTears base (Err (Text fault)) input old new = HasMomentFault base input fault
MomentTears base (Err Writer) input old new = (verdict : MomentVerdict)
    × ((decided : Option ℕ) × JudgesMoments base input verdict decided)
    × BeginsToWrite (moment_verdict_text verdict) old new
MomentTears base (Err Reader) input old new = Unit {0}
MomentTears base (Err Memory) input old new = ⊥

-- what it took of an input, by its answer: all of it, or up to the line that decides
abbrev pub MomentTakes : (base : Option ℕ) → Result MomentVerdict ToolFault → (input : List ℕ) → Option (List ℕ)
    → Option (List ℕ) → Type 0
MomentTakes base (Ok verdict) input old new =
    (decided : Option ℕ) × JudgesMoments base input verdict decided × TakesTo decided input old new
MomentTakes base (Err (Text fault)) input old new = TakesAtFault fault input old new
MomentTakes base (Err Writer) input old new = (verdict : MomentVerdict) × (decided : Option ℕ)
    × JudgesMoments base input verdict decided × TakesTo decided input old new
MomentTakes base (Err _) input old new = Unit {0}
