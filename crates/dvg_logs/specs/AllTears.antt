-- What `torn --moments --all` answers, writes and takes.
use Rattle.std.specs.Prelude.{◌≡◌, ◌++◌, ◌==◌, ℕ, List, ◌∷◌, flat_map, length, reverse, Option, Some, None}
use Rattle.std.specs.Prelude.{Result, Ok, Err, if◌then◌else◌}
use Rattle.std.specs.List.{AllByRecursion}
use Rattle.std.specs.Io.KnownBytes.{Appends}
use Rattle.dvg_log.specs.Log.{Log}
use Rattle.dvg_read.specs.Texts.{lines}
use Rattle.dvg_read.specs.declared.fault.TextFault.{TextFault}
use Rattle.dvg_print.specs.declared.moment_verdict.MomentVerdict.{MomentVerdict}
use Rattle.dvg_print.specs.declared.moment_verdict.MomentVerdict.TheVariants as say
use Rattle.dvg_print.specs.MomentVerdicts.{moment_verdict_text}
use Rattle.dvg_io.specs.declared.fault.ToolFault.{ToolFault}
use Rattle.dvg_io.specs.declared.fault.ToolFault.TheVariants.{Text, Reader, Writer, Memory}
use Rattle.dvg_io.specs.Watching.{BeginsToWrite}
use Rattle.dvg_logs.specs.LogTexts.{HasFaultIn, IsLogSo, Says}
use Rattle.dvg_logs.specs.MomentLogs.{AreDecided, Decides, Ends}
use Rattle.dvg_logs.specs.Tears.{TakesAtFault, TakesTo}

-- this is said of a torn run
abbrev pub IsTear : MomentVerdict → Type 0
IsTear (say.Torn n reading) = Unit {0}
IsTear verdict = ⊥

-- and so are all of these
abbrev pub AreTears : List MomentVerdict → Type 0
AreTears = AllByRecursion IsTear

-- where so many runs are torn, this is said at the end in place of what is said where none is
abbrev pub of_all : ℕ → MomentVerdict → MomentVerdict
of_all torn (say.Whole runs halted judged) =
    if torn == 0 then say.Whole runs halted judged else say.SomeTorn runs halted torn
of_all torn (say.NoRun runs halted) = if torn == 0 then say.NoRun runs halted else say.SomeTorn runs halted torn
of_all torn verdict = verdict

-- what is said at the end of a log in which so many runs are torn
abbrev pub EndsAll : ℕ → MomentVerdict → Log → Type 0
EndsAll torn verdict log = (said : MomentVerdict) × Ends said log × (verdict ≡ of_all torn said)

-- the bytes of the lines that say this, of which the newest comes first
abbrev pub texts_of : List MomentVerdict → List ℕ
texts_of said = flat_map moment_verdict_text (reverse said)

-- of the text of a log its torn runs are said, of which the newest comes first, and then this: by the line that
-- contradicts, line n, or at its end
abbrev pub JudgesAll : (base : Option ℕ) → (text : List ℕ) → (tears : List MomentVerdict) → MomentVerdict → Option ℕ
    → Type 0
JudgesAll base text tears verdict decided = AreTears tears × (¬ IsTear verdict)
    × Says base (AreDecided tears) Decides (EndsAll (length tears)) verdict (lines text) decided

-- the fault of a log's text, before which these runs are torn and no line contradicts
abbrev pub HasAllFault : (base : Option ℕ) → (text : List ℕ) → (tears : List MomentVerdict) → TextFault → Type 0
HasAllFault base text tears fault = AreTears tears × HasFaultIn base (AreDecided tears) text fault

-- this was said of the lines of a text up to line n, the newest first
pub record AreSaid (base : Option ℕ) (said : List MomentVerdict) (texts : List (List ℕ)) (n : ℕ) : Type 0 where
  pub before : List (List ℕ)
  pub after : List (List ℕ)
  pub cut : texts ≡ before ++ after
  pub number : n ≡ length before
  pub log : Log
  pub fine : IsLogSo base (AreDecided said) log before

-- this is the next that is said of a text, after these runs: of a torn run or a contradiction at line n, or at its end
abbrev pub IsNext : (base : Option ℕ) → (text : List ℕ) → MomentVerdict → (tears : List MomentVerdict) → Option ℕ
    → Type 0
IsNext base text one tears (Some n) = AreTears tears × AreSaid base (one ∷ tears) (lines text) n
IsNext base text one tears None = JudgesAll base text tears one None

-- what `torn --moments --all` answers to an input, and what went out: a line for each torn run, and one more for the
-- verdict; at a fault of the text, or of the reader, the lines of the runs before it; at `Writer` a beginning
abbrev pub AllTears : (base : Option ℕ) → Result MomentVerdict ToolFault → (input : List ℕ) → Option (List ℕ)
    → Option (List ℕ) → Type 0
AllTears base (Ok verdict) input old new = (tears : List MomentVerdict)
    × ((decided : Option ℕ) × JudgesAll base input tears verdict decided) × Appends old new (texts_of (verdict ∷ tears))
AllTears base (Err (Text fault)) input old new = (tears : List MomentVerdict) × HasAllFault base input tears fault
    × Appends old new (texts_of tears)
AllTears base (Err Reader) input old new = (tears : List MomentVerdict) × AreTears tears
    × ((n : ℕ) × AreSaid base tears (lines input) n) × Appends old new (texts_of tears)
AllTears base (Err Writer) input old new = (tears : List MomentVerdict) × (one : MomentVerdict)
    × ((decided : Option ℕ) × IsNext base input one tears decided) × BeginsToWrite (texts_of (one ∷ tears)) old new
AllTears base (Err Memory) input old new = ⊥

-- what it took of an input, by its answer: all of it, or up to the line that contradicts, or whose run's line failed
abbrev pub AllTakes : (base : Option ℕ) → Result MomentVerdict ToolFault → (input : List ℕ) → Option (List ℕ)
    → Option (List ℕ) → Type 0
AllTakes base (Ok verdict) input old new = (tears : List MomentVerdict) × (decided : Option ℕ)
    × JudgesAll base input tears verdict decided × TakesTo decided input old new
AllTakes base (Err (Text fault)) input old new = TakesAtFault fault input old new
AllTakes base (Err Writer) input old new = (tears : List MomentVerdict) × (one : MomentVerdict) × (decided : Option ℕ)
    × IsNext base input one tears decided × TakesTo decided input old new
AllTakes base (Err _) input old new = Unit {0}

-- both at once, of the same torn runs: what it answers, what it took, and what went out; so where writing fails, what
-- was taken goes up to the line whose text failed
abbrev pub TellsAs : (base : Option ℕ) → Result MomentVerdict ToolFault → (input : List ℕ) → (old new : Option (List ℕ))
    → (before after : Option (List ℕ)) → Type 0
TellsAs base (Ok verdict) input old new before after = (tears : List MomentVerdict) × (decided : Option ℕ)
    × JudgesAll base input tears verdict decided × TakesTo decided input old new
    × Appends before after (texts_of (verdict ∷ tears))
TellsAs base (Err (Text fault)) input old new before after = (tears : List MomentVerdict)
    × HasAllFault base input tears fault × TakesAtFault fault input old new × Appends before after (texts_of tears)
TellsAs base (Err Reader) input old new before after = (tears : List MomentVerdict) × AreTears tears
    × ((n : ℕ) × AreSaid base tears (lines input) n) × Appends before after (texts_of tears)
TellsAs base (Err Writer) input old new before after = (tears : List MomentVerdict) × (one : MomentVerdict)
    × (decided : Option ℕ) × IsNext base input one tears decided × TakesTo decided input old new
    × BeginsToWrite (texts_of (one ∷ tears)) before after
TellsAs base (Err Memory) input old new before after = ⊥
