-- How `torn --moments --all` tells its lines (for private contracts).
use Rattle.std.specs.Prelude.{◌≡◌, ◌<◌, ℕ, List, ◌∷◌, ◌++◌, length, Option, Some, None, Result, Ok, Err}
use Rattle.std.specs.Io.KnownBytes.{Appends}
use Rattle.dvg_read.specs.Texts.{lines}
use Rattle.dvg_read.specs.declared.fault.TextFault.TheVariants as of_text
use Rattle.dvg_print.specs.declared.moment_verdict.MomentVerdict.{MomentVerdict}
use Rattle.dvg_print.specs.MomentVerdicts.{moment_verdict_text}
use Rattle.dvg_io.specs.declared.fault.ToolFault.{ToolFault}
use Rattle.dvg_io.specs.declared.fault.ToolFault.TheVariants.{Text, Writer}
use Rattle.dvg_io.specs.Watching.{BeginsToWrite, one_more}
use Rattle.dvg_logs.specs.AllTears.{AreTears, IsTear, JudgesAll, texts_of}
use Rattle.dvg_logs.specs.LogReading.{HasJudged, HasRead, StopsAt, number_of}
use Rattle.dvg_logs.specs.MomentLines.{StandsSo}
use Rattle.dvg_logs.specs.MomentLogs.{AreDecided, Decides}
use Rattle.dvg_logs.specs.declared.log_reading.LogStop.{LogStop}
use Rattle.dvg_logs.specs.declared.log_reading.LogStop.TheVariants.{Found, Syntax, TooLong}
use Rattle.dvg_logs.specs.declared.tears_all.Telling.{Telling}

-- these torn runs, of which this holds, were counted and told
pub record ListsTears (old now : Option (List ℕ)) (Holds : List MomentVerdict → Type 0) (torn : ℕ) : Type 0 where
  pub tears : List MomentVerdict
  pub are : AreTears tears
  pub holds : Holds tears
  pub torn_is : torn ≡ length tears
  pub wrote : Appends old now (texts_of tears)

-- this text was read, and its torn runs were told
abbrev pub HasTold : (base : Option ℕ) → (old now : Option (List ℕ)) → Telling → (text : List ℕ) → Type 0
HasTold base old now telling text =
    ListsTears old now (λ tears. HasRead base StandsSo (AreDecided tears) telling.reading text) telling.torn

-- the same, and the text has ended
abbrev pub HasToldAll : (base : Option ℕ) → (old now : Option (List ℕ)) → Telling → (text : List ℕ) → Type 0
HasToldAll base old now telling text =
    ListsTears old now (λ tears. HasJudged base StandsSo (AreDecided tears) telling.reading.judged (lines text))
    telling.torn

-- a front of a piece was read, its torn runs were told, and this is the rest
pub record TellsFront (before now : Option (List ℕ)) (old new : Telling) (piece rest : List ℕ) : Type 0 where
  pub front : List ℕ
  pub split : piece ≡ front ++ rest
  pub told : (base : Option ℕ) (first : Option (List ℕ)) (text : List ℕ) → HasTold base first before old text
      → HasTold base first now new (text ++ front)

-- where the reading stops, a torn run is told
abbrev pub TellsTear : LogStop MomentVerdict → (old new : Option (List ℕ)) → Type 0
TellsTear (Found n one) old new = IsTear one × Appends old new (moment_verdict_text one)
TellsTear _ old new = ⊥

-- where the reading stops, this is answered at last
abbrev pub TellsLast : LogStop MomentVerdict → Result MomentVerdict ToolFault → (old new : Option (List ℕ)) → Type 0
TellsLast (Found n one) (Ok verdict) old new = (verdict ≡ one) × (¬ IsTear one)
    × Appends old new (moment_verdict_text one)
TellsLast (Found n one) (Err Writer) old new = BeginsToWrite (moment_verdict_text one) old new
TellsLast (Syntax n) (Err (Text fault)) old new = (fault ≡ of_text.Syntax n) × (new ≡ old)
TellsLast TooLong (Err (Text fault)) old new = (fault ≡ of_text.TooLong) × (new ≡ old)
TellsLast _ _ old new = ⊥

-- the reading of lines stopped, and this was answered
pub record EndsSo (base : Option ℕ) (old new : Option (List ℕ)) (answer : Result MomentVerdict ToolFault)
    (texts : List (List ℕ)) (count : ℕ) : Type 0 where
  pub tears : List MomentVerdict
  pub are : AreTears tears
  pub stop : LogStop MomentVerdict
  pub stops : StopsAt base (AreDecided tears) Decides stop texts
  pub later : count < number_of stop
  pub now : Option (List ℕ)
  pub wrote : Appends old now (texts_of tears)
  pub last : TellsLast stop answer now new

-- a text ended, and this was answered
abbrev pub EndsWhole : (base : Option ℕ) → (old new : Option (List ℕ)) → Result MomentVerdict ToolFault
    → (text : List ℕ) → Type 0
EndsWhole base old new (Ok verdict) text = (tears : List MomentVerdict) × JudgesAll base text tears verdict None
    × Appends old new (texts_of (verdict ∷ tears))
EndsWhole base old new (Err Writer) text = (tears : List MomentVerdict) × (verdict : MomentVerdict)
    × JudgesAll base text tears verdict None × BeginsToWrite (texts_of (verdict ∷ tears)) old new
EndsWhole base old new (Err _) text = ⊥

-- the answers that come while lines are told
abbrev pub IsToldAnswer : Result MomentVerdict ToolFault → Type 0
IsToldAnswer (Ok verdict) = Unit {0}
IsToldAnswer (Err (Text fault)) = Unit {0}
IsToldAnswer (Err Writer) = Unit {0}
IsToldAnswer (Err _) = ⊥

-- how many failures a writer has counted, after this answer
abbrev pub failed_by : Option (Result MomentVerdict ToolFault) → ℕ → ℕ
failed_by (Some (Err Writer)) old = one_more old
failed_by _ old = old
