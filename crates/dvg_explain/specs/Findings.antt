-- What is found of an input, and told of it.
use Rattle.std.specs.Prelude.{◌≡◌, ◌≢◌, ◌⊎◌, ◌<◌, ◌++◌, ◌∷◌, ℕ, Bool, true, false, List, [], Option, Some, None, codes, length}
use Rattle.dvg_code.specs.Cutting.{Cutting}
use Rattle.dvg_code.specs.Words.{words_of}
use Rattle.dvg_io.specs.Serving.{Answers as Answering, Meaning}
use Rattle.dvg_logs.specs.LogTexts.{HasLogFault, JudgesLog}
use Rattle.dvg_named.specs.SketchFaults.{HasSketchFault}
use Rattle.dvg_print.specs.declared.log_verdict.LogFinding.TheVariants.{NotTorn}
use Rattle.dvg_print.specs.declared.log_verdict.LogVerdict.{LogVerdict}
use Rattle.dvg_read.specs.DraftReading.{Gives}
use Rattle.dvg_read.specs.DraftTexts.{HasDraftFault}
use Rattle.dvg_read.specs.FirstFaults.{IsShort}
use Rattle.dvg_read.specs.TraceLaws.{HasMeaning}
use Rattle.dvg_read.specs.TraceTexts.{HasTraceFault}
use Rattle.dvg_read.specs.declared.draft_text.TheConstants.{MOST_TEXT_BYTES}
use Rattle.dvg_read.specs.declared.fault.TextFault.{TextFault}
use Rattle.dvg_frame.specs.declared.op.OpKind.{OpKind}
use Rattle.dvg_explain.specs.Answers.{AcceptsFrames, AreAnswers, RefusesFrame}
use Rattle.dvg_explain.specs.Kinds.{IsKind}
use Rattle.dvg_explain.specs.declared.asking.Answers.{Answers}
use Rattle.dvg_explain.specs.declared.kind.Finding.{Finding}
use Rattle.dvg_explain.specs.declared.kind.Kind.{Kind}
use Rattle.dvg_explain.specs.declared.kind.Kind.TheVariants.{Words, Draft, Sketch, Trace, Dump, Log, Other}

-- words are whole instructions, or the last one lacks its second word, which is at this place (for a private contract)
abbrev pub IsCutAt : List ℕ → Option ℕ → Type 0
IsCutAt words None = (cutting : Cutting words) → cutting.rest ≡ []
IsCutAt words (Some place) = (cutting : Cutting words) → cutting.rest ≢ []

-- an input of this kind is accepted: its reader takes it whole, and the check accepts each frame of a draft and of a
-- sketch; words are whole instructions; of a log `torn` says that it isn't torn
abbrev pub IsGoodAs : List ℕ → Kind → Type 0
IsGoodAs text Words = (cutting : Cutting (words_of text)) → cutting.rest ≡ []
IsGoodAs text Draft = ((F : List OpKind) × (R : List ℕ) × Gives text F R) × AcceptsFrames text
IsGoodAs text Sketch = AcceptsFrames text
IsGoodAs text Trace = HasMeaning text
IsGoodAs text Dump = Unit {0}
IsGoodAs text Log = (verdict : LogVerdict) × JudgesLog None text verdict × (verdict.finding ≡ NotTorn)
IsGoodAs text Other = ⊥

-- something is wrong with it
abbrev pub IsWrongAs : List ℕ → Kind → Type 0
IsWrongAs text Words = (cutting : Cutting (words_of text)) → cutting.rest ≢ []
IsWrongAs text Draft = ((fault : TextFault) × HasDraftFault text fault)
    ⊎ (((fault : TextFault) × HasSketchFault text fault) ⊎ RefusesFrame text)
IsWrongAs text Sketch = ((fault : TextFault) × HasSketchFault text fault) ⊎ RefusesFrame text
IsWrongAs text Trace = (fault : TextFault) × HasTraceFault text fault
IsWrongAs text Dump = ⊥
IsWrongAs text Log = ((fault : TextFault) × HasLogFault None text fault)
    ⊎ ((verdict : LogVerdict) × JudgesLog None text verdict × (verdict.finding ≢ NotTorn))
IsWrongAs text Other = Unit {0}

-- the verdict on it
abbrev pub IsVerdictAs : List ℕ → Kind → Bool → Type 0
IsVerdictAs text kind true = IsGoodAs text kind
IsVerdictAs text kind false = IsWrongAs text kind

-- this is found of a text that isn't too long
pub record IsFoundIn {A : Type 0} (text : List ℕ) (finding : Finding A) : Type 0 where
  pub answers : Answers A
  pub are : AreAnswers text answers
  pub taken : IsKind text answers finding.kind
  pub verdict : IsVerdictAs text finding.kind finding.is_good

-- this is found of an input; one that is too long is none
pub record IsFound {A : Type 0} (input : List ℕ) (finding : Finding A) : Type 0 where
  pub short : IsShort input → IsFoundIn input finding
  pub long : MOST_TEXT_BYTES < length input → (finding.kind ≡ Other) × (finding.is_good ≡ false)

-- the name of a kind
abbrev pub name_of : Kind → List ℕ
name_of Words = codes "words"
name_of Draft = codes "draft"
name_of Sketch = codes "sketch"
name_of Trace = codes "trace"
name_of Dump = codes "dump"
name_of Log = codes "log"
name_of Other = codes "none"

-- what the last line says of the verdict
abbrev pub verdict_text : Kind → Bool → List ℕ
verdict_text Other is_good = []
verdict_text kind true = codes ", accepted"
verdict_text kind false = codes ", something is wrong"

-- the last line that is told; 10 is LF
abbrev pub last_of : Kind → Bool → List ℕ
last_of kind is_good = codes "kind: " ++ name_of kind ++ verdict_text kind is_good ++ 10 ∷ []

-- what is told: what no contract speaks of, and then the last line
abbrev pub told_of : {A : Type 0} → Finding A → List ℕ
told_of finding = finding.text.items ++ last_of finding.kind finding.is_good

-- no input has a fault for which nothing is told
abbrev pub HasNoFault : List ℕ → TextFault → Type 0
HasNoFault input fault = ⊥

-- what is answered of an input, and what went out
abbrev pub Explains : {A : Type 0} → Meaning (Finding A)
Explains = Answering IsFound HasNoFault told_of
