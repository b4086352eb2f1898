-- For which kind an input is taken.
use Rattle.std.specs.Prelude.{◌≡◌, ◌⊎◌, ◌^◌, ◌-◌, ◌%◌, ◌<◌, ◌≤◌, ℕ, All, List, length, max, Option, Some, None}
use Rattle.dvg_dump.specs.Memory.{HasDumpSize}
use Rattle.dvg_read.specs.Texts.{lines}
use Rattle.dvg_read.specs.declared.fault.TextFault.{TextFault}
use Rattle.dvg_read.specs.declared.fault.TextFault.TheVariants.{Syntax, Full, Many, NameGivenAgain, OutOfRom, Overlap}
use Rattle.dvg_rows.specs.PlainLines.{tokens}
use Rattle.dvg_explain.specs.declared.asking.Answers.{Answers}
use Rattle.dvg_explain.specs.declared.kind.Kind.{Kind}
use Rattle.dvg_explain.specs.declared.kind.Kind.TheVariants.{Words, Draft, Sketch, Trace, Dump, Log, Other}

-- the line says something: it has a token, and isn't a comment alone
abbrev pub Says : List ℕ → Type 0
Says line = 0 < length (tokens line)

-- the first of the four readers that takes a text whole, if one does: of drafts, of traces, of sketches, of logs
abbrev pub first_whole : (draft trace sketch log : Option TextFault) → Option Kind
first_whole None trace sketch log = Some Draft
first_whole (Some fault) None sketch log = Some Trace
first_whole (Some fault) (Some also) None log = Some Sketch
first_whole (Some fault) (Some also) (Some third) None = Some Log
first_whole (Some fault) (Some also) (Some third) (Some fourth) = None

abbrev pub whole_kind : {A : Type 0} → Answers A → Option Kind
whole_kind answers = first_whole answers.draft answers.trace answers.sketch answers.log

-- the line up to which a reader reads that has this fault; the greatest number where it reads all lines
abbrev pub reach : Option TextFault → ℕ
reach (Some (Syntax n)) = n
reach (Some (Full n)) = n
reach (Some (Many n)) = n
reach (Some (NameGivenAgain n)) = n
reach (Some (OutOfRom n)) = n
reach (Some (Overlap n)) = n
reach _ = 2 ^ 64 - 1

-- the line up to which a reader reads that reads the farthest
abbrev pub farthest : {A : Type 0} → Answers A → ℕ
farthest answers = max (max (max (reach answers.draft) (reach answers.trace)) (reach answers.sketch)) (reach answers.log)

-- no reader reads farther than that of the kind; or the kind is none
abbrev pub IsNearest : {A : Type 0} → Answers A → Kind → Type 0
IsNearest answers Draft = reach answers.draft ≡ farthest answers
IsNearest answers Trace = reach answers.trace ≡ farthest answers
IsNearest answers Sketch = reach answers.sketch ≡ farthest answers
IsNearest answers Log = reach answers.log ≡ farthest answers
IsNearest answers Other = Unit {0}
IsNearest answers _ = ⊥

-- the kind of bytes that are no text: a dump and words by their number; or none
abbrev pub IsOfBytes : List ℕ → Kind → Type 0
IsOfBytes bytes Dump = HasDumpSize bytes
IsOfBytes bytes Words = (¬ HasDumpSize bytes) × (length bytes % 2 ≡ 0) × (length bytes ≤ 8192)
IsOfBytes bytes Other = Unit {0}
IsOfBytes bytes _ = ⊥

-- the kind of an input that no reader of texts takes whole: by how far they read, or by its size
abbrev pub IsUnread : {A : Type 0} → List ℕ → Answers A → Kind → Type 0
IsUnread text answers kind = IsNearest answers kind ⊎ IsOfBytes text kind

-- the kind of an input to which the readers answer so
abbrev pub IsKindBy : {A : Type 0} → List ℕ → Answers A → Option Kind → Kind → Type 0
IsKindBy text answers (Some whole) kind = kind ≡ whole
IsKindBy text answers None kind = IsUnread text answers kind

-- no line says something
abbrev pub IsSilent : List ℕ → Type 0
IsSilent text = All (λ line. ¬ Says line) (lines text)

-- the kind for which an input is taken: none where no line says something
pub record IsKind {A : Type 0} (text : List ℕ) (answers : Answers A) (kind : Kind) : Type 0 where
  pub silent : IsSilent text → kind ≡ Other
  pub said : (¬ IsSilent text) → IsKindBy text answers (whole_kind answers) kind
