-- What is said of the frames of a sketch.
use Rattle.std.specs.Prelude.{◌≡◌, ◌<◌, ◌≤◌, ◌-◌, ℕ, List, [], ◌∷◌, ◌++◌, Option, Some, None}
use Rattle.std.specs.Prelude.{length, take}
use Rattle.std.specs.Borrow.{Bor}
use Rattle.std.specs.List.{AllZip}
use Rattle.dvg_frame.specs.declared.op.OpKind.{OpKind}
use Rattle.dvg_io.specs.Serving.{Meaning}
use Rattle.dvg_print.specs.declared.verdict.BoundedVerdict.{BoundedVerdict}
use Rattle.dvg_print.specs.declared.verdict.BoundedVerdict.TheVariants.{Good, Refused}
use Rattle.dvg_print.specs.Verdicts.{IsBoundedVerdict, bounded_line}
use Rattle.dvg_named.specs.declared.meaning.NamedFrame.{NamedFrame}
use Rattle.dvg_lay.specs.Sketches.{Makes}
use Rattle.dvg_lay.specs.Times.{IsTimeOf, time_text}
use Rattle.dvg_lay.specs.declared.time.PictureTime.{PictureTime}
use Rattle.dvg_lay.specs.declared.verdicts.FrameVerdict.{FrameVerdict}
use Rattle.dvg_lay.specs.declared.verdicts.Said.{Said}
use Rattle.dvg_dump.specs.declared.runs.TheConstants.{MOST_WORDS}

-- the verdict is that a frame is accepted
abbrev pub SaysGood : BoundedVerdict → Type 0
SaysGood (Good words bound) = Unit {0}
SaysGood (Refused fault) = ⊥

-- what is said of a frame is that it is accepted
abbrev pub IsGoodVerdict : FrameVerdict → Type 0
IsGoodVerdict said = SaysGood said.verdict

-- a name before what is said: a colon, which is 58, and a space, which is 32, come after it
abbrev pub front : Option (Bor (List ℕ)) → List ℕ
front None = []
front (Some name) = name.now ++ 58 ∷ 32 ∷ []

-- a line without its LF
abbrev pub unended : List ℕ → List ℕ
unended line = take (length line - 1) line

-- the line of a verdict, and before its LF, which is 10, the time
abbrev pub timed_line : BoundedVerdict → Option PictureTime → List ℕ
timed_line verdict None = bounded_line verdict
timed_line verdict (Some time) = unended (bounded_line verdict) ++ time_text time ++ 10 ∷ []

-- the line of what is said of a frame
abbrev pub said_line : NamedFrame → FrameVerdict → List ℕ
said_line frame said = front frame.name ++ timed_line said.verdict said.time

-- the lines of what is said of frames, in order
abbrev pub said_lines : List NamedFrame → List FrameVerdict → List ℕ
said_lines (frame ∷ frames) (said ∷ more) = said_line frame said ++ said_lines frames more
said_lines _ _ = []

-- the time of an accepted frame's picture is told where its run fetches at most 65,536 words, and no other one
abbrev pub IsTimed : List OpKind → (R : List ℕ) → BoundedVerdict → Option PictureTime → Type 0
IsTimed F R (Good words bound) (Some time) = (bound ≤ MOST_WORDS) × IsTimeOf F R time
IsTimed F R (Good words bound) None = MOST_WORDS < bound
IsTimed F R (Refused fault) time = time ≡ None

-- this is the verdict on the frame over a ROM, with its picture's time
pub record IsVerdictOn (R : List ℕ) (frame : NamedFrame) (said : FrameVerdict) : Type 0 where
  pub verdict : IsBoundedVerdict frame.ops.now R said.verdict
  pub time : IsTimed frame.ops.now R said.verdict said.time

-- these are the verdicts on all frames over a ROM, and their lines
pub record ChecksFrames {A : Type 0} (R : List ℕ) (frames : List NamedFrame) (said : Said A) : Type 0 where
  pub verdicts : AllZip (IsVerdictOn R) frames said.verdicts.items
  pub text : said.text.items ≡ said_lines frames said.verdicts.items

-- what is answered of an input, and what went out
abbrev pub ChecksSketch : {A : Type 0} → Meaning (Said A)
ChecksSketch = Makes (λ R names. ChecksFrames R) (λ said. said.text.items)
