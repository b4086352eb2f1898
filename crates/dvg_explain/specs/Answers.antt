-- What the readers of texts answer to an input.
use Rattle.std.specs.Prelude.{◌≡◌, ◌+◌, ℕ, All, List, ◌∷◌, ◌++◌, Option, Some, None, length, map}
use Rattle.dvg_frame.specs.declared.fault.FrameFault.{FrameFault}
use Rattle.dvg_frame.specs.declared.op.OpKind.{OpKind}
use Rattle.dvg_frame.specs.Faults.{Refuses}
use Rattle.dvg_blame.specs.Refusals.{IsFirst, IsGood}
use Rattle.dvg_log.specs.Log.{Line}
use Rattle.dvg_logs.specs.LogLines.{IsLineOf}
use Rattle.dvg_logs.specs.LogTexts.{AnswersTorn}
use Rattle.dvg_named.specs.ReadSketches.{IsSketchOf, lent_of}
use Rattle.dvg_named.specs.SketchFaults.{HasSketchFault}
use Rattle.dvg_named.specs.declared.meaning.NamedFrame.{NamedFrame}
use Rattle.dvg_named.specs.declared.meaning.RomName.{RomName}
use Rattle.dvg_read.specs.DraftReading.{Gives}
use Rattle.dvg_read.specs.DraftTexts.{HasDraftFault}
use Rattle.dvg_read.specs.Texts.{lines}
use Rattle.dvg_read.specs.TraceLaws.{HasMeaning}
use Rattle.dvg_read.specs.TraceTexts.{HasTraceFault}
use Rattle.dvg_read.specs.declared.fault.TextFault.{TextFault}
use Rattle.dvg_read.specs.declared.fault.TextFault.TheVariants.{Syntax}
use Rattle.dvg_explain.specs.declared.asking.Answers.{Answers}
use Rattle.dvg_explain.specs.declared.frames.RefusedFrame.{RefusedFrame}

-- the reader of drafts takes the text, or has this fault
abbrev pub AnswersDraft : List ℕ → Option TextFault → Type 0
AnswersDraft text None = (F : List OpKind) × (R : List ℕ) × Gives text F R
AnswersDraft text (Some fault) = HasDraftFault text fault

-- that of traces
abbrev pub AnswersTrace : List ℕ → Option TextFault → Type 0
AnswersTrace text None = HasMeaning text
AnswersTrace text (Some fault) = HasTraceFault text fault

-- a line of a log, whose bytes are written at addresses of the generator
abbrev pub TellsSome : List ℕ → Type 0
TellsSome line = (logged : Line) × IsLineOf None logged line

-- line n is the first that is none of a log
pub record IsNoLog (text : List ℕ) (n : ℕ) : Type 0 where
  pub before : List (List ℕ)
  pub line : List ℕ
  pub after : List (List ℕ)
  pub cut : lines text ≡ before ++ line ∷ after
  pub number : n ≡ length before + 1
  pub fine : All TellsSome before
  pub wrong : ¬ TellsSome line

-- all lines are those of a log, or one is the first that isn't
abbrev pub AnswersLog : List ℕ → Option TextFault → Type 0
AnswersLog text None = All TellsSome (lines text)
AnswersLog text (Some (Syntax n)) = IsNoLog text n
AnswersLog text (Some fault) = ⊥

-- the text denotes these frames, over a ROM with names
pub record IsOfFrames (text : List ℕ) : Type 0 where
  pub R : List ℕ
  pub names : List RomName
  pub frames : List NamedFrame
  pub is : IsSketchOf text R names (map lent_of frames)

-- the check accepts all frames of the text
abbrev pub AcceptsFrames : List ℕ → Type 0
AcceptsFrames text = (sketch : IsOfFrames text) × All (IsGood sketch.R) sketch.frames

-- the check refuses a frame of the text, the first that it doesn't accept
abbrev pub RefusesFrame : List ℕ → Type 0
RefusesFrame text = (sketch : IsOfFrames text)
    × IsFirst (IsGood sketch.R) (λ frame. (fault : FrameFault) × Refuses frame.ops.now sketch.R fault) sketch.frames

-- the check refuses no frame of the text, or this one
abbrev pub AnswersFrames : {A : Type 0} → List ℕ → Option (RefusedFrame A) → Type 0
AnswersFrames text None = AcceptsFrames text
AnswersFrames text (Some refused) = RefusesFrame text

-- the reader of sketches takes the text, and of its frames the check says this; or the reader has this fault
abbrev pub AnswersSketch : {A : Type 0} → List ℕ → Option TextFault → Option (RefusedFrame A) → Type 0
AnswersSketch text None refused = AnswersFrames text refused
AnswersSketch text (Some fault) refused = HasSketchFault text fault

-- this is what the readers of texts answer
pub record AreAnswers {A : Type 0} (text : List ℕ) (answers : Answers A) : Type 0 where
  pub draft : AnswersDraft text answers.draft
  pub trace : AnswersTrace text answers.trace
  pub sketch : AnswersSketch text answers.sketch answers.refused
  pub log : AnswersLog text answers.log
  pub judged : AnswersTorn None text answers.judged
