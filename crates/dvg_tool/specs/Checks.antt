-- What `check_text` and `check_bound` answer and write.
use Rattle.std.specs.Prelude.{ℕ, List}
use Rattle.dvg_frame.specs.declared.op.OpKind.{OpKind}
use Rattle.dvg_read.specs.declared.fault.Unread.{Unread}
use Rattle.dvg_read.specs.declared.fault.Unread.TheVariants.{Text, Memory}
use Rattle.dvg_print.specs.declared.verdict.BoundedVerdict.{BoundedVerdict}
use Rattle.dvg_print.specs.declared.verdict.Verdict.{Verdict}
use Rattle.dvg_read.specs.DraftReading.{Gives}
use Rattle.dvg_read.specs.DraftTexts.{HasDraftFault}
use Rattle.dvg_print.specs.Verdicts.{IsBoundedVerdict, IsVerdict, bounded_line, verdict_line}
use Rattle.dvg_io.specs.Serving.{Answers, Meaning}

-- the text denotes a draft and a ROM, over which the check says this of the draft
pub record JudgesBy {V : Type 0} (IsSaid : List OpKind → List ℕ → V → Type 0)
    (text : List ℕ) (verdict : V) : Type 0 where
  pub F : List OpKind
  pub R : List ℕ
  pub gives : Gives text F R
  pub said : IsSaid F R verdict

-- by a verdict without the bound
abbrev pub Judges : List ℕ → Verdict → Type 0
Judges = JudgesBy IsVerdict

-- by one with the bound
abbrev pub JudgesBound : List ℕ → BoundedVerdict → Type 0
JudgesBound = JudgesBy IsBoundedVerdict

-- a fault at which nothing is said of a text: its own, or want of memory, where it denotes a draft
-- (for a private contract)
abbrev pub IsJudgingFault : List ℕ → Unread → Type 0
IsJudgingFault text (Text fault) = HasDraftFault text fault
IsJudgingFault text Memory = (F : List OpKind) × (R : List ℕ) × Gives text F R

-- what `check_text` answers to an input, and what went out: the verdict's line
abbrev pub Checks : Meaning Verdict
Checks = Answers Judges HasDraftFault verdict_line

-- what `check_bound` does: the line of the verdict with its bound
abbrev pub ChecksBound : Meaning BoundedVerdict
ChecksBound = Answers JudgesBound HasDraftFault bounded_line
