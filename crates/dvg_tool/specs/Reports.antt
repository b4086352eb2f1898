-- What a job reports of what its engine returns.
use Rattle.std.specs.Prelude.{◌≡◌, ℕ, List, [], ◌∷◌, Option, Some, None, Result, Ok, Err, MatchResult, if◌then◌else◌}
use Rattle.dvg_io.specs.declared.fault.ToolFault.{ToolFault}
use Rattle.dvg_io.specs.Serving.{Meaning}
use Rattle.dvg_dump.specs.declared.ending.Outcome.{Outcome}
use Rattle.dvg_dump.specs.declared.ending.Outcome.TheVariants as outcomes
use Rattle.dvg_explain.specs.declared.kind.Finding.{Finding}
use Rattle.dvg_game.specs.declared.told.Told.{Told}
use Rattle.dvg_game_check.specs.declared.judging.Verdict.{Verdict as GameVerdict}
use Rattle.dvg_game_check.specs.declared.judging.Verdict.TheVariants as games
use Rattle.dvg_blame.specs.declared.refusal.Refusal.{Refusal}
use Rattle.dvg_lay.specs.declared.verdicts.FrameVerdict.{FrameVerdict}
use Rattle.dvg_picture.specs.declared.undrawn.Undrawn.{Undrawn}
use Rattle.dvg_print.specs.declared.log_verdict.LogFinding.{LogFinding}
use Rattle.dvg_print.specs.declared.log_verdict.LogFinding.TheVariants.{NotTorn}
use Rattle.dvg_print.specs.declared.log_verdict.LogVerdict.{LogVerdict}
use Rattle.dvg_print.specs.declared.moment_verdict.MomentVerdict.{MomentVerdict}
use Rattle.dvg_print.specs.declared.moment_verdict.MomentVerdict.TheVariants.{Whole}
use Rattle.dvg_print.specs.declared.verdict.BoundedVerdict.{BoundedVerdict}
use Rattle.dvg_print.specs.declared.verdict.BoundedVerdict.TheVariants as bounded
use Rattle.dvg_print.specs.declared.verdict.Verdict.{Verdict}
use Rattle.dvg_print.specs.declared.verdict.Verdict.TheVariants as verdicts
use Rattle.dvg_tool.specs.declared.outcome.Done.{Done}
use Rattle.dvg_tool.specs.declared.outcome.Done.TheVariants.{Good, Bad, Unseen, Undrawn as undrawn_by, Refused}

-- of a text that was written
abbrev pub written : {A V : Type 0} → V → Done A
written text = Good

-- of a verdict on a draft
abbrev pub of_verdict : {A : Type 0} → Verdict → Done A
of_verdict (verdicts.Good words) = Good
of_verdict (verdicts.Refused fault) = Bad

-- and of one with its bound
abbrev pub of_bounded : {A : Type 0} → BoundedVerdict → Done A
of_bounded (bounded.Good words bound) = Good
of_bounded (bounded.Refused fault) = Bad

-- of what the run over a dump came to
abbrev pub of_outcome : {A : Type 0} → Outcome → Done A
of_outcome outcomes.Picture = Good
of_outcome _ = Bad

-- of why it drew no picture, if it didn't
abbrev pub of_undrawn : {A : Type 0} → Option Undrawn → Done A
of_undrawn None = Good
of_undrawn (Some undrawn) = undrawn_by undrawn

-- of what is found in a log
abbrev pub of_finding : {A : Type 0} → LogFinding → Done A
of_finding NotTorn = Good
of_finding _ = Bad

-- of the verdict on a log
abbrev pub of_log : {A : Type 0} → LogVerdict → Done A
of_log verdict = of_finding verdict.finding

-- and of that by moments
abbrev pub of_moments : {A : Type 0} → MomentVerdict → Done A
of_moments (Whole runs halted judged) = Good
of_moments _ = Bad

-- of what is made of a sketch, or why a frame is refused
abbrev pub of_made : {A T : Type 0} → Result T (Refusal A) → Done A
of_made (Ok made) = Good
of_made (Err refusal) = Refused refusal

-- of what an input is found to be: nothing is to be wrong with it
abbrev pub of_explained : {A : Type 0} → Finding A → Done A
of_explained finding = if finding.is_good then Good else Bad

-- of the verdict on a game
abbrev pub of_game : {A : Type 0} → GameVerdict → Done A
of_game (games.Keeps start) = Good
of_game (games.Unseen start why) = Unseen
of_game (games.Refused why) = Bad
of_game (games.Unsettled why) = Bad

-- of what is told of a game
abbrev pub of_told : {A : Type 0} → Told A → Done A
of_told told = of_game told.verdict

-- of frames before which this is reported of the others
abbrev pub and_of : {A : Type 0} → BoundedVerdict → Done A → Done A
and_of (bounded.Good words bound) others = others
and_of (bounded.Refused fault) others = Bad

-- of the verdicts on the frames of a sketch: all are to be good
abbrev pub of_frames : {A : Type 0} → List FrameVerdict → Done A
of_frames [] = Good
of_frames (said ∷ more) = and_of said.verdict (of_frames more)

-- what is reported of an answer, by what is reported of what was found
abbrev pub IsReported : {A V : Type 0} → (V → Done A) → Result V ToolFault → Result (Done A) ToolFault → Type 0
IsReported done answer report = MatchResult answer (λ found. report ≡ Ok (done found)) (λ fault. report ≡ Err fault)

-- an engine answers so to an input, and this is reported of its answer
pub record Reports {A V : Type 0} (done : V → Done A) (Means : Meaning V) (report : Result (Done A) ToolFault)
    (input : List ℕ) (old new : Option (List ℕ)) : Type 0 where
  pub answer : Result V ToolFault
  pub means : Means answer input old new
  pub reported : IsReported done answer report
