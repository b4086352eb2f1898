-- What is reported of what an engine answers.
use Rattle.std.proofs.Common.{◌≡◌, ◌∙◌, ℕ, List, [], ◌∷◌, Option, None, Some, Result, All, refl, subst, sym}
use Rattle.std.specs.Prelude.{IfSome}
use Rattle.std.proofs.lemmas.List.Elements.{All-cons, All-head, All-nil, All-tail}
use Rattle.dvg_io.specs.Serving.{Meaning}
use Rattle.dvg_io.specs.declared.fault.ToolFault.{ToolFault}
use Rattle.dvg_job.specs.declared.task.Job.{Job}
use Rattle.dvg_lay.specs.Checks.{IsGoodVerdict, SaysGood}
use Rattle.dvg_lay.specs.declared.verdicts.FrameVerdict.{FrameVerdict}
use Rattle.dvg_print.specs.declared.verdict.BoundedVerdict.{BoundedVerdict}
use Rattle.dvg_print.specs.declared.verdict.BoundedVerdict.TheVariants as bounded
use Rattle.dvg_tool.specs.declared.outcome.Done.{Done}
use Rattle.dvg_tool.specs.declared.outcome.Done.TheVariants.{Good, Bad}
use Rattle.dvg_tool.specs.Jobs.{task_of}
use Rattle.dvg_tool.specs.Reports.{IsReported, Reports, and_of, of_frames}

-- where the input is known, so is what is reported of it
pub reports : {A V : Type 0} (done : V → Done A) (Means : Meaning V) (answer : Result V ToolFault) (report : Result (Done A) ToolFault)
    (known old new : Option (List ℕ)) → IsReported done answer report → IfSome known (λ input. Means answer input old new)
    → IfSome known (λ input. Reports done Means report input old new)
reports done Means answer report None old new is means = tt
reports done Means answer report (Some input) old new is means = record { answer = answer; means = means; reported = is }

-- the same for a job, of which that is kept
pub reports_at : {A V : Type 0} (job asked : Job) → job ≡ asked → (done : V → Done A) (Means : Meaning V)
    (answer : Result V ToolFault) (report : Result (Done A) ToolFault) (known old new : Option (List ℕ))
    → ((input : List ℕ) → Reports done Means report input old new → (task_of {A = A} asked).Means report input old new)
    → IsReported done answer report → IfSome known (λ input. Means answer input old new)
    → IfSome known (λ input. (task_of {A = A} job).Means report input old new)
reports_at job asked same done Means answer report None old new kept is means = tt
reports_at job asked same done Means answer report (Some input) old new kept is means =
    subst (λ j. (task_of j).Means report input old new) (sym same)
    (kept input (record { answer = answer; means = means; reported = is }))

-- a good verdict leaves it to the others, and one that isn't good doesn't
and_good : {A : Type 0} (verdict : BoundedVerdict) (others : Done A) → SaysGood verdict → and_of verdict others ≡ others
and_good (bounded.Good words bound) others good = refl
and_good (bounded.Refused fault) others never = absurd never

and_bad : {A : Type 0} (verdict : BoundedVerdict) (others : Done A) → (SaysGood verdict → others ≡ Bad)
    → and_of verdict others ≡ Bad
and_bad (bounded.Good words bound) others rest = rest tt
and_bad (bounded.Refused fault) others rest = refl

-- all frames are good
pub good_frames : {A : Type 0} (verdicts : List FrameVerdict) → All IsGoodVerdict verdicts → of_frames {A = A} verdicts ≡ Good
good_frames [] good = refl
good_frames (said ∷ more) good =
    and_good said.verdict (of_frames more) (All-head IsGoodVerdict said more good)
    ∙ good_frames more (All-tail IsGoodVerdict said more good)

-- not all are
pub bad_frames : {A : Type 0} (verdicts : List FrameVerdict) → ¬ All IsGoodVerdict verdicts → of_frames {A = A} verdicts ≡ Bad
bad_frames [] bad = absurd (bad (All-nil IsGoodVerdict))
bad_frames (said ∷ more) bad =
    and_bad said.verdict (of_frames more) (λ good. bad_frames more (λ all. bad (All-cons IsGoodVerdict said more good all)))
