use Rattle.std.proofs.Common.{◌∷◌, [], codes, subst, sym}
use Rattle.std.specs.Cmp.Lexicographic.{same_text}
use Rattle.dvg_args.specs.Laws.{AskFor}
use Rattle.dvg_args.proofs.Written.{lay_equates}
use Rattle.dvg_args.proofs.common.lay_job.Goals as goal
use Rattle.dvg_job.specs.declared.form.LayForm.TheVariants.{Equates}
use Rattle.dvg_job.specs.declared.task.Job.TheVariants.{Lay}

pub returns-then-eq-3 : goal.returns-then-eq-3
returns-then-eq-3 c =
    subst (λ flag. AskFor (codes "lay" ∷ flag ∷ []) (Lay Equates)) (sym (same_text _ _ c.if-eq-3.ensures)) lay_equates
