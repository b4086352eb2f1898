use Rattle.std.proofs.Common.{◌∷◌, [], None, codes, subst, sym}
use Rattle.std.specs.Cmp.Lexicographic.{same_text}
use Rattle.dvg_args.specs.Laws.{AskFor}
use Rattle.dvg_args.proofs.Written.{torn_moments}
use Rattle.dvg_args.proofs.common.flag_job.Goals as goal
use Rattle.dvg_job.specs.declared.form.LogRule.TheVariants.{Moments}
use Rattle.dvg_job.specs.declared.task.Job.TheVariants.{Torn}

pub returns-then-eq-9 : goal.returns-then-eq-9
returns-then-eq-9 c =
    let flag = c.args.flag.now in
    let with_name = subst (λ f. AskFor (codes "torn" ∷ f ∷ []) (Torn Moments None)) (sym (same_text _ _ c.if-eq-9.ensures)) torn_moments in
    subst (λ name. AskFor (name ∷ flag ∷ []) (Torn Moments None)) (sym (same_text _ _ c.if-eq-8.ensures)) with_name
