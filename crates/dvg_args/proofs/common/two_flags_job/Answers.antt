use Rattle.std.proofs.Common.{◌∷◌, [], None, codes, subst, sym}
use Rattle.std.specs.Cmp.Lexicographic.{same_text}
use Rattle.dvg_args.specs.Laws.{AskFor}
use Rattle.dvg_args.proofs.Written.{torn_all_moments}
use Rattle.dvg_args.proofs.common.two_flags_job.Goals as goal
use Rattle.dvg_job.specs.declared.form.LogRule.TheVariants.{AllMoments}
use Rattle.dvg_job.specs.declared.task.Job.TheVariants.{Torn}

pub returns-then-eq-3 : goal.returns-then-eq-3
returns-then-eq-3 c =
    let first = c.args.first.now in
    let second = c.args.second.now in
    let job = Torn AllMoments None in
    let by_second = subst (λ s. AskFor (codes "torn" ∷ codes "--moments" ∷ s ∷ []) job) (sym (same_text _ _ c.if-eq-3.ensures)) torn_all_moments in
    let by_first = subst (λ f. AskFor (codes "torn" ∷ f ∷ second ∷ []) job) (sym (same_text _ _ c.if-eq-2.ensures)) by_second in
    subst (λ name. AskFor (name ∷ first ∷ second ∷ []) job) (sym (same_text _ _ c.if-eq.ensures)) by_first
