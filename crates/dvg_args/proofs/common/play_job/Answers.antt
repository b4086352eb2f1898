use Rattle.std.proofs.Common.{◌∷◌, [], codes, false, subst, sym, true}
use Rattle.std.specs.Cmp.Lexicographic.{same_text}
use Rattle.dvg_args.specs.Laws.{AskFor}
use Rattle.dvg_args.proofs.Written.{play_banked}
use Rattle.dvg_args.proofs.common.play_job.Goals as goal
use Rattle.dvg_job.specs.declared.task.Job.TheVariants.{Play}

pub returns-then-eq-2 : goal.returns-then-eq-2
returns-then-eq-2 c =
    subst (λ flag. AskFor (codes "play" ∷ flag ∷ []) (Play false true)) (sym (same_text _ _ c.if-eq-2.ensures)) play_banked
