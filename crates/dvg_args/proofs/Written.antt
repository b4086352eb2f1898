-- Arguments that are written out, computed.
use Rattle.std.proofs.Common.{◌∷◌, [], None, codes, false, refl, true}
use Rattle.clap.proofs.OnLiterals.{clap_on_literals}
use Rattle.dvg_args.specs.Arguments.{dvg_app}
use Rattle.dvg_args.specs.Laws.{AskFor, HelpArguments, OtherArguments, RefusedOptions, SketchJobArguments, TextJobArguments}
use Rattle.dvg_job.specs.declared.task.Job.TheVariants.{Game, Lay, Play, Torn}
use Rattle.dvg_job.specs.declared.form.LayForm.TheVariants.{Equates}
use Rattle.dvg_job.specs.declared.form.LogRule.TheVariants.{AllMoments, Moments}

pub text_job_arguments : TextJobArguments
unfolding dvg_app clap_on_literals
text_job_arguments = (
  λ name. ((refl, refl), refl, refl),
  λ name. ((refl, refl), refl, refl),
  λ name. ((refl, refl), refl, refl),
  λ name. ((refl, refl), refl, refl),
  λ name. ((refl, refl), refl, refl),
  λ name. ((refl, refl), refl, refl),
  λ name. ((refl, refl), refl, refl),
  λ name. ((refl, refl), refl, refl),
  λ name. ((refl, refl), refl, refl),
  λ name. ((refl, refl), refl, refl),
  λ name. ((refl, refl), refl, refl),
  λ name. ((refl, refl), refl, refl),
  λ name. ((refl, refl), refl, refl),
  λ name. ((refl, refl), refl, refl),
  λ name. ((refl, refl), refl, refl),
  λ name. ((refl, refl), refl, refl),
  λ name. ((refl, refl), refl, refl),
  λ name. ((refl, refl), refl, refl),
  λ name. ((refl, refl), refl, refl),
  λ name. ((refl, refl), refl, refl),
  λ name. ((refl, refl), refl, refl),
  λ name. ((refl, refl), refl, refl),
  λ name. ((refl, refl), refl, refl),
  λ name. ((refl, refl), refl, refl),
  λ name. ((refl, refl), refl, refl),
  λ name. ((refl, refl), refl, refl),
  λ name. ((refl, refl), refl, refl),
)

pub sketch_job_arguments : SketchJobArguments
unfolding dvg_app clap_on_literals
sketch_job_arguments = (
  λ name. ((refl, refl), refl, refl),
  λ name. ((refl, refl), refl, refl),
  λ name. ((refl, refl), refl, refl),
  λ name. ((refl, refl), refl, refl),
  λ name. ((refl, refl), refl, refl),
  λ name. ((refl, refl), refl, refl),
  λ name. ((refl, refl), refl, refl),
  λ name. ((refl, refl), refl, refl),
  λ name. ((refl, refl), refl, refl),
  λ name. ((refl, refl), refl, refl),
  λ name. ((refl, refl), refl, refl),
  λ name. ((refl, refl), refl, refl),
)

pub help_arguments : HelpArguments
unfolding dvg_app clap_on_literals
help_arguments name = refl

pub other_arguments : OtherArguments
unfolding dvg_app clap_on_literals
other_arguments name = refl

pub refused_options : RefusedOptions
unfolding dvg_app clap_on_literals
refused_options name = refl

-- Lines of these laws that common arguments need by themselves.

pub play_banked : AskFor (codes "play" ∷ codes "--banked" ∷ []) (Play false true)
unfolding dvg_app clap_on_literals
play_banked name = ((refl, refl), refl, refl)

pub lay_equates : AskFor (codes "lay" ∷ codes "--equates" ∷ []) (Lay Equates)
unfolding dvg_app clap_on_literals
lay_equates name = ((refl, refl), refl, refl)

pub torn_moments : AskFor (codes "torn" ∷ codes "--moments" ∷ []) (Torn Moments None)
unfolding dvg_app clap_on_literals
torn_moments name = ((refl, refl), refl, refl)

pub torn_all_moments : AskFor (codes "torn" ∷ codes "--moments" ∷ codes "--all" ∷ []) (Torn AllMoments None)
unfolding dvg_app clap_on_literals
torn_all_moments name = ((refl, refl), refl, refl)

pub game_notes : AskFor (codes "game" ∷ codes "--notes" ∷ []) (Game true)
unfolding dvg_app clap_on_literals
game_notes name = ((refl, refl), refl, refl)
