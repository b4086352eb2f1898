use Rattle.std.proofs.Common.{ℕ, ◌<◌}
use Rattle.dvg_steps.specs.Drafts.{GivesAgain}
use Rattle.dvg_steps.proofs.drafts.given_again.Given as goal

abbrev pub invariant-loop-place : goal.invariant-loop-place
invariant-loop-place l = (k : ℕ) → k < l.place → ¬ GivesAgain l.steps k
