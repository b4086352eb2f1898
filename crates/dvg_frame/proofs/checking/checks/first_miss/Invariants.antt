use Rattle.std.proofs.Common.{ℕ, ◌<◌}
use Rattle.dvg_frame.specs.Steps.{Misses}
use Rattle.dvg_frame.proofs.checking.checks.first_miss.Given as goal

abbrev pub invariant-loop-i : goal.invariant-loop-i
invariant-loop-i l = (k : ℕ) → k < l.i → ¬ Misses l.draft k
