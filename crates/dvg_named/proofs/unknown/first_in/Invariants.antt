use Rattle.std.proofs.Common.{◌<◌, ℕ}
use Rattle.dvg_named.specs.FirstUnknown.{section_held}
use Rattle.dvg_named.specs.LaidValues.{laid_sections}
use Rattle.dvg_named.specs.Ungiven.{WantsAt}
use Rattle.dvg_named.proofs.unknown.first_in.Given as goal

abbrev pub invariant-loop-place : goal.invariant-loop-place
invariant-loop-place g l = (k : ℕ) → k < l.place → ¬ WantsAt (laid_sections l.laid) (section_held l.head l.rows) k
