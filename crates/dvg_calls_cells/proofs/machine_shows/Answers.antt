use Rattle.std.proofs.Common.{refl}
use Rattle.dvg_calls_cells.proofs.machine_shows.Goals as goal

pub returns : goal.returns
returns c = λ machine bus. (
  (refl, refl, refl, refl, refl, refl, refl, refl),
  (refl, refl, refl, refl),
  (refl, refl, refl, refl, refl, refl, refl, refl, refl, refl, refl, refl),
)
