use Rattle.std.proofs.Common.{refl}
use Rattle.dvg_cells_motion.proofs.vectors_show.Goals as goal

pub returns : goal.returns
returns c = λ vectors bus. ((refl, refl, refl, refl, refl, refl, refl, refl), (refl, refl, refl, refl, refl, refl), (refl, refl, refl, refl, refl, refl, refl, refl, refl))
