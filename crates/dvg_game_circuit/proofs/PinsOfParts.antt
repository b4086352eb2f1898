-- The pins of the circuit are those of its parts.
use Rattle.std.proofs.Common.{refl}
use Rattle.dvg_game_circuit.specs.Shown.{ShowsParts}

pub shows : ShowsParts
shows game bus = ((refl, refl, refl, refl, refl, refl, refl, refl), (refl, refl, refl, refl, refl, refl, refl))
