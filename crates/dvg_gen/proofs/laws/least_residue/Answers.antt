use Rattle.dvg_gen.proofs.Residues.{shifted_below, shifted_turns}
use Rattle.dvg_gen.proofs.laws.least_residue.Goals as goal

pub returns : goal.returns
returns c = λ x d unit. (shifted_below x d unit, shifted_turns x d unit)
