use Rattle.dvg_theorem.proofs.Law.{any_memory, undisturbed}
use Rattle.dvg_theorem.proofs.laws.undisturbed.Goals as goal

pub returns : goal.returns
returns c = record { memory = any_memory; ram = undisturbed }
