use Rattle.std.proofs.Common.{refl, []}
use Rattle.dvg_code.proofs.Rows.{long_vector}
use Rattle.test_facts.proofs.instructions.decodes_a_vector.Goals as goal

pub returns : goal.returns
returns c = c.decode.ensures.found _ 2 (record { front = _; after = []; parts = refl; spells = long_vector; counted = refl })
