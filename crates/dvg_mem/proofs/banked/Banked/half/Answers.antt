use Rattle.dvg_mem.proofs.Banks.{half_0_bytes, half_1_bytes}
use Rattle.dvg_mem.proofs.banked.Banked.half.Goals as goal

pub returns-in-H0 : goal.returns-in-H0
returns-in-H0 g c = let bytes = half_0_bytes c.self.invariant in cc

pub returns-in-H1 : goal.returns-in-H1
returns-in-H1 g c = let bytes = half_1_bytes c.self.invariant in cc
