use Rattle.dvg_mem.proofs.Banks.{zero_banks_of}
use Rattle.dvg_mem.proofs.banked.BankedStore.make.Goals as goal

pub invariant_of-banked : goal.invariant_of-banked
invariant_of-banked g c = zero_banks_of c.in-Ok.ensures.ok c.in-Ok-new.ensures.ok
