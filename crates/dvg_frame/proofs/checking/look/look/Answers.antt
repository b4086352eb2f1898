use Rattle.std.proofs.Common.{refl}
use Rattle.dvg_frame.proofs.FaultsAtPlaces.{least_there, fine_there, cut_there}
use Rattle.dvg_frame.proofs.checking.look.look.Goals as goal

pub returns-in-Some-fault_at : goal.returns-in-Some-fault_at
returns-in-Some-fault_at g c = least_there _ _ _ _ _ _ refl c.in-Some.ensures c.in-Some-fault_at.ensures

pub returns-in-None-fault_at : goal.returns-in-None-fault_at
returns-in-None-fault_at g c = (fine_there _ _ _ _ _ refl c.in-Some.ensures c.in-None-fault_at.ensures, c.in-Some.ensures)

pub returns-in-None : goal.returns-in-None
returns-in-None g c = cut_there _ _ _ c.in-None.ensures
