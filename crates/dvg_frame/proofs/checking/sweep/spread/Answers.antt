use Rattle.std.proofs.Common.{⊎_elim}
use Rattle.dvg_frame.proofs.Swept.{spread_move, spread_jump, spread_call}
use Rattle.dvg_frame.proofs.checking.sweep.spread.Goals as goal

pub returns-in-Call : goal.returns-in-Call
returns-in-Call c = spread_call _ _ _ _ _ _ _ c.in-Call.is c.add.ensures c.add-in-Call.ensures

pub returns-in-Move : goal.returns-in-Move
returns-in-Move c = ⊎_elim (λ move. spread_move _ _ _ _ _ _ move.1 c.add-in-Move.ensures) (λ jump. spread_jump _ _ _ _ _ jump c.add-in-Move.ensures) c.in-Move.is
