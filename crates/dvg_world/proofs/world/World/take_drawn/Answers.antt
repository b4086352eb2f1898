use Rattle.std.proofs.Common.{Some, ap, sym}
use Rattle.dvg_world.proofs.EntriesDrew.{drew_other, left_other}
use Rattle.dvg_world.proofs.world.World.take_drawn.Goals as goal

pub returns-in-Done-clause-drawn : goal.returns-in-Done-clause-drawn
returns-in-Done-clause-drawn g c = rw c.in-Done.is (ap Some (sym c.take_picture.ensures.taken))

pub returns-in_default-clause-drawn : goal.returns-in_default-clause-drawn
returns-in_default-clause-drawn g c = drew_other c.args.entry _ c.in_default.not-Done

pub returns-in_default-clause-left : goal.returns-in_default-clause-left
returns-in_default-clause-left g c = left_other c.args.entry _ c.in_default.not-Done
