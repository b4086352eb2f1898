use Rattle.std.proofs.Common.{refl}
use Rattle.dvg_world.proofs.EventsAddLines.{keeps_between, keeps_machine}
use Rattle.dvg_world.proofs.world.World.take_picture.Goals as goal

pub returns-clause-stands : goal.returns-clause-stands
returns-clause-stands g c = keeps_between c.self.view_is refl (keeps_machine c.take_picture.ensures.stands)
