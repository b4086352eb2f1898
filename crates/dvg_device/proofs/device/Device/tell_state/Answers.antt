use Rattle.std.proofs.Common.{refl, sym}
use Rattle.dvg_device.proofs.device.Device.tell_state.Goals as goal

pub returns : goal.returns
returns c = rw (sym c.self.view_is) (c.take.new.self, refl, c.take.ensures)
