use Rattle.std.proofs.Common.{refl, sym}
use Rattle.dvg_device.proofs.Staged.{staged_once}
use Rattle.dvg_device.proofs.device.Device.turn_stage.Goals as goal

pub returns-in-Some : goal.returns-in-Some
returns-in-Some c =
    let room = c.in-Some.ensures.room.0 refl in
    let (length_is, bytes_are) = c.in-Some.ensures.staged in
    rw (sym c.self.view_is)
    (staged_once c.args.request c.in-Stage-default-eq1.byte c.in-Stage-default-eq1.count c.in-Some.length c.number.result c.of.result _
    c.stage_one.new.staged.items c.of.ensures c.in-Stage-default-eq1.is c.in-Stage-default-eq1.count-test room.0 length_is bytes_are c.number.ensures)
