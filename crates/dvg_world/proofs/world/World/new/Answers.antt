use Rattle.std.proofs.Common.{subst}
use Rattle.dvg_mem.specs.Memory.{IsRom}
use Rattle.dvg_world.proofs.EventsAddLines.{new_world}
use Rattle.dvg_world.proofs.world.World.new.Goals as goal

pub returns-clause-stands : goal.returns-clause-stands
returns-clause-stands g c =
    let rom = subst IsRom c.rom.view_is c.rom.invariant in
    new_world c.args.rom c.args.image.now _ _ c.in_ok-desk.desk rom c.in_ok-store.ensures.image c.in_ok-store.ensures.content
    c.new-2.ensures.stands c.in_ok-desk.ensures
