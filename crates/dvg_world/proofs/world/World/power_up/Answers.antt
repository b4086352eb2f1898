use Rattle.std.proofs.Common.{sym, subst}
use Rattle.dvg_mem.specs.Memory.{IsRom}
use Rattle.dvg_world.proofs.EventsAddLines.{new_world}
use Rattle.dvg_world.proofs.world.World.power_up.Goals as goal

pub returns-clause-stands : goal.returns-clause-stands
returns-clause-stands g c = rw (sym c.self.view_is)
    (new_world c.self.inside.desk.rom c.args.image.now _ _ _ (subst IsRom c.rom.ensures c.len_words.ensures.rom)
    c.load.ensures.image c.load.ensures.content c.new.ensures.stands c.reset.ensures)
