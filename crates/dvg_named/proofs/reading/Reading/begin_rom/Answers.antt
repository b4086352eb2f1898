use Rattle.dvg_named.proofs.ReadBegins.{begin_refused, rom_opened}
use Rattle.dvg_named.proofs.ReadRows.{on_ok}
use Rattle.dvg_named.proofs.StatedLines.{first_is}
use Rattle.dvg_named.proofs.reading.Reading.begin_rom.Goals as goal

pub returns-in-Err-clause-fault : goal.returns-in-Err-clause-fault
returns-in-Err-clause-fault g c stated line reads spelled =
    begin_refused c.args.self.now stated line reads c.args.address c.first-first.result c.in-Err.fault spelled
    (first_is stated c.args.self.now.rom c.first-first.result reads.rom c.first-first.ensures) c.in-Err.ensures.fault

pub returns-clause-added : goal.returns-clause-added
returns-clause-added g c =
    on_ok c.open_part.result c.open_part.ensures.opened (λ opened stated line reads spelled.
    rom_opened c.args.self.now stated line reads c.begin.new.self c.args.address c.first-first.result c.open_part.new.self
    spelled (first_is stated c.args.self.now.rom c.first-first.result reads.rom c.first-first.ensures)
    c.in_default.ensures.begun opened)
