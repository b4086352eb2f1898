use Rattle.dvg_named.proofs.KnownRom.{none_unknown}
use Rattle.std.proofs.Common.{◌∙◌}
use Rattle.dvg_named.proofs.RomGiven.{lie_in_rom, may_stand, rom_size}
use Rattle.dvg_named.proofs.reading.Reading.rom.Goals as goal

pub put_sections-requires-clause-size : goal.put_sections-requires-clause-size
put_sections-requires-clause-size g c =
    rom_size c.args.self.now c.args.laid.now c.requires c.as_mut_slice.result.now
    (c.as_mut_slice.ensures.value ∙ c.bytes-bytes.ensures)

pub put_sections-requires-clause-lie : goal.put_sections-requires-clause-lie
put_sections-requires-clause-lie g c =
    lie_in_rom c.args.self.now c.args.laid.now c.requires c.as_mut_slice.result.now
    (c.as_mut_slice.ensures.value ∙ c.bytes-bytes.ensures)

pub put_sections-requires-clause-may : goal.put_sections-requires-clause-may
put_sections-requires-clause-may g c = may_stand c.args.self.now c.args.laid.now c.requires

pub returns-in-None-clause-unknown : goal.returns-in-None-clause-unknown
returns-in-None-clause-unknown g c = λ none.
    c.in-None.ensures.unknown (none_unknown c.args.self.now c.args.laid.now c.requires none)
