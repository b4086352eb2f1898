use Rattle.std.proofs.Common.{refl, rules, true}
use Rattle.dvg_read.proofs.HeldRom.{nothing_stated}
use Rattle.dvg_read.specs.LineParts.{bytes_of}
use Rattle.dvg_named.specs.SketchSteps.{line_of}
use Rattle.dvg_named.specs.StatedRoms.{as_drafted}
use Rattle.dvg_named.proofs.StatedLines.{map_taken, words_taken}
use Rattle.dvg_named.proofs.stated_rom.StatedRom.take.Goals as goal

pub returns-in-Some-clause-took : goal.returns-in-Some-clause-took
returns-in-Some-clause-took c is rom holds =
    map_taken rom (line_of (bytes_of c.args.tokens.now)) c.args.self.now
    (record { is_stated = true; bytes = c.fill_with_returns.new.bytes; free = c.in-Some.first }) c.in-Some.first holds (search rules)
    c.in-Some.ensures.found refl c.fill_with_returns.ensures refl

pub returns-in_default-read_rom_parts-clause-refused : goal.returns-in_default-read_rom_parts-clause-refused
returns-in_default-read_rom_parts-clause-refused c is rom now holds =
    nothing_stated rom now (line_of (bytes_of c.args.tokens.now)) (as_drafted c.args.self.now) c.first-first.result holds.holds
    c.first-first.ensures
    (λ first map. let found = c.in_default.ensures.only first map in absurd cc)
    (λ given is_line.
    let found = c.in_default-read_rom_parts.ensures.only given (line_of (bytes_of c.args.tokens.now)) c.requires is_line in
    absurd cc)

pub returns-clause-took : goal.returns-clause-took
returns-clause-took c is rom holds =
    words_taken rom (line_of (bytes_of c.args.tokens.now)) c.args.self.now
    (record { is_stated = true; bytes = record { items = _ }; free = c.free_with-self.result }) c.in-Some-read_rom_parts.given
    c.first-first.result c.as_mut_slice.result.now c.put.new.rom holds c.first-first.ensures
    (c.in-Some-read_rom_parts.ensures.found (line_of (bytes_of c.args.tokens.now)) c.requires)
    c.as_mut_slice.ensures.value c.put.ensures.after c.put.ensures.fits refl refl
    (λ first lines free. c.free_with-self.ensures first lines c.in-Some-read_rom_parts.given free c.end.ensures)
