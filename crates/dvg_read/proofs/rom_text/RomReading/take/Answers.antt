use Rattle.std.proofs.Common.{◌∙◌, rules, refl, sym}
use Rattle.std.proofs.lemmas.Option.{none-some}
use Rattle.dvg_read.proofs.HeldRom.{map_stated, nothing_stated, words_stated}
use Rattle.dvg_read.proofs.rom_text.RomReading.take.Goals as goal

pub returns-in-Some-clause-took : goal.returns-in-Some-clause-took
returns-in-Some-clause-took c stated rom holds = map_stated rom c.args.line.now c.args.self.now _ c.in-Some.first holds (search rules) (search rules) refl c.fill_with_returns.ensures

pub returns-in_default-read_rom_line-clause-refused : goal.returns-in_default-read_rom_line-clause-refused
returns-in_default-read_rom_line-clause-refused c stated rom now holds =
    nothing_stated rom now c.args.line.now c.args.self.now c.first-first.result holds c.first-first.ensures
    (λ first m. none-some first (sym c.in_default.is ∙ c.read_map_line.ensures.only first m))
    (λ given h. none-some given (sym c.in_default-read_rom_line.is ∙ c.read_rom_line.ensures.only given h))

pub returns-clause-took : goal.returns-clause-took
returns-clause-took c stated rom holds =
    words_stated rom c.args.line.now c.args.self.now _ c.in-Some-read_rom_line.given c.first-first.result c.as_mut_slice.result.now c.put.new.rom holds c.first-first.ensures (search rules) (search rules) c.put.ensures.after c.put.ensures.fits refl refl
