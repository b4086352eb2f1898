use Rattle.std.proofs.Common.{◌∙◌, ap, arith, sym}
use Rattle.dvg_read.specs.LineParts.{bytes_of}
use Rattle.dvg_read.proofs.GivenWords.{ten_parts}
use Rattle.dvg_read.proofs.rom_line.read_rom_line.Goals as goal

pub returns-in_err-parts-clause-only : goal.returns-in_err-parts-clause-only
returns-in_err-parts-clause-only c given h = let few = ten_parts c.args.first given c.args.line.now h in absurd (omega (arith, few, c.in_err-parts.ensures.many))

pub returns-clause-only : goal.returns-clause-only
returns-clause-only c given h =
    c.read_rom_parts.ensures.only given c.args.line.now (sym (ap bytes_of c.as_slice.ensures.value ∙ c.in_ok-parts.ensures.found)) h
