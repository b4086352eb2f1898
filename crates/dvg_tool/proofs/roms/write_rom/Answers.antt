use Rattle.std.proofs.Common.{rules}
use Rattle.dvg_print.specs.Lines.{rom_lines}
use Rattle.dvg_io.proofs.WrittenSoFar.{writes_first, writes_second}
use Rattle.dvg_tool.proofs.roms.write_rom.Goals as goal

pub returns-in_err-write_whole : goal.returns-in_err-write_whole
returns-in_err-write_whole g c =
    let rows = rom_lines c.args.first c.args.words.now in
    let broke = writes_first g.W.Write.contents c.args.map.now rows c.args.writer.now c.write_whole.new.writer (search rules) in
    search rules

pub returns : goal.returns
returns g c =
    let rows = rom_lines c.args.first c.args.words.now in
    writes_second g.W.Write.contents c.args.map.now rows c.write_rows.result
    c.args.writer.now c.write_whole.new.writer c.write_rows.new.writer (search rules) c.write_rows.ensures
