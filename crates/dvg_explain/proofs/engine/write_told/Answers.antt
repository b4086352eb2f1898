use Rattle.std.proofs.Common.{rules}
use Rattle.dvg_io.proofs.WrittenSoFar.{writes_first, writes_second}
use Rattle.dvg_explain.proofs.engine.write_told.Goals as goal

pub returns-in_err-write_lines : goal.returns-in_err-write_lines
returns-in_err-write_lines g c =
    let broke = writes_first g.W.Write.contents c.args.text.now c.args.last.now c.args.writer.now c.write_lines.new.writer (search rules) in
    search rules

pub returns : goal.returns
returns g c =
    writes_second g.W.Write.contents c.args.text.now c.args.last.now c.write_whole.result
    c.args.writer.now c.write_lines.new.writer c.write_whole.new.writer (search rules) c.write_whole.ensures
