use Rattle.std.proofs.Common.{rules, flat_map}
use Rattle.dvg_print.specs.Shows.{stroke_line}
use Rattle.dvg_io.proofs.WrittenSoFar.{writes_first, writes_second}
use Rattle.dvg_picture.proofs.writes.write_with_strokes.Goals as goal

pub returns-in_err-write_whole : goal.returns-in_err-write_whole
returns-in_err-write_whole g c =
    let strokes = flat_map stroke_line c.args.strokes.now in
    let broke = writes_first g.W.Write.contents c.args.line.now strokes c.args.writer.now c.write_whole.new.writer (search rules) in
    search rules

pub returns : goal.returns
returns g c =
    let strokes = flat_map stroke_line c.args.strokes.now in
    writes_second g.W.Write.contents c.args.line.now strokes c.write_strokes_in.result
    c.args.writer.now c.write_whole.new.writer c.write_strokes_in.new.writer (search rules) c.write_strokes_in.ensures
