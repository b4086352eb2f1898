use Rattle.std.proofs.Common.{rules, cond, flat_map}
use Rattle.dvg_gen.specs.Moving.{seen}
use Rattle.dvg_print.specs.Shows.{stroke_line}
use Rattle.dvg_dump.specs.Units.{moves_ahead, setting_out}
use Rattle.dvg_io.proofs.WrittenSoFar.{writes_first, writes_second}
use Rattle.dvg_picture.proofs.writes.write_picture.Goals as goal

pub returns-in_err-write_whole : goal.returns-in_err-write_whole
returns-in_err-write_whole g c =
    let strokes = flat_map stroke_line (cond c.args.units (seen (moves_ahead (setting_out c.args.units) c.args.trace.now)) c.args.strokes.now) in
    let broke = writes_first g.W.Write.contents c.become_picture.new.self strokes c.args.writer.now c.write_whole.new.writer (search rules) in
    search rules

pub returns : goal.returns
returns g c =
    let strokes = flat_map stroke_line (cond c.args.units (seen (moves_ahead (setting_out c.args.units) c.args.trace.now)) c.args.strokes.now) in
    let wrote = writes_second g.W.Write.contents c.become_picture.new.self strokes c.write_drawn.result
    c.args.writer.now c.write_whole.new.writer c.write_drawn.new.writer (search rules) c.write_drawn.ensures in
    search rules
