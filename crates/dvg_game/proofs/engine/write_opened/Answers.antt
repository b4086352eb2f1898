use Rattle.std.proofs.Common.{rules, flat_map}
use Rattle.dvg_io.proofs.WrittenSoFar.{writes_first, writes_second}
use Rattle.dvg_game.proofs.engine.write_opened.Goals as goal

pub returns-in_err-write_whole : goal.returns-in_err-write_whole
returns-in_err-write_whole g c =
    let broke = writes_first g.W.Write.contents c.args.opening.now (flat_map (λ line. line.bytes.items) c.args.lines.now) c.args.writer.now c.write_whole.new.writer (search rules) in
    search rules

pub returns : goal.returns
returns g c =
    writes_second g.W.Write.contents c.args.opening.now (flat_map (λ line. line.bytes.items) c.args.lines.now) c.write_places.result
    c.args.writer.now c.write_whole.new.writer c.write_places.new.writer (search rules) c.write_places.ensures
