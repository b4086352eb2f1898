use Rattle.std.proofs.Common.{rules, flat_map, ◌++◌}
use Rattle.dvg_io.proofs.WrittenSoFar.{writes_first, writes_second}
use Rattle.dvg_game.proofs.engine.write_all_of.Goals as goal

pub returns-in_err-write_opened : goal.returns-in_err-write_opened
returns-in_err-write_opened g c =
    let head = c.args.opening.now ++ flat_map (λ line. line.bytes.items) c.args.lines.now in
    let broke = writes_first g.W.Write.contents head c.args.more.now c.args.writer.now c.write_opened.new.writer (search rules) in
    search rules

pub returns : goal.returns
returns g c =
    let head = c.args.opening.now ++ flat_map (λ line. line.bytes.items) c.args.lines.now in
    writes_second g.W.Write.contents head c.args.more.now c.write_lines.result
    c.args.writer.now c.write_opened.new.writer c.write_lines.new.writer (search rules) c.write_lines.ensures
