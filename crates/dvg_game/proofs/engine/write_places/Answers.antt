use Rattle.std.proofs.Common.{rules, flat_map, drop, ◌+◌}
use Rattle.dvg_io.specs.Watching.{BeginsToWrite, stream_of}
use Rattle.dvg_io.proofs.WrittenSoFar.{piece_begun, piece_more}
use Rattle.dvg_game.proofs.Lines.{next_line}
use Rattle.dvg_game.proofs.engine.write_places.Goals as goal

pub returns-in_err-write_whole : goal.returns-in_err-write_whole
returns-in_err-write_whole g c =
    let i = c.loop-line.line-index in
    let line = c.line-item.result in
    let next = next_line c.args.lines.now i line c.loop-line-test.true c.line-item.is in
    let begun : BeginsToWrite line.bytes.items (g.W.Write.contents (stream_of c.loop-line.writer)) (g.W.Write.contents (stream_of c.write_whole.new.writer)) = search rules in
    let all = piece_begun line.bytes.items (flat_map (λ line. line.bytes.items) (drop (i + 1) c.args.lines.now)) c.loop-line.invariant.went next begun in
    search rules

pub loop-line-preserved : goal.loop-line-preserved
loop-line-preserved g c =
    let i = c.loop-line.line-index in
    let line = c.line-item.result in
    let next = next_line c.args.lines.now i line c.loop-line-test.true c.line-item.is in
    record {
      counted = search rules;
      went = piece_more line.bytes.items (flat_map (λ line. line.bytes.items) (drop (i + 1) c.args.lines.now)) c.loop-line.invariant.went next (search rules);
    }
