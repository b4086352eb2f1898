use Rattle.std.proofs.Common.{rules, flat_map, drop, ◌+◌, option_to_list}
use Rattle.dvg_io.specs.Watching.{BeginsToWrite, stream_of}
use Rattle.dvg_io.proofs.WrittenSoFar.{piece_begun, piece_more}
use Rattle.dvg_dump.specs.Units.{moves_ahead}
use Rattle.dvg_picture.specs.Texts.{moved_text}
use Rattle.dvg_picture.proofs.Recorded.{next_moves}
use Rattle.dvg_picture.proofs.moves.write_moves.Goals as goal

pub returns-in_err-write_move : goal.returns-in_err-write_move
returns-in_err-write_move g c =
    let i = c.loop-ran.ran-index in
    let lines = moved_text c.args.as_strokes in
    let piece = flat_map lines (option_to_list c.follow.result) in
    let later = flat_map lines (moves_ahead c.follow.new.self (drop (i + 1) c.args.trace.now)) in
    let next = next_moves lines c.loop-ran.follower c.follow.new.self c.args.trace.now i c.ran-item.result c.follow.result c.loop-ran-test.true c.ran-item.is c.follow.ensures.told c.follow.ensures.past in
    let begun : BeginsToWrite piece (g.W.Write.contents (stream_of c.loop-ran.writer)) (g.W.Write.contents (stream_of c.write_move.new.writer)) = search rules in
    let all = piece_begun piece later c.loop-ran.invariant.went next begun in
    search rules

pub loop-ran-preserved : goal.loop-ran-preserved
loop-ran-preserved g c =
    let i = c.loop-ran.ran-index in
    let lines = moved_text c.args.as_strokes in
    let piece = flat_map lines (option_to_list c.follow.result) in
    let later = flat_map lines (moves_ahead c.follow.new.self (drop (i + 1) c.args.trace.now)) in
    let next = next_moves lines c.loop-ran.follower c.follow.new.self c.args.trace.now i c.ran-item.result c.follow.result c.loop-ran-test.true c.ran-item.is c.follow.ensures.told c.follow.ensures.past in
    record {
      counted = search rules;
      went = piece_more piece later c.loop-ran.invariant.went next (search rules);
    }
