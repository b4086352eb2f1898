use Rattle.std.proofs.Common.{rules, ◌+◌, drop, flat_map, map}
use Rattle.dvg_world.specs.Kept.{picture_seen}
use Rattle.dvg_io.specs.Watching.{BeginsToWrite, stream_of}
use Rattle.dvg_io.proofs.WrittenSoFar.{piece_begun, piece_more}
use Rattle.dvg_tool.specs.Plays.{picture_text}
use Rattle.dvg_tool.proofs.DrawnPlayed.{next_picture}
use Rattle.dvg_tool.proofs.plays_pictures.write_pictures.Goals as goal

pub returns-in_err-write_picture : goal.returns-in_err-write_picture
returns-in_err-write_picture g c =
    let pictures = c.args.pictures.now in
    let i = c.loop-picture.picture-index in
    let picture = c.picture-item.result in
    let next = next_picture pictures i picture c.loop-picture-test.true c.picture-item.is in
    let text = picture_text (picture_seen picture) in
    let begun : BeginsToWrite text (g.W.Write.contents (stream_of c.loop-picture.writer)) (g.W.Write.contents (stream_of c.write_picture.new.writer)) = search rules in
    let all = piece_begun text (flat_map picture_text (map picture_seen (drop (i + 1) pictures))) c.loop-picture.invariant.went next begun in
    search rules

pub loop-picture-preserved : goal.loop-picture-preserved
loop-picture-preserved g c =
    let pictures = c.args.pictures.now in
    let i = c.loop-picture.picture-index in
    let picture = c.picture-item.result in
    let next = next_picture pictures i picture c.loop-picture-test.true c.picture-item.is in
    record {
      counted = search rules;
      went = piece_more (picture_text (picture_seen picture)) (flat_map picture_text (map picture_seen (drop (i + 1) pictures))) c.loop-picture.invariant.went next (search rules);
    }
