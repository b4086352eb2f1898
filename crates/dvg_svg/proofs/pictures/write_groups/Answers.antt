use Rattle.std.proofs.Common.{rules, drop, ◌+◌, ◌-◌, length}
use Rattle.dvg_io.specs.Watching.{BeginsToWrite, stream_of}
use Rattle.dvg_io.proofs.WrittenSoFar.{piece_begun, piece_more}
use Rattle.dvg_svg.specs.Svg.{group, groups, strokes_of}
use Rattle.dvg_svg.proofs.Steps.{next_picture}
use Rattle.dvg_svg.proofs.pictures.write_groups.Goals as goal

pub returns-in_err-write_group : goal.returns-in_err-write_group
returns-in_err-write_group g c =
    let last = length c.args.pictures.now - 1 in
    let i = c.loop-number.number in
    let picture = c.index-pictures-number.result in
    let step = next_picture c.args.rate last c.args.pictures.now i picture c.loop-number-test.true c.index-pictures-number.is in
    let begun : BeginsToWrite (group c.args.rate last i picture.items) (g.W.Write.contents (stream_of c.loop-number.writer)) (g.W.Write.contents (stream_of c.write_group.new.writer)) = search rules in
    let all = piece_begun (group c.args.rate last i picture.items) (groups c.args.rate last (i + 1) (strokes_of (drop (i + 1) c.args.pictures.now))) c.loop-number.invariant.went step begun in
    search rules

pub loop-number-preserved : goal.loop-number-preserved
loop-number-preserved g c =
    let last = length c.args.pictures.now - 1 in
    let i = c.loop-number.number in
    let picture = c.index-pictures-number.result in
    let step = next_picture c.args.rate last c.args.pictures.now i picture c.loop-number-test.true c.index-pictures-number.is in
    record {
      counted = search rules;
      went = piece_more (group c.args.rate last i picture.items) (groups c.args.rate last (i + 1) (strokes_of (drop (i + 1) c.args.pictures.now))) c.loop-number.invariant.went step (search rules);
    }
