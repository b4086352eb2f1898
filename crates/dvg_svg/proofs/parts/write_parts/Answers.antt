use Rattle.std.proofs.Common.{rules, drop, get_or, ◌+◌}
use Rattle.dvg_io.specs.Watching.{BeginsToWrite, stream_of}
use Rattle.dvg_io.proofs.WrittenSoFar.{piece_begun, piece_more}
use Rattle.dvg_svg.specs.Parts.{joined}
use Rattle.dvg_svg.proofs.Steps.{next_or, no_part}
use Rattle.dvg_svg.proofs.parts.write_parts.Goals as goal

pub returns-in_err-write_whole : goal.returns-in_err-write_whole
returns-in_err-write_whole g c =
    let i = c.loop-part.part-index in
    let part = get_or c.args.parts.now i no_part in
    let step = next_or (λ part. part.now) c.args.parts.now i no_part c.loop-part-test.true in
    let begun : BeginsToWrite part.now (g.W.Write.contents (stream_of c.loop-part.writer)) (g.W.Write.contents (stream_of c.write_whole.new.writer)) = search rules in
    let all = piece_begun part.now (joined (drop (i + 1) c.args.parts.now)) c.loop-part.invariant.went step begun in
    search rules

pub loop-part-preserved : goal.loop-part-preserved
loop-part-preserved g c =
    let i = c.loop-part.part-index in
    let part = get_or c.args.parts.now i no_part in
    let step = next_or (λ part. part.now) c.args.parts.now i no_part c.loop-part-test.true in
    record {
      counted = search rules;
      went = piece_more part.now (joined (drop (i + 1) c.args.parts.now)) c.loop-part.invariant.went step (search rules);
    }
