use Rattle.std.proofs.Common.{rules, flat_map, drop, ◌+◌}
use Rattle.dvg_io.specs.Watching.{BeginsToWrite, stream_of}
use Rattle.dvg_io.proofs.WrittenSoFar.{piece_begun, piece_more}
use Rattle.dvg_picture.specs.Texts.{ran_text}
use Rattle.dvg_picture.proofs.PictureOfInput.{next_ran}
use Rattle.dvg_picture.proofs.writes.write_trace.Goals as goal

pub returns-in_err-write_ran : goal.returns-in_err-write_ran
returns-in_err-write_ran g c =
    let i = c.loop-ran.ran-index in
    let ran = c.ran-item.result in
    let next = next_ran c.args.trace.now i ran c.loop-ran-test.true c.ran-item.is in
    let begun : BeginsToWrite (ran_text ran) (g.W.Write.contents (stream_of c.loop-ran.writer)) (g.W.Write.contents (stream_of c.write_ran.new.writer)) = search rules in
    let all = piece_begun (ran_text ran) (flat_map ran_text (drop (i + 1) c.args.trace.now)) c.loop-ran.invariant.went next begun in
    search rules

pub loop-ran-preserved : goal.loop-ran-preserved
loop-ran-preserved g c =
    let i = c.loop-ran.ran-index in
    let ran = c.ran-item.result in
    let next = next_ran c.args.trace.now i ran c.loop-ran-test.true c.ran-item.is in
    record {
      counted = search rules;
      went = piece_more (ran_text ran) (flat_map ran_text (drop (i + 1) c.args.trace.now)) c.loop-ran.invariant.went next (search rules);
    }
