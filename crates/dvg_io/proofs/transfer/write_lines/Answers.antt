use Rattle.std.proofs.Common.{rules, ◌+◌, length, take}
use Rattle.std.specs.Prelude.{slice_range}
use Rattle.std.specs.Io.KnownBytes.{Appends}
use Rattle.dvg_io.specs.Watching.{BeginsToWrite, stream_of}
use Rattle.dvg_io.proofs.KnownBytesChain.{front_and_rest}
use Rattle.dvg_io.proofs.WrittenSoFar.{piece_begun, piece_more, writes_rest}
use Rattle.dvg_io.proofs.transfer.write_lines.Goals as goal

pub returns-in_err-write_whole : goal.returns-in_err-write_whole
returns-in_err-write_whole g c =
    let rest = c.loop-end.rest.now in
    let end = c.in-Some.end in
    let old = g.W.Write.contents (stream_of c.loop-end.writer) in
    let new = g.W.Write.contents (stream_of c.write_whole.new.writer) in
    let begun : BeginsToWrite (take (end + 1) rest) old new = search rules in
    let all = piece_begun (take (end + 1) rest) (slice_range rest (end + 1) (length rest)) c.loop-end.invariant.went
    (front_and_rest rest (end + 1)) begun in
    search rules

pub loop-end-preserved : goal.loop-end-preserved
loop-end-preserved g c =
    let rest = c.loop-end.rest.now in
    let end = c.in-Some.end in
    let old = g.W.Write.contents (stream_of c.loop-end.writer) in
    let new = g.W.Write.contents (stream_of c.write_whole.new.writer) in
    let wrote : Appends old new (take (end + 1) rest) = search rules in
    record {
      counted = search rules;
      went = piece_more (take (end + 1) rest) (slice_range rest (end + 1) (length rest)) c.loop-end.invariant.went
          (front_and_rest rest (end + 1)) wrote;
    }

pub returns : goal.returns
returns g c =
    writes_rest g.W.Write.contents c.args.text.now c.loop-end.rest.now c.write_whole-2.result c.args.writer.now c.loop-end.writer
    c.write_whole-2.new.writer c.loop-end.invariant.went c.loop-end.invariant.counted c.write_whole-2.ensures
