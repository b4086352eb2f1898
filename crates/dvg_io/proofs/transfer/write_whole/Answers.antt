use Rattle.std.proofs.Common.{length, take}
use Rattle.std.specs.Prelude.{slice_range}
use Rattle.dvg_io.specs.Watching.{stream_of}
use Rattle.dvg_io.proofs.KnownBytesChain.{front_and_rest}
use Rattle.dvg_io.proofs.WrittenSoFar.{nothing, piece_more, writes_rest}
use Rattle.dvg_io.proofs.transfer.write_whole.Goals as goal

pub returns : goal.returns
returns g c =
    let text = c.args.text.now in
    let count = c.in-Ok.count in
    let later = slice_range text count (length text) in
    writes_rest g.W.Write.contents text later c.write_rest.result c.args.writer.now c.write.new.self c.write_rest.new.writer
    (piece_more (take count text) later (nothing text (g.W.Write.contents (stream_of c.args.writer.now)))
    (front_and_rest text count) c.in-Ok.ensures.bytes)
    c.in-Ok.ensures.counts c.write_rest.ensures
