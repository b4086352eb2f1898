use Rattle.std.proofs.Common.{rules, flat_map, drop, ◌+◌}
use Rattle.dvg_print.specs.Shows.{stroke_line}
use Rattle.dvg_io.specs.Watching.{BeginsToWrite, stream_of}
use Rattle.dvg_io.proofs.StrokeLines.{line_at, next_line}
use Rattle.dvg_io.proofs.WrittenSoFar.{piece_begun, piece_more}
use Rattle.dvg_io.proofs.strokes.write_strokes_in.Goals as goal

pub returns-in_err-write_whole : goal.returns-in_err-write_whole
returns-in_err-write_whole g c =
    let i = c.loop-stroke.stroke-index in
    let line = line_at c.args.strokes.now i in
    let later = flat_map stroke_line (drop (i + 1) c.args.strokes.now) in
    let old = g.W.Write.contents (stream_of c.loop-stroke.writer) in
    let new = g.W.Write.contents (stream_of c.write_whole.new.writer) in
    let begun : BeginsToWrite line old new = search rules in
    let next = next_line c.args.strokes.now i c.loop-stroke-test.true in
    let all = piece_begun line later c.loop-stroke.invariant.went next begun in
    search rules

pub loop-stroke-preserved : goal.loop-stroke-preserved
loop-stroke-preserved g c =
    let i = c.loop-stroke.stroke-index in
    let line = line_at c.args.strokes.now i in
    let later = flat_map stroke_line (drop (i + 1) c.args.strokes.now) in
    let next = next_line c.args.strokes.now i c.loop-stroke-test.true in
    record {
      counted = search rules;
      went = piece_more line later c.loop-stroke.invariant.went next (search rules);
    }
