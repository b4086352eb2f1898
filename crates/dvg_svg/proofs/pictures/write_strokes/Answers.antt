use Rattle.std.proofs.Common.{rules, drop, get_or, ◌+◌}
use Rattle.dvg_print.specs.Svg.{path_line}
use Rattle.dvg_io.specs.Watching.{BeginsToWrite, stream_of}
use Rattle.dvg_print.proofs.StrokeTexts.{no_stroke}
use Rattle.dvg_io.proofs.WrittenSoFar.{piece_begun, piece_more}
use Rattle.dvg_svg.specs.Svg.{stroke_lines}
use Rattle.dvg_svg.proofs.Steps.{next_or}
use Rattle.dvg_svg.proofs.pictures.write_strokes.Goals as goal

pub returns-in_err-write_whole : goal.returns-in_err-write_whole
returns-in_err-write_whole g c =
    let i = c.loop-stroke.stroke-index in
    let line = path_line (get_or c.args.strokes.now i no_stroke) in
    let step = next_or path_line c.args.strokes.now i no_stroke c.loop-stroke-test.true in
    let begun : BeginsToWrite line (g.W.Write.contents (stream_of c.loop-stroke.writer)) (g.W.Write.contents (stream_of c.write_whole.new.writer)) = search rules in
    let all = piece_begun line (stroke_lines (drop (i + 1) c.args.strokes.now)) c.loop-stroke.invariant.went step begun in
    search rules

pub loop-stroke-preserved : goal.loop-stroke-preserved
loop-stroke-preserved g c =
    let i = c.loop-stroke.stroke-index in
    let line = path_line (get_or c.args.strokes.now i no_stroke) in
    let step = next_or path_line c.args.strokes.now i no_stroke c.loop-stroke-test.true in
    record {
      counted = search rules;
      went = piece_more line (stroke_lines (drop (i + 1) c.args.strokes.now)) c.loop-stroke.invariant.went step (search rules);
    }
