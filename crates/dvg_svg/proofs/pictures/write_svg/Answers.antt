use Rattle.std.proofs.Common.{rules, ◌++◌, option_map}
use Rattle.dvg_io.proofs.WrittenSoFar.{writes_first, writes_second}
use Rattle.dvg_svg.specs.Svg.{begin_lines, stroke_lines, end_lines}
use Rattle.dvg_svg.proofs.Steps.{broke_second, wrote_both}
use Rattle.dvg_svg.proofs.pictures.write_svg.Goals as goal

pub returns-in_err-write_begin : goal.returns-in_err-write_begin
returns-in_err-write_begin g c =
    let first = begin_lines c.args.percent (option_map (λ title. title.now) c.args.title) in
    let second = stroke_lines c.args.strokes.now in
    let broke = writes_first g.W.Write.contents first second c.args.writer.now c.write_begin.new.writer (search rules) in
    let all = writes_first g.W.Write.contents (first ++ second) end_lines c.args.writer.now c.write_begin.new.writer broke in
    search rules

pub returns-in_err-write_strokes : goal.returns-in_err-write_strokes
returns-in_err-write_strokes g c =
    let first = begin_lines c.args.percent (option_map (λ title. title.now) c.args.title) in
    let second = stroke_lines c.args.strokes.now in
    let broke = broke_second g.W.Write.contents first second c.args.writer.now c.write_begin.new.writer c.write_strokes.new.writer (search rules) (search rules) in
    let all = writes_first g.W.Write.contents (first ++ second) end_lines c.args.writer.now c.write_strokes.new.writer broke in
    search rules

pub returns : goal.returns
returns g c =
    let first = begin_lines c.args.percent (option_map (λ title. title.now) c.args.title) in
    let second = stroke_lines c.args.strokes.now in
    let wrote = wrote_both g.W.Write.contents first second c.args.writer.now c.write_begin.new.writer c.write_strokes.new.writer (search rules) (search rules) in
    writes_second g.W.Write.contents (first ++ second) end_lines c.write_whole.result c.args.writer.now c.write_strokes.new.writer c.write_whole.new.writer wrote c.write_whole.ensures
