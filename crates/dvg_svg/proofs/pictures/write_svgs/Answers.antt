use Rattle.std.proofs.Common.{rules, ◌++◌, None}
use Rattle.dvg_io.proofs.WrittenSoFar.{writes_first, writes_second}
use Rattle.dvg_svg.specs.Svg.{begin_lines, pictures_text, strokes_of, end_lines}
use Rattle.dvg_svg.proofs.Steps.{broke_second, wrote_both}
use Rattle.dvg_svg.proofs.pictures.write_svgs.Goals as goal

pub returns-in_err-write_begin : goal.returns-in_err-write_begin
returns-in_err-write_begin g c =
    let first = begin_lines c.args.show.percent None in
    let second = (pictures_text c.args.show.rate (strokes_of c.args.pictures.now)) in
    let broke = writes_first g.W.Write.contents first second c.args.writer.now c.write_begin.new.writer (search rules) in
    let all = writes_first g.W.Write.contents (first ++ second) end_lines c.args.writer.now c.write_begin.new.writer broke in
    search rules

pub returns-in_err-write_pictures : goal.returns-in_err-write_pictures
returns-in_err-write_pictures g c =
    let first = begin_lines c.args.show.percent None in
    let second = (pictures_text c.args.show.rate (strokes_of c.args.pictures.now)) in
    let broke = broke_second g.W.Write.contents first second c.args.writer.now c.write_begin.new.writer c.write_pictures.new.writer (search rules) (search rules) in
    let all = writes_first g.W.Write.contents (first ++ second) end_lines c.args.writer.now c.write_pictures.new.writer broke in
    search rules

pub returns : goal.returns
returns g c =
    let first = begin_lines c.args.show.percent None in
    let second = (pictures_text c.args.show.rate (strokes_of c.args.pictures.now)) in
    let wrote = wrote_both g.W.Write.contents first second c.args.writer.now c.write_begin.new.writer c.write_pictures.new.writer (search rules) (search rules) in
    writes_second g.W.Write.contents (first ++ second) end_lines c.write_whole.result c.args.writer.now c.write_pictures.new.writer c.write_whole.new.writer wrote c.write_whole.ensures
