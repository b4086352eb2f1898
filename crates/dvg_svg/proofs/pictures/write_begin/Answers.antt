use Rattle.std.proofs.Common.{rules, ◌++◌, option_map}
use Rattle.dvg_io.proofs.WrittenSoFar.{writes_first, writes_second}
use Rattle.dvg_svg.specs.Svg.{size_line, title_line, screen_lines}
use Rattle.dvg_svg.proofs.Steps.{broke_second, wrote_both}
use Rattle.dvg_svg.proofs.pictures.write_begin.Goals as goal

pub returns-in_err-write_size : goal.returns-in_err-write_size
returns-in_err-write_size g c =
    let first = size_line c.args.percent in
    let second = title_line (option_map (λ title. title.now) c.args.title) in
    let broke = writes_first g.W.Write.contents first second c.args.writer.now c.write_size.new.writer (search rules) in
    let all = writes_first g.W.Write.contents (first ++ second) screen_lines c.args.writer.now c.write_size.new.writer broke in
    search rules

pub returns-in_err-write_title : goal.returns-in_err-write_title
returns-in_err-write_title g c =
    let first = size_line c.args.percent in
    let second = title_line (option_map (λ title. title.now) c.args.title) in
    let broke = broke_second g.W.Write.contents first second c.args.writer.now c.write_size.new.writer c.write_title.new.writer (search rules) (search rules) in
    let all = writes_first g.W.Write.contents (first ++ second) screen_lines c.args.writer.now c.write_title.new.writer broke in
    search rules

pub returns : goal.returns
returns g c =
    let first = size_line c.args.percent in
    let second = title_line (option_map (λ title. title.now) c.args.title) in
    let wrote = wrote_both g.W.Write.contents first second c.args.writer.now c.write_size.new.writer c.write_title.new.writer (search rules) (search rules) in
    writes_second g.W.Write.contents (first ++ second) screen_lines c.write_whole.result c.args.writer.now c.write_title.new.writer c.write_whole.new.writer wrote c.write_whole.ensures
