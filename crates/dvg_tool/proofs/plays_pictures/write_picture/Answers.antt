use Rattle.std.proofs.Common.{rules, ◌∷◌, [], ◌++◌, codes, decimal, flat_map, length, subst}
use Rattle.dvg_print.specs.Lines.{spaced}
use Rattle.dvg_print.specs.Shows.{stroke_line}
use Rattle.dvg_io.specs.Watching.{Writes}
use Rattle.dvg_io.proofs.WrittenSoFar.{writes_first, writes_second}
use Rattle.dvg_tool.proofs.plays_pictures.write_picture.Goals as goal

pub returns-in_err-write_whole : goal.returns-in_err-write_whole
returns-in_err-write_whole g c =
    let picture = c.args.picture.now in
    let strokes = picture.strokes.items in
    let line = codes "picture" ++ spaced (decimal picture.event ∷ decimal (length strokes) ∷ []) ++ 10 ∷ [] in
    let broke = writes_first g.W.Write.contents line (flat_map stroke_line strokes) c.args.writer.now c.write_whole.new.writer (search rules) in
    search rules

pub returns : goal.returns
returns g c =
    let picture = c.args.picture.now in
    let strokes = picture.strokes.items in
    let line = codes "picture" ++ spaced (decimal picture.event ∷ decimal (length strokes) ∷ []) ++ 10 ∷ [] in
    writes_second g.W.Write.contents line (flat_map stroke_line strokes) c.write_strokes.result
    c.args.writer.now c.write_whole.new.writer c.write_strokes.new.writer (search rules)
    (subst (λ strokes. Writes g.W.Write.contents (flat_map stroke_line strokes) c.write_strokes.result c.write_whole.new.writer c.write_strokes.new.writer) c.as_slice.ensures.value c.write_strokes.ensures)
