use Rattle.std.proofs.Common.{ap, ◌∙◌, Err}
use Rattle.std.proofs.lemmas.Result.{err_from_is_err_and}
use Rattle.dvg_svg.specs.Svg.{strokes_of}
use Rattle.dvg_io.proofs.Served.{served, unserved}
use Rattle.dvg_tool.proofs.PicturesPlayed.{stops}
use Rattle.dvg_read.specs.declared.draft_text.TheConstants.{MOST_TEXT_BYTES}
use Rattle.dvg_tool.proofs.plays_svg.play_svg_in.Goals as goal

pub returns-in_err-serve : goal.returns-in_err-serve
returns-in_err-serve g c =
    let is = err_from_is_err_and c.from_residual.result c.from_residual.ensures.1 in
    let fault = c.in_err-serve.field-0.0 in
    unserved g.R.Read.remaining g.W.Write.contents MOST_TEXT_BYTES _ _ _ _ c.args.reader.now c.serve.new.reader c.args.writer.now c.serve.new.writer
    c.from_residual.result fault (is.1 ∙ ap Err is.2) (λ early. early) (stops _ (Unit {0}) c.args.show fault _ _) c.in_err-serve.ensures

pub returns : goal.returns
returns g c =
    let pictures = c.in_ok-serve.field-0 in
    served g.R.Read.remaining g.W.Write.contents MOST_TEXT_BYTES _ _ _ _ c.args.reader.now c.serve.new.reader c.args.writer.now c.serve.new.writer
    pictures (tt {0}) (λ input found. (strokes_of pictures.items, found.0, found.1)) c.in_ok-serve.ensures
