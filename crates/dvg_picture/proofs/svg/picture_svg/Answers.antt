use Rattle.std.proofs.Common.{ap, ◌∙◌, Err}
use Rattle.std.proofs.lemmas.Result.{err_from_is_err_and}
use Rattle.dvg_io.proofs.Served.{served, unserved}
use Rattle.dvg_picture.proofs.ShownSvg.{stops}
use Rattle.dvg_dump.specs.declared.dump.TheConstants.{LARGE_DUMP_BYTES}
use Rattle.dvg_picture.proofs.svg.picture_svg.Goals as goal

pub returns-in_err-drawn : goal.returns-in_err-drawn
returns-in_err-drawn g c =
    let is = err_from_is_err_and c.from_residual.result c.from_residual.ensures.1 in
    let fault = c.in_err-drawn.field-0.0 in
    unserved g.R.Read.remaining g.W.Write.contents LARGE_DUMP_BYTES _ _ _ _ c.args.reader.now c.serve.new.reader c.args.writer.now c.serve.new.writer
    c.from_residual.result fault (is.1 ∙ ap Err is.2) (λ early. early) (stops _ c.args.percent fault _ _) c.in_err-drawn.ensures

pub returns : goal.returns
returns g c =
    let drawn = c.in_ok-drawn.drawn in
    served g.R.Read.remaining g.W.Write.contents LARGE_DUMP_BYTES _ _ _ _ c.args.reader.now c.serve.new.reader c.args.writer.now c.serve.new.writer
    drawn drawn.undrawn (λ input found. (drawn.strokes.items, found.0, found.1)) c.in_ok-drawn.ensures
