use Rattle.std.proofs.Common.{ap, ◌∙◌, Err}
use Rattle.std.proofs.lemmas.Result.{err_from_is_err_and}
use Rattle.dvg_read.specs.TraceGives.{StopsReading}
use Rattle.dvg_tool.specs.Plays.{ArePicturesShown}
use Rattle.dvg_tool.proofs.DrawnPlayed.{finds_drawn}
use Rattle.dvg_tool.proofs.TracesPlayed.{misread}
use Rattle.dvg_tool.proofs.plays_pictures.PicturesEngineEngineAlloc.find.Goals as goal

pub returns-in_err-trace : goal.returns-in_err-trace
returns-in_err-trace g c =
    let is = err_from_is_err_and c.from_residual.result c.from_residual.ensures.1 in
    let fault = c.in_err-trace.field-0.0 in
    let stops : StopsReading fault c.args.read.now = c.in_err-trace.ensures.fault in
    misread ArePicturesShown c.from_residual.result fault c.args.read.now (is.1 ∙ ap Err is.2) stops

pub returns : goal.returns
returns g c =
    let trace = c.in_ok-trace.trace in
    finds_drawn c.args.read.now trace.rom.items trace.events c.draw_text.result c.in_ok-trace.ensures.gives c.draw_text.ensures
