use Rattle.std.proofs.Common.{ap, ◌∙◌, Err}
use Rattle.std.proofs.lemmas.Result.{err_from_is_err_and}
use Rattle.dvg_dump.specs.Endings.{end_of}
use Rattle.dvg_io.proofs.Served.{served, unserved}
use Rattle.dvg_picture.proofs.PictureOfInput.{drew, stops}
use Rattle.dvg_dump.specs.declared.dump.TheConstants.{LARGE_DUMP_BYTES}
use Rattle.dvg_picture.proofs.engine.picture.Goals as goal

pub returns-in_err-run : goal.returns-in_err-run
returns-in_err-run g c =
    let is = err_from_is_err_and c.from_residual.result c.from_residual.ensures.1 in
    let fault = c.in_err-run.field-0.0 in
    unserved g.R.Read.remaining g.W.Write.contents LARGE_DUMP_BYTES _ _ _ _ c.args.reader.now c.serve.new.reader c.args.writer.now c.serve.new.writer
    c.from_residual.result fault (is.1 ∙ ap Err is.2) (λ early. early) (stops _ c.args.form fault _ _) c.in_err-run.ensures

pub returns : goal.returns
returns g c =
    let run = c.in_ok-run.run' in
    served g.R.Read.remaining g.W.Write.contents LARGE_DUMP_BYTES _ _ _ _ c.args.reader.now c.serve.new.reader c.args.writer.now c.serve.new.writer
    run c.outcome.result (λ input. drew c.args.form c.outcome.result run.ran.items (end_of run.ending) _ _ input c.outcome.ensures) c.in_ok-run.ensures
