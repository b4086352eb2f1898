use Rattle.std.proofs.Common.{rules, ap, subst, ◌∙◌, Err}
use Rattle.std.proofs.lemmas.Result.{err_from_is_err_and}
use Rattle.dvg_io.proofs.Unfound.{IsUnfound, unfound}
use Rattle.dvg_io.proofs.engine.serve.Goals as goal

pub returns-in_err-found : goal.returns-in_err-found
returns-in_err-found g c =
    let is = err_from_is_err_and c.from_residual-in_err-found.result c.from_residual-in_err-found.ensures.1 in
    let fault = c.in_err-found.field-0.0 in
    let engine = c.args.engine.now in
    unfound g.E.Engine.MOST (g.E.Engine.Finds engine) (g.E.Engine.HasFault engine) (g.E.Engine.text engine)
    g.R.Read.remaining g.W.Write.contents _ fault c.in_ok-read.read.items c.args.reader.now c.read_up_to.new.reader c.args.writer.now
    (is.1 ∙ ap Err is.2) (rw c.MOST.ensures at c.in_ok-read.ensures.bytes)
    (rw c.MOST.ensures at c.in_ok-read.ensures.took)
    (search rules) (search rules) (subst (λ read. IsUnfound g.E.Engine.MOST (g.E.Engine.Finds engine) (g.E.Engine.HasFault engine) (g.E.Engine.text engine) read fault) c.as_slice.ensures.value c.in_err-found.ensures)
