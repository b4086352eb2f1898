use Rattle.std.proofs.Common.{rules, ap, subst, sym, ◌∙◌, Err}
use Rattle.std.proofs.lemmas.Result.{err_from_is_err_and}
use Rattle.dvg_print.specs.Verdicts.{IsVerdict}
use Rattle.dvg_tool.specs.Checks.{IsJudgingFault, Judges, JudgesBound}
use Rattle.dvg_tool.proofs.PrefixDecides.{judged, unbounded, unjudged}
use Rattle.dvg_tool.proofs.checks.CheckEngineEngine.find.Goals as goal

pub returns-in_err-bounded : goal.returns-in_err-bounded
returns-in_err-bounded g c =
    let is = err_from_is_err_and c.from_residual.result c.from_residual.ensures.1 in
    let fault = c.in_err-bounded.field-0.0 in
    let h : IsJudgingFault c.args.read.now fault = search rules in
    unjudged Judges _ fault c.args.read.now (is.1 ∙ ap Err is.2) h

pub returns : goal.returns
returns g c = λ input e.
    let text = c.args.read.now in
    let bounded : JudgesBound text c.in_ok-bounded.bounded = search rules in
    let said = subst (Judges text) (sym c.verdict.ensures) (unbounded text c.in_ok-bounded.bounded bounded) in
    judged IsVerdict c.verdict.result input text e said
