use Rattle.std.proofs.Common.{◌≡◌, ◌∙◌, ap, sym, arith, subst}
use Rattle.std.specs.Prelude.{IfSome}
use Rattle.std.specs.Str.Lines.{strip_carriage_return}
use Rattle.dvg_read.specs.Texts.{is_passed, parts}
use Rattle.dvg_logs.specs.LogLineTells.{line_of}
use Rattle.dvg_logs.specs.LogLines.{LogRow, passed, small}
use Rattle.dvg_logs.proofs.LogRows.{logged_by, passed_alone, row_of}
use Rattle.dvg_logs.proofs.log_line.read_log_line.Goals as goal

pub returns-then-is_passed-clause-found : goal.returns-then-is_passed-clause-found
returns-then-is_passed-clause-found c =
    passed (omega arith) (ap is_passed (sym c.without_cr-line.ensures.value) ∙ sym c.is_passed.ensures ∙ c.if-is_passed.true)

pub returns-then-is_passed-clause-only : goal.returns-then-is_passed-clause-only
returns-then-is_passed-clause-only c logged tells =
    passed_alone c.args.line.now (ap is_passed (sym c.without_cr-line.ensures.value) ∙ sym c.is_passed.ensures ∙ c.if-is_passed.true) tells

pub returns-clause-found : goal.returns-clause-found
returns-clause-found c =
    let text : c.as_slice.result.now ≡ small (strip_carriage_return c.args.line.now) = c.as_slice.ensures.value ∙ (c.in_small_letters-small.ensures ∙ ap small c.without_cr-line.ensures.value) in
    logged_by c.args.base c.args.line.now c.row.result (omega arith) (ap is_passed (sym c.without_cr-line.ensures.value) ∙ sym c.is_passed.ensures ∙ c.if-is_passed.false)
    (subst (λ text. IfSome c.row.result (λ found. LogRow c.args.base (line_of found) (parts text))) text c.row.ensures.found)

pub returns-clause-only : goal.returns-clause-only
returns-clause-only c logged tells =
    let text : c.as_slice.result.now ≡ small (strip_carriage_return c.args.line.now) = c.as_slice.ensures.value ∙ (c.in_small_letters-small.ensures ∙ ap small c.without_cr-line.ensures.value) in
    c.row.ensures.only logged (subst (λ text. LogRow c.args.base logged (parts text)) (sym text)
    (row_of c.args.line.now (ap is_passed (sym c.without_cr-line.ensures.value) ∙ sym c.is_passed.ensures ∙ c.if-is_passed.false) tells))
