use Rattle.std.proofs.Common.{◌<◌, Result, Ok, Err, arith, length, refl, subst}
use Rattle.std.specs.Prelude.{OnErr}
use Rattle.std.proofs.lemmas.Result.{on_err_weaker, on_ok_weaker}
use Rattle.dvg_rows.specs.PlainLines.{tokens}
use Rattle.dvg_rows.specs.declared.line_tokens.TheConstants.{MAX_TOKENS}
use Rattle.dvg_rows.proofs.LineCuts.{all_found, last_found, more_left, within_all}
use Rattle.dvg_rows.proofs.line_tokens.find_tokens.Goals as goal

on_any : {T E : Type 0} {P : Type 0} (result : Result T E) → P → OnErr result P
on_any (Ok value) p = tt
on_any (Err error) p = p

pub returns-in_err-keep-clause-many : goal.returns-in_err-keep-clause-many
returns-in_err-keep-clause-many c =
    let within = within_all _ _ c.loop-end.rest.now c.in-Some.end c.loop-end.invariant c.in-Some.ensures.within
    c.in-Some.ensures.inside c.in-Some.ensures.ended in
    let many : MAX_TOKENS < length (tokens c.args.line.now) = omega (arith, within, c.in_err-keep.ensures.many) in
    on_any c.from_residual.result many

pub returns-then-rest-end-eq35-clause-found : goal.returns-then-rest-end-eq35-clause-found
returns-then-rest-end-eq35-clause-found c =
    all_found _ _ c.loop-end.rest.now c.in-Some.end c.loop-end.invariant c.in-Some.ensures.within
    c.in-Some.ensures.inside c.in-Some.ensures.ended _ c.in_ok-keep.ensures.kept c.if-rest-end-eq35.true

pub loop-end-preserved : goal.loop-end-preserved
loop-end-preserved c =
    more_left _ _ c.loop-end.rest.now c.in-Some.end c.loop-end.invariant c.in-Some.ensures.within
    c.in-Some.ensures.inside c.in-Some.ensures.ended _ c.in_ok-keep.ensures.kept c.if-rest-end-eq35.false

pub returns-clause-found : goal.returns-clause-found
returns-clause-found c =
    on_ok_weaker c.keep-2.result (λ kept. last_found _ _ _ c.loop-end.rest.now c.loop-end.invariant c.in_default.ensures.whole kept)
    c.keep-2.ensures.kept

pub returns-clause-many : goal.returns-clause-many
returns-clause-many c =
    on_err_weaker c.keep-2.result (λ many. subst (λ all. MAX_TOKENS < length all)
    (last_found _ _ _ c.loop-end.rest.now c.loop-end.invariant c.in_default.ensures.whole refl) many) c.keep-2.ensures.many
