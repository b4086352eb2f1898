use Rattle.std.proofs.Common.{sym, ◌∙◌}
use Rattle.dvg_rows.proofs.LineCuts.{one_more_inside, whole_text}
use Rattle.dvg_rows.proofs.line_tokens.token_end.Goals as goal

pub loop-place-preserved : goal.loop-place-preserved
loop-place-preserved c =
    one_more_inside c.args.text.now c.loop-place.place c.loop-place-test.true c.loop-place.invariant
    (sym c.ends_token.ensures ∙ c.if-ends_token.false)

pub returns-clause-whole : goal.returns-clause-whole
returns-clause-whole c = whole_text c.args.text.now c.loop-place.place c.loop-place-test.false c.loop-place.invariant
