use Rattle.std.proofs.Common.{◌∙◌, below_more, sym, arith, refl}
use Rattle.std.proofs.lemmas.Option.{slice_get_read}
use Rattle.dvg_steps.proofs.Places.{inside, name_case, none_by, not_again, other_case}
use Rattle.dvg_steps.proofs.drafts.given_again.Goals as goal
use Rattle.dvg_steps.proofs.drafts.given_again.Goals.{in-Name+else-is_some, in_default}

pub loop-place-preserved : goal.loop-place-preserved
loop-place-preserved c =
    let steps = c.args.steps.now in
    let place = c.loop-place.place in
    let step = c.index-steps-place.result in
    let here = slice_get_read steps _ place step refl c.loop-place-test.true c.index-steps-place.is in
    below_more _ _ c.loop-place.invariant (not_again steps place step here (elim c.match-step.branch [
      | in-Name+else-is_some w ↦ name_case _ w.in-Name.name step w.in-Name.is (none_by _ w.number_of.result (sym w.is_some.ensures ∙ w.if-is_some.false) w.number_of.ensures)
      | in_default w ↦ λ name names. absurd (other_case step w.in_default.not-Name name names)
    ]))

pub returns : goal.returns
returns c place it = c.loop-place.invariant place (let low = inside c.args.steps.now place it.0 it.2 in omega arith) it
