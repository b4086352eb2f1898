use Rattle.std.proofs.Common.{◌≡◌, ◌∙◌, ◌++◌, [], ◌∷◌, below_more, length, length-append, refl, rules, sym, ap}
use Rattle.std.proofs.lemmas.Option.{slice_get_read}
use Rattle.dvg_steps.proofs.Places.{count_more, count_same, drafted_more, drafted_same, not_unknown, wants_known, wants_none}
use Rattle.dvg_steps.proofs.drafts.draft_of.Goals as goal
use Rattle.dvg_steps.proofs.drafts.draft_of.Goals.{then-is_operation+in-Some-operation, else-is_operation}

pub loop-place-preserved : goal.loop-place-preserved
loop-place-preserved c =
    let steps = c.args.steps.now in
    let place = c.loop-place.place in
    let step = c.index-steps-place.result in
    let low = c.loop-place-test.true in
    let is = c.index-steps-place.is in
    let here = slice_get_read steps _ place step refl low is in
    let before = c.loop-place.invariant in
    elim c.if-is_operation.branch [
      | then-is_operation+in-Some-operation w ↦
          let operation = sym c.is_operation.ensures ∙ w.if-is_operation.true in
          let op = w.in-Some-operation.op in
          let pushed : w.push.new.self ≡ c.loop-place.draft ++ op ∷ [] = search rules in
          let new = w.draft-is ∙ pushed in
          record {
            drafted = drafted_more steps place step low is c.loop-place.draft _ op operation new before.drafted w.in-Some-operation.ensures;
            count = ap length new ∙ length-append c.loop-place.draft (op ∷ []) ∙ count_more steps place (length c.loop-place.draft) step low is before.count operation;
            known = below_more _ _ before.known (not_unknown steps place step here (wants_known steps step op w.in-Some-operation.ensures));
          }
      | else-is_operation w ↦
          let other = sym c.is_operation.ensures ∙ w.if-is_operation.false in
          record {
            drafted = drafted_same steps place step low is c.loop-place.draft _ other w.draft-is before.drafted;
            count = ap length w.draft-is ∙ count_same steps place (length c.loop-place.draft) step low is before.count other;
            known = below_more _ _ before.known (not_unknown steps place step here (wants_none steps step other));
          }
    ]
