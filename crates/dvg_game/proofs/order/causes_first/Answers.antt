use Rattle.std.proofs.Common.{ap, ◌∙◌, ◌++◌, arith}
use Rattle.dvg_game.proofs.Ordered.{first_pushed, second_pushed, whole}
use Rattle.dvg_game.proofs.order.causes_first.Goals as goal
use Rattle.dvg_game.proofs.order.causes_first.Goals.{then-follows+in_ok-push, else-follows+in_ok-push-2}

pub loop-broken-preserved : goal.loop-broken-preserved
loop-broken-preserved g c at =
    elim c.if-follows.branch [
      | then-follows+in_ok-push w ↦
          second_pushed c.args.all.now c.loop-broken.broken-index _ c.loop-broken.causes.items c.loop-broken.others.items _ _ at
          c.loop-broken-test.true (ap (λ v. v.items) w.causes-is) (ap (λ v. v.items) w.others-is ∙ w.in_ok-push.ensures.items)
          (c.loop-broken.invariant at)
      | else-follows+in_ok-push-2 w ↦
          first_pushed c.args.all.now c.loop-broken.broken-index _ c.loop-broken.causes.items c.loop-broken.others.items _ _ at
          c.loop-broken-test.true (ap (λ v. v.items) w.causes-is ∙ w.in_ok-push-2.ensures.items) (ap (λ v. v.items) w.others-is)
          (c.loop-broken.invariant at)
    ]

pub returns : goal.returns
returns g c at =
    whole c.args.all.now c.loop-broken.causes.items c.loop-broken.others.items _ c.loop-broken.broken-index at
    (c.in_ok-extend_from_slice.ensures.items ∙ ap (λ l. c.loop-broken.causes.items ++ l) c.as_slice.ensures.value)
    (omega (arith, c.loop-broken-test.false)) (c.loop-broken.invariant at)
