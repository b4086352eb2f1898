use Rattle.std.proofs.Common.{true≢false, sym, ◌∙◌}
use Rattle.dvg_blame.proofs.NearNames.{farther_at, nearer_at}
use Rattle.dvg_blame.proofs.checking.name_before.Goals.{then-is_nearer, else-is_nearer}
use Rattle.dvg_blame.proofs.checking.name_before.Goals as goal

pub loop-name-preserved : goal.loop-name-preserved
loop-name-preserved c =
    elim c.if-is_nearer.branch [
      | then-is_nearer w ↦ nearer_at c.args.address c.args.names.now c.loop-name.name-index _ c.loop-name.found c.if-is_nearer.found c.loop-name-test.true c.loop-name.invariant
          (c.is_nearer.ensures.0 w.if-is_nearer.true) w.found-is
      | else-is_nearer w ↦ farther_at c.args.address c.args.names.now c.loop-name.name-index _ c.loop-name.found c.if-is_nearer.found c.loop-name-test.true c.loop-name.invariant
          (λ near. true≢false (sym (c.is_nearer.ensures.1 near) ∙ w.if-is_nearer.false)) w.found-is
    ]
