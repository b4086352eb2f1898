use Rattle.std.proofs.Common.{◌∙◌, ap, arith, length, sym}
use Rattle.std.specs.Prelude.{slice_get}
use Rattle.dvg_frame.proofs.Sizes.{read_op}
use Rattle.dvg_frame.proofs.counted.Counted.op.Goals as goal

pub offset_bounds-ops-i : goal.offset_bounds-ops-i
offset_bounds-ops-i c =
    let few = c.self.invariant.draft.count in
    let same = ap length c.self.view_is in
    omega (arith, c.requires)

pub returns : goal.returns
returns c =
    let same = ap length c.self.view_is in
    ap (λ F. slice_get F c.args.i) (sym c.self.view_is)
    ∙ read_op c.self.inside.ops.now c.args.i c.index-ops-i.result (omega (arith, c.requires)) c.index-ops-i.is
