use Rattle.std.proofs.Common.{rules, ◌<◌, length, refl}
use Rattle.dvg_frame.specs.Ops.{IsOp}
use Rattle.dvg_frame.proofs.Counts.{draft_pushed}
use Rattle.dvg_frame.proofs.draft.Draft.push.Goals as goal

pub invariant_of-self : goal.invariant_of-self
invariant_of-self c =
    let low : length c.self.inside.ops.items < 511 = search rules in
    let valid : IsOp c.args.op = search rules in
    draft_pushed _ _ _ _ c.self.invariant valid low refl c.push.ensures.items
