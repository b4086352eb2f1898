use Rattle.std.proofs.Common.{rules, ◌+◌, ◌≤◌, length}
use Rattle.dvg_frame.proofs.Counts.{draft_extended}
use Rattle.dvg_frame.proofs.draft.Draft.try_extend_from_slice.Goals as goal

pub invariant_of-self : goal.invariant_of-self
invariant_of-self c =
    let room : length c.self.inside.ops.items + length c.args.ops.now ≤ 511 = search rules in
    draft_extended _ _ _ c.self.invariant c.are_ops.ensures room (search rules)
