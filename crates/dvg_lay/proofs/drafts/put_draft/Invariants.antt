use Rattle.std.proofs.Common.{◌≡◌, ◌++◌, drop, flat_map}
use Rattle.dvg_lay.specs.Drafts.{draft_line, draft_lines}
use Rattle.dvg_lay.proofs.drafts.put_draft.Given as goal

abbrev pub invariant-loop-op : goal.invariant-loop-op
invariant-loop-op g l = l.text.items ++ flat_map draft_line (drop l.op-index l.ops) ≡ l.fn.text.items ++ draft_lines l.ops
