use Rattle.std.proofs.Common.{arith}
use Rattle.dvg_frame.proofs.Notes.{notes_later, notes_past}
use Rattle.dvg_frame.proofs.checking.table.Table.clear.Goals as goal

pub invariant_of-self : goal.invariant_of-self
invariant_of-self c = notes_later _ _ _ c.self-then-self.invariant (omega arith)

pub returns : goal.returns
returns c = notes_past _ _ _ c.self.invariant (omega arith)
