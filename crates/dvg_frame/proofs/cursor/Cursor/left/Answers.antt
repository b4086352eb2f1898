use Rattle.std.proofs.Common.{ap, sym}
use Rattle.dvg_frame.specs.Left.{CursorState, items_in}
use Rattle.dvg_frame.proofs.Cursors.{items_count}
use Rattle.dvg_frame.proofs.cursor.Cursor.left.Goals as goal

pub returns-clause-value : goal.returns-clause-value
returns-clause-value c = ap (λ (cursor : CursorState). cursor.left) c.self.view_is

pub returns-clause-items : goal.returns-clause-items
returns-clause-items c =
    sym (items_count c.self.inside (items_in c.args.self.now) (ap items_in c.self.view_is) c.self.invariant)
