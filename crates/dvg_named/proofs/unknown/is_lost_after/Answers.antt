use Rattle.std.proofs.Common.{sym, subst, IsTrue}
use Rattle.dvg_rows.specs.declared.row.Head as held_head
use Rattle.dvg_rows.specs.HeldRows.{rows_of}
use Rattle.dvg_named.specs.LaidValues.{laid_sections}
use Rattle.dvg_named.specs.SketchFaults.{IsLost}
use Rattle.dvg_rows.specs.RowValues.{head_of}
use Rattle.dvg_named.proofs.unknown.is_lost_after.Goals as goal

pub returns-in-Rom : goal.returns-in-Rom
returns-in-Rom g c =
    subst (λ (head : held_head.Head).
    (IsTrue c.has_no_address.result → IsLost (laid_sections c.args.laid.now) (head_of head) (rows_of c.args.rows.now) c.args.name.now)
    × (IsLost (laid_sections c.args.laid.now) (head_of head) (rows_of c.args.rows.now) c.args.name.now → IsTrue c.has_no_address.result))
    (sym c.in-Rom.is) c.has_no_address.ensures

pub returns-in-Frame : goal.returns-in-Frame
returns-in-Frame g c =
    subst (λ (head : held_head.Head).
    (IsTrue c.is_unknown_in.result → IsLost (laid_sections c.args.laid.now) (head_of head) (rows_of c.args.rows.now) c.args.name.now)
    × (IsLost (laid_sections c.args.laid.now) (head_of head) (rows_of c.args.rows.now) c.args.name.now → IsTrue c.is_unknown_in.result))
    (sym c.in-Frame.is) c.is_unknown_in.ensures
