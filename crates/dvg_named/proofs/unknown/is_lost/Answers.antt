use Rattle.std.proofs.Common.{sym, subst, IsTrue, Option}
use Rattle.dvg_rows.specs.declared.row.Head as held_head
use Rattle.dvg_rows.specs.HeldRows.{rows_of}
use Rattle.dvg_named.specs.LaidValues.{laid_sections}
use Rattle.dvg_named.specs.SketchFaults.{IsLost}
use Rattle.dvg_named.specs.SketchReading.{head_in}
use Rattle.dvg_named.proofs.unknown.is_lost.Goals as goal

pub returns-in-Some : goal.returns-in-Some
returns-in-Some g c =
    subst (λ (head : Option held_head.Head).
    (IsTrue c.is_lost_after.result → IsLost (laid_sections c.args.laid.now) (head_in head) (rows_of c.args.rows.now) c.args.name.now)
    × (IsLost (laid_sections c.args.laid.now) (head_in head) (rows_of c.args.rows.now) c.args.name.now → IsTrue c.is_lost_after.result))
    (sym c.in-Some.is) c.is_lost_after.ensures

pub returns-in-None : goal.returns-in-None
returns-in-None g c =
    subst (λ (head : Option held_head.Head).
    (IsTrue c.is_unknown_in.result → IsLost (laid_sections c.args.laid.now) (head_in head) (rows_of c.args.rows.now) c.args.name.now)
    × (IsLost (laid_sections c.args.laid.now) (head_in head) (rows_of c.args.rows.now) c.args.name.now → IsTrue c.is_unknown_in.result))
    (sym c.in-None.is) c.is_unknown_in.ensures
