use Rattle.std.proofs.Common.{sym, subst, IsTrue}
use Rattle.dvg_rows.specs.declared.row.Doing as held_doing
use Rattle.dvg_named.specs.FirstUnknown.{section_held}
use Rattle.dvg_named.specs.LaidValues.{laid_sections}
use Rattle.dvg_named.specs.SketchFaults.{IsUngiven}
use Rattle.dvg_rows.specs.RowValues.{doing_of}
use Rattle.dvg_named.proofs.unknown.is_ungiven.Goals as goal

pub returns-in-CallsRom : goal.returns-in-CallsRom
returns-in-CallsRom g c =
    subst (λ (doing : held_doing.Doing).
    (IsTrue c.has_no_address.result → IsUngiven (laid_sections c.args.laid.now) (section_held c.args.head c.args.rows.now) (doing_of doing))
    × (IsUngiven (laid_sections c.args.laid.now) (section_held c.args.head c.args.rows.now) (doing_of doing) → IsTrue c.has_no_address.result))
    (sym c.in-CallsRom.is) c.has_no_address.ensures

pub returns-in-JumpsRom : goal.returns-in-JumpsRom
returns-in-JumpsRom g c =
    subst (λ (doing : held_doing.Doing).
    (IsTrue c.has_no_address-in-JumpsRom.result → IsUngiven (laid_sections c.args.laid.now) (section_held c.args.head c.args.rows.now) (doing_of doing))
    × (IsUngiven (laid_sections c.args.laid.now) (section_held c.args.head c.args.rows.now) (doing_of doing) → IsTrue c.has_no_address-in-JumpsRom.result))
    (sym c.in-JumpsRom.is) c.has_no_address-in-JumpsRom.ensures
