-- A text that denotes something has no fault.
use Rattle.std.proofs.Common.{ℕ, List, arith}
use Rattle.dvg_read.specs.RomTexts.{RomText}
use Rattle.dvg_read.specs.declared.fault.TextFault.{TextFault}
use Rattle.dvg_named.specs.Meanings.{Frame}
use Rattle.dvg_named.specs.SketchFaults.{DenotesFrames, HasSketchFault}
use Rattle.dvg_named.proofs.LineFaults.{never_stands}
use Rattle.dvg_named.proofs.MeantNames.{none_unknown}
use Rattle.dvg_named.proofs.OneFault.{Fault, fault_is, long, stands, unknown}

none_of : (text : List ℕ) (rom : RomText) (result : List Frame) (fault : TextFault) → DenotesFrames text rom result
    → ¬ Fault text fault
none_of text rom result fault d (long e over) = let short = d.short in omega (arith, short, over)
none_of text rom result fault d (stands n kind e h) =
    never_stands h (record { sketch = d.sketch; spelled = d.spelled; limits = d.limits })
none_of text rom result fault d (unknown n e wants least) = none_unknown text rom result n d wants

pub no_fault_beside : (text : List ℕ) (rom : RomText) (result : List Frame) → DenotesFrames text rom result
    → (fault : TextFault) → ¬ HasSketchFault text fault
no_fault_beside text rom result d fault h = none_of text rom result fault d (fault_is text fault h)
