-- Why a run drew no picture.
use Rattle.std.specs.Prelude.{List, [], ◌∷◌, ◌++◌, ℕ, Option, Some, None, codes, decimal}
use Rattle.dvg_gen.specs.Numbers.{fault_number}
use Rattle.dvg_print.specs.Lines.{hex_3, spaced}
use Rattle.dvg_dump.specs.Ends.{End, Complete, Broken, Endless}
use Rattle.dvg_picture.specs.declared.undrawn.Undrawn.{Undrawn}
use Rattle.dvg_picture.specs.declared.undrawn.Undrawn.TheVariants as undrawn

-- why a run with this end drew no picture, if it didn't
abbrev pub undrawn_by : End → Option Undrawn
undrawn_by (Complete words drew) = None
undrawn_by (Broken address fault) = Some (undrawn.Broke address fault)
undrawn_by Endless = Some undrawn.Endless

-- what is said of it: `broke`, the address of the fetch and the fault's number; or `endless`
abbrev pub reason_text : Undrawn → List ℕ
reason_text (undrawn.Broke address fault) = codes "broke" ++ spaced (hex_3 address ∷ decimal (fault_number fault) ∷ [])
reason_text undrawn.Endless = codes "endless"
