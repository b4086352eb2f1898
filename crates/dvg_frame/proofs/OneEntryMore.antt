-- A table with one more entry.
use Rattle.std.proofs.Common.{◌≡◌, ◌<◌, List, length, Option, None, get_or-set_same, get_or-set_other, set, sym, ap, ◌∙◌, arith}
use Rattle.std.specs.Prelude.{slice_index_or}
use Rattle.dvg_frame.specs.declared.checking.pair.TheConstants.{PLACES}
use Rattle.dvg_frame.specs.declared.place.Place.{Place}
use Rattle.dvg_frame.specs.declared.place.Place.TheVariants.{InFrame, InRom}
use Rattle.dvg_frame.specs.declared.checking.table.Drawn.{Drawn}
use Rattle.dvg_frame.specs.own.Pairs.{IsPlace, place_index}
use Rattle.dvg_frame.specs.own.Tables.{known_at}
use Rattle.dvg_frame.proofs.Marks.{same_place}

place_low : (p : Place) → IsPlace p → place_index p < PLACES
place_low (InFrame i) inside = omega arith
place_low (InRom a) inside = omega arith

pub put_here : (old new : List (Option Drawn)) (p : Place) (known : Option Drawn) → IsPlace p → length old ≡ PLACES → new ≡ set old (place_index p) known → known_at new p ≡ known
put_here old new p known inside size is = ap (λ xs. slice_index_or xs (place_index p) None) is ∙ get_or-set_same old (place_index p) known None (let low = place_low p inside in omega arith)

pub put_other : (old new : List (Option Drawn)) (p q : Place) (known : Option Drawn) → IsPlace p → IsPlace q → (p ≡ q → ⊥) → new ≡ set old (place_index p) known → known_at new q ≡ known_at old q
put_other old new p q known inside there differ is = ap (λ xs. slice_index_or xs (place_index q) None) is ∙ get_or-set_other old (place_index p) (place_index q) known None (λ same. differ (same_place p q inside there (sym same)))
