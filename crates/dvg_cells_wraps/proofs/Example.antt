-- The clocks of the example, computed by the cells.
use Rattle.std.proofs.Common.{ℕ, ◌<◌, List, [], ◌∷◌, refl, lit≤, arith}
use Rattle.std.specs.Prelude.{All}
use Rattle.std.proofs.lemmas.List.Elements.{All-nil, All-push}
use Rattle.dvg_cells_core.specs.Refines.{ArePins}
use Rattle.dvg_cells_core.specs.Example.{start, bytes}
use Rattle.dvg_cells_wraps.specs.Example.{some_bytes, WrapsSome}

abbrev AreBytes : List ℕ → Type 0
AreBytes [] = Unit {0}
AreBytes (byte ∷ later) = (byte < 256) × AreBytes later

answers : (list : List ℕ) → AreBytes list → All ArePins (bytes list)
answers [] are = All-nil ArePins
answers (byte ∷ later) are =
    All-push ArePins (bytes later) _ (answers later are.1)
    (record { reset = omega arith; start = omega arith; valid = omega arith; hole = omega arith; din = are.0 })

starts : ArePins start
starts = record { reset = omega arith; start = omega arith; valid = omega arith; hole = omega arith; din = omega arith }

are_bytes : AreBytes some_bytes
are_bytes = (lit≤ tt, (lit≤ tt, (lit≤ tt, (lit≤ tt, (lit≤ tt, (lit≤ tt, (lit≤ tt, (lit≤ tt, (lit≤ tt, (lit≤ tt, (lit≤ tt, (lit≤ tt, tt))))))))))))

pub wraps_some_law : WrapsSome
wraps_some_law = (All-push ArePins (bytes some_bytes) start (answers some_bytes are_bytes) starts, refl, refl, refl, refl)
