-- An example: the clocks in which a core calls five times, and goes on.
use Rattle.std.specs.Prelude.{◌≡◌, List, [], ◌∷◌, ◌++◌, All, ℕ}
use Rattle.dvg_cells_core.specs.Example.{start, bytes}
use Rattle.dvg_cells_core.specs.Refines.{ArePins}
use Rattle.dvg_cells_wraps.specs.Refines.{after, registers}
use Rattle.dvg_cells_wraps.specs.Wraps.{halted}

-- the words of `jsrl` to 100, 200, 300, 400 and 500, and of a return
abbrev pub some_bytes : List ℕ
some_bytes = 0x00 ∷ 0xC1 ∷ 0x00 ∷ 0xC2 ∷ 0x00 ∷ 0xC3 ∷ 0x00 ∷ 0xC4 ∷ 0x00 ∷ 0xC5 ∷ 0x00 ∷ 0xD0 ∷ []

-- the fifth call overwrote 001; the return leads one past it, and its address is the oldest one then
abbrev pub WrapsSome : Type 0
WrapsSome = All ArePins (bytes some_bytes ++ start ∷ []) × (halted (after (bytes some_bytes ++ start ∷ [])) ≡ 0)
    × ((after (bytes some_bytes ++ start ∷ [])).at ≡ 0x401) × ((after (bytes some_bytes ++ start ∷ [])).fault ≡ 0)
    × (registers (after (bytes some_bytes ++ start ∷ [])) ≡ 0x301 ∷ 0x201 ∷ 0x101 ∷ 0x401 ∷ [])
