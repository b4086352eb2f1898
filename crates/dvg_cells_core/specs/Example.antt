-- An example: the clocks in which a core draws one stroke.
use Rattle.std.specs.Prelude.{ℕ, ◌≡◌, List, [], ◌∷◌, ◌++◌, All}
use Rattle.dvg_cells_core.specs.Core.{Pins, halted}
use Rattle.dvg_cells_core.specs.Refines.{ArePins, after, drew}

-- a clock with a start
abbrev pub start : Pins
start = record { reset = 0; start = 1; valid = 0; hole = 0; din = 0 }

-- clocks that answer with these bytes, which stand in the order of the clocks
abbrev pub bytes : List ℕ → List Pins
bytes [] = []
bytes (byte ∷ later) = bytes later ++ record { reset = 0; start = 0; valid = 1; hole = 0; din = byte } ∷ []

-- the words of a jump to 201, of `labs 512 400 0`, `vctr 9 -100 100 7` and `halt`
abbrev pub some_bytes : List ℕ
some_bytes =
    0x01 ∷ 0xE2 ∷ 0x90 ∷ 0xA1 ∷ 0x00 ∷ 0x02 ∷ 0x64 ∷ 0x90 ∷ 0x64 ∷ 0x74 ∷ 0x00 ∷ 0xB0 ∷ []

-- a start, and then these bytes
abbrev pub some_clocks : List Pins
some_clocks = bytes some_bytes ++ start ∷ []

-- after them the one stroke was shown, the core says that it is done, and it is halted
abbrev pub DrawsSome : Type 0
DrawsSome = All ArePins some_clocks
    × (drew some_clocks ≡ record { x0 = 262144; y0 = 204800; x1 = 210944; y1 = 256000; z = 7 } ∷ [])
    × ((after some_clocks).done ≡ 1) × (halted (after some_clocks) ≡ 1)
