-- The bytes of a number.
use Rattle.std.specs.Prelude.{ℕ, zero, suc, ◌%◌, ◌/◌, List, [], ◌∷◌}

-- the lowest bytes of a number, as many as this, the lowest one first
abbrev pub low_bytes : ℕ → ℕ → List ℕ
low_bytes zero number = []
low_bytes (suc count) number = (number % 256) ∷ low_bytes count (number / 256)
