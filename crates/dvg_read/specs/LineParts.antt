-- The parts of a line, as slices of it.
use Rattle.std.specs.Prelude.{ℕ, List, map}
use Rattle.std.specs.Borrow.{Bor}

-- the bytes of these slices
abbrev pub bytes_of : List (Bor (List ℕ)) → List (List ℕ)
bytes_of = map (λ part. part.now)
