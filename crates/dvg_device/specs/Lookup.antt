-- Tables of numbers.
use Rattle.std.specs.Prelude.{ℕ, List, [], ◌∷◌, ◌==◌, if◌then◌else◌}

-- what stands beside a number in a table, or else this
abbrev pub looked_up : {A : Type 0} → A → ℕ → List (ℕ × A) → A
looked_up otherwise n [] = otherwise
looked_up otherwise n (row ∷ rows) = if n == row.0 then row.1 else looked_up otherwise n rows
