-- Lines that are numbered.
use Rattle.std.specs.Prelude.{◌≡◌, ℕ, zero, suc, ◌+◌, ◌/◌, ◌%◌, ◌^◌, ◌<◌, List, [], ◌∷◌, ◌++◌, decimal}
use Rattle.dvg_gen.specs.declared.stroke.Stroke.{Stroke}

-- the digits before a last nine became those before the zero that the next number ends with
abbrev pub CountsUp : List ℕ → List ℕ → Type 0
CountsUp digits more = (n : ℕ) → n + 1 < 2 ^ 64 → digits ++ 57 ∷ [] ≡ decimal n → more ++ 48 ∷ [] ≡ decimal (n + 1)

-- the last k digits of a number, with zeros before it where it has fewer
abbrev pub padded : ℕ → ℕ → List ℕ
padded zero n = []
padded (suc k) n = padded k (n / 10) ++ (48 + n % 10) ∷ []

-- each number of a stroke is below 100,000,000, and its intensity below 16
abbrev pub IsSmall : Stroke → Type 0
IsSmall stroke = (stroke.x0 < 100000000) × (stroke.y0 < 100000000) × (stroke.x1 < 100000000) × (stroke.y1 < 100000000)
    × (stroke.z < 16)

-- lines, and the number of the next one
pub record Numbered : Type 0 where
  pub text : List ℕ
  pub next : ℕ
