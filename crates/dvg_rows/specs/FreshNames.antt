-- Names that were given before.
use Rattle.std.specs.Prelude.{ℕ, List, Option, Some, None, Contains}
use Rattle.dvg_read.specs.declared.fault.LineFault.{LineFault}
use Rattle.dvg_read.specs.declared.fault.LineFault.TheVariants.{Memory, NameGivenAgain}

-- the name, if there is one, isn't among these
abbrev pub IsFresh : List (List ℕ) → Option (List ℕ) → Type 0
IsFresh names None = Unit {0}
IsFresh names (Some name) = ¬ Contains names name

-- the name is among these
abbrev pub IsAgain : List (List ℕ) → Option (List ℕ) → Type 0
IsAgain names None = ⊥
IsAgain names (Some name) = Contains names name

-- why a name isn't taken after these
abbrev pub StopsNames : List (List ℕ) → Option (List ℕ) → LineFault → Type 0
StopsNames names name NameGivenAgain = IsAgain names name
StopsNames names name Memory = Unit {0}
StopsNames names name _ = ⊥
