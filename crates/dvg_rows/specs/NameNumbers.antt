-- The numbers of the names of a section, as they are kept (for private contracts).
use Rattle.std.specs.Prelude.{◌≡◌, ◌≢◌, ◌+◌, ℕ, List, [], ◌∷◌, Option, Some, None, option_and_then, slice_get}
use Rattle.std.specs.Borrow.{Bor}
use Rattle.dvg_rows.specs.declared.name_numbers.NameNumbers.{NameNumbers}
use Rattle.dvg_rows.specs.declared.name_numbers.NameNumbers.TheVariants.{Listed, Told}
use Rattle.dvg_rows.specs.NameTables.{IsLeastFound, number_in, place_in}

-- the number that is listed at the place of a name
abbrev pub number_listed : List (Bor (List ℕ)) → List ℕ → Bor (List ℕ) → Option ℕ
number_listed given numbers name = option_and_then (slice_get numbers) (place_in given name)

-- the number of a name, if it has one
abbrev pub number_told : {A : Type 0} → NameNumbers A → Bor (List ℕ) → Option ℕ
number_told (Told table) name = number_in table name
number_told (Listed given numbers) name = number_listed given.now.given.keys numbers.items name

-- a name has the least of the numbers of which it is so; none, where it is so of none
abbrev pub CountsLeast : {A : Type 0} → (List ℕ → ℕ → Type 0) → NameNumbers A → Type 0
CountsLeast P numbers = (name : Bor (List ℕ)) → IsLeastFound (P name.now) (number_told numbers name)

-- the place after a name, if there is one, that stands at this place of those that were given
abbrev pub PassesName : List (List ℕ) → (place : ℕ) → Option (List ℕ) → (next : ℕ) → Type 0
PassesName given place None next = next ≡ place
PassesName given place (Some name) next = (slice_get given place ≡ Some name) × (next ≡ place + 1)

-- another name than this one stands at the place, or none
abbrev pub IsOther : List (List ℕ) → (place : ℕ) → Option (List ℕ) → Type 0
IsOther given place None = ⊥
IsOther given place (Some name) = slice_get given place ≢ Some name

-- the number, if there is a name
abbrev pub number_kept : Option (List ℕ) → ℕ → List ℕ
number_kept None number = []
number_kept (Some name) number = number ∷ []
