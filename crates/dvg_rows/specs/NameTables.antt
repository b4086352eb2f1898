-- Names with numbers, which are looked up.
use Rattle.std.specs.Prelude.{ℕ, List, Bool, ◌≤◌, Option, None, Some, cond, nat_eq, position, unwrap_or}
use Rattle.std.specs.Borrow.{Bor}
use Rattle.std.specs.Cmp.Lexicographic.{pointwise}
use Rattle.indexmap.specs.IndexMap.{get}
use Rattle.dvg_rows.specs.declared.name_table.NameTable.{NameTable}

-- the two names are the same
abbrev pub is_same : Bor (List ℕ) → Bor (List ℕ) → Bool
is_same name other = pointwise nat_eq name.now other.now

-- the index, from 0, of the first of these names that is the same as this one, if there is one
abbrev pub place_in : List (Bor (List ℕ)) → Bor (List ℕ) → Option ℕ
place_in names name = position (is_same name) names

-- the number of a name, if it has one
abbrev pub number_in : {A : Type 0} → NameTable A → Bor (List ℕ) → Option ℕ
number_in table name = get is_same table.numbers name

-- the number of a name, where this name, if there is one and it has none, has that number
abbrev pub number_with : {A : Type 0} → NameTable A → Option (Bor (List ℕ)) → ℕ → Bor (List ℕ) → Option ℕ
number_with table None number other = number_in table other
number_with table (Some name) number other =
    cond (is_same name other) (Some (unwrap_or (number_in table other) number)) (number_in table other)

-- it is so of this number, or of none
abbrev pub IsFound : (ℕ → Type 0) → Option ℕ → Type 0
IsFound P None = (number : ℕ) → ¬ P number
IsFound P (Some number) = P number

-- it is so of this number, and of no smaller one
abbrev pub IsLeast : (ℕ → Type 0) → ℕ → Type 0
IsLeast P number = P number × ((other : ℕ) → P other → number ≤ other)

-- it is so of this number, and of no smaller one, or it is so of none
abbrev pub IsLeastFound : (ℕ → Type 0) → Option ℕ → Type 0
IsLeastFound P None = (number : ℕ) → ¬ P number
IsLeastFound P (Some number) = IsLeast P number

-- a name has the least of the numbers of which it is so; none, where it is so of none
abbrev pub TellsLeast : {A : Type 0} → (List ℕ → ℕ → Type 0) → NameTable A → Type 0
TellsLeast P table = (name : Bor (List ℕ)) → IsLeastFound (P name.now) (number_in table name)
