-- Where the operations of rows stand, and which of them a name names.
use Rattle.std.specs.Prelude.{◌≡◌, ◌≢◌, ℕ, List, ◌∷◌, ◌++◌, AllPairs, length, Some}
use Rattle.std.specs.List.{filter_map, sum_by}
use Rattle.dvg_code.specs.Spelling.{word_count}
use Rattle.dvg_frame.specs.declared.op.OpKind.TheVariants.{Draw}
use Rattle.dvg_rows.specs.Rows.{Doing, Row, plainly}

-- what the rows do, in order
abbrev pub doings : List Row → List Doing
doings = filter_map (λ row. row.doing)

-- how many words it takes: two where it draws by a VCTR or a LABS, and else one
abbrev pub words_taken : Doing → ℕ
words_taken (plainly (Draw instr)) = word_count instr
words_taken _ = 1

-- how many words rows take
abbrev pub size : List Row → ℕ
size rows = sum_by words_taken (doings rows)

-- a row gives this name, and these rows stand before it
pub record IsNamedAfter (rows : List Row) (name : List ℕ) (before : List Row) : Type 0 where
  pub row : Row
  pub after : List Row
  pub cut : rows ≡ before ++ row ∷ after
  pub gives : row.name ≡ Some name

-- the name is that of the operation of this number of a frame: as many stand before it
pub record IsNumber (rows : List Row) (name : List ℕ) (number : ℕ) : Type 0 where
  pub before : List Row
  pub named : IsNamedAfter rows name before
  pub count : number ≡ length (doings before)

-- no two of these names are the same
abbrev pub AreDistinct : List (List ℕ) → Type 0
AreDistinct = AllPairs (λ name other. name ≢ other)

-- the names that rows give
abbrev pub names_of : List Row → List (List ℕ)
names_of = filter_map (λ row. row.name)
