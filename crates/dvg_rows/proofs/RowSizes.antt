-- How many words rows take.
use Rattle.std.proofs.Common.{◌≡◌, ◌<◌, ◌≤◌, ◌+◌, ℕ, List, [], ◌∷◌, ◌++◌, length, get_or, take, drop, sym, ap, ◌∙◌, arith}
use Rattle.std.proofs.lemmas.List.{map-append, map_more, take-append-drop}
use Rattle.std.proofs.lemmas.List.Elements.{filter_map-append}
use Rattle.std.proofs.lemmas.List.Sums.{sum_by-append}
use Rattle.std.specs.List.{sum_by}
use Rattle.dvg_rows.specs.declared.row.Row as held
use Rattle.dvg_rows.specs.HeldRows.{rows_of}
use Rattle.dvg_rows.specs.RowPlaces.{doings, size, words_taken}
use Rattle.dvg_rows.specs.RowValues.{row_of}
use Rattle.dvg_rows.specs.Rows.{Row}

pub size-append : (rows others : List Row) → size (rows ++ others) ≡ size rows + size others
size-append rows others =
    ap (sum_by words_taken) (filter_map-append (λ (row : Row). row.doing) rows others)
    ∙ sum_by-append words_taken (doings rows) (doings others)

-- one row more
pub size_more : (rows : List held.Row) (i : ℕ) (row : held.Row) → i < length rows → row ≡ get_or rows i row
    → size (rows_of (take (i + 1) rows)) ≡ size (rows_of (take i rows)) + size (row_of row ∷ [])
size_more rows i row low is =
    ap size (map_more row_of rows i row low ∙ ap (λ r. rows_of (take i rows) ++ row_of r ∷ []) (sym is))
    ∙ size-append (rows_of (take i rows)) (row_of row ∷ [])

-- the first rows take no more words than all
pub size_front : (rows : List held.Row) (i : ℕ) → size (rows_of (take i rows)) ≤ size (rows_of rows)
size_front rows i =
    let whole : size (rows_of rows) ≡ size (rows_of (take i rows)) + size (rows_of (drop i rows)) =
    ap size (ap rows_of (sym (take-append-drop i rows)) ∙ map-append row_of (take i rows) (drop i rows))
    ∙ size-append (rows_of (take i rows)) (rows_of (drop i rows)) in
    omega (arith, whole)
