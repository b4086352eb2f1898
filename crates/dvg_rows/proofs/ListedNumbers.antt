-- The names that rows give and their numbers, with a row more.
use Rattle.std.proofs.Common.{◌≡◌, ◌≢◌, ◌<◌, ◌+◌, ◌≤◌, ℕ, zero, suc, List, [], ◌∷◌, ◌++◌, Option, Some, None, ap, arith, get_or, length, refl, sym, subst, take, drop, ◌∙◌, slice_get, option_to_list}
use Rattle.std.proofs.lemmas.List.{append-nil, length-append, map_more}
use Rattle.std.proofs.lemmas.List.Elements.{filter_map-append}
use Rattle.std.proofs.lemmas.Option.{slice_get-get_or}
use Rattle.std.proofs.Math.Seq.{get_or-append_seam}
use Rattle.std.specs.List.{AllZip, cons_option}
use Rattle.dvg_rows.specs.declared.row.Row as held
use Rattle.dvg_rows.specs.HeldRows.{rows_of}
use Rattle.dvg_rows.specs.NameNumbers.{IsOther, PassesName, number_kept}
use Rattle.dvg_rows.specs.RowPlaces.{IsNumber, doings, names_of}
use Rattle.dvg_rows.specs.RowValues.{name_of, row_of}
use Rattle.dvg_rows.specs.Rows.{Row}
use Rattle.dvg_rows.proofs.NumberedRows.{here, wider}
use Rattle.dvg_rows.proofs.RowNames.{cut_at, names_around}

abbrev name_in : Row → Option (List ℕ)
name_in row = row.name

-- ---- the names of rows, with a row more

cons_nothing : (name : Option (List ℕ)) → cons_option name [] ≡ option_to_list name
cons_nothing None = refl
cons_nothing (Some name) = refl

pub row_names : (rows : List held.Row) (i : ℕ) (row : held.Row) → i < length rows → row ≡ get_or rows i row
    → names_of (rows_of (take (i + 1) rows)) ≡ names_of (rows_of (take i rows)) ++ option_to_list (name_of row.name)
row_names rows i row low is =
    ap names_of (map_more row_of rows i row low ∙ ap (λ r. rows_of (take i rows) ++ row_of r ∷ []) (sym is))
    ∙ filter_map-append name_in (rows_of (take i rows)) (row_of row ∷ [])
    ∙ ap (λ l. names_of (rows_of (take i rows)) ++ l) (cons_nothing (name_of row.name))

-- ---- names that were given

take_suc : (names : List (List ℕ)) (i : ℕ) (name : List ℕ) → slice_get names i ≡ Some name
    → take (suc i) names ≡ take i names ++ name ∷ []
take_suc [] i name e = absurd cc
take_suc (x ∷ names) zero name e = let same : x ≡ name = cc in ap (λ n. n ∷ []) same
take_suc (x ∷ names) (suc i) name e = ap (λ l. x ∷ l) (take_suc names i name e)

take_next : (names : List (List ℕ)) (i : ℕ) (name : List ℕ) → slice_get names i ≡ Some name
    → take (i + 1) names ≡ take i names ++ name ∷ []
take_next names i name e =
    let next : i + 1 ≡ suc i = omega arith in
    ap (λ n. take n names) next ∙ take_suc names i name e

-- where the name goes on those that were given, there are so many more of these
pub goes_on : (given : List (List ℕ)) (place next : ℕ) (name : Option (List ℕ)) (before : List (List ℕ))
    → PassesName given place name next → before ≡ take place given → place ≡ length before
    → (before ++ option_to_list name ≡ take next given) × (next ≡ length (before ++ option_to_list name))
    × (next ≤ place + 1)
goes_on given place next None before h same count =
    (append-nil before ∙ same ∙ ap (λ n. take n given) (sym h), h ∙ count ∙ ap length (sym (append-nil before)), omega (arith, h))
goes_on given place next (Some name) before h same count = (
  ap (λ l. l ++ name ∷ []) same ∙ sym (take_next given place name h.0) ∙ ap (λ n. take n given) (sym h.1),
  (let size = length-append before (name ∷ []) in let next_is = h.1 in omega (arith, size, count, next_is)),
  (let next_is = h.1 in omega (arith, next_is)),
)

-- where it doesn't, these aren't the names of the rows
pub other_names : (rows : List held.Row) (i : ℕ) (row : held.Row) (given : List (List ℕ)) (place : ℕ) → i < length rows
    → row ≡ get_or rows i row → place ≡ length (names_of (rows_of (take i rows)))
    → IsOther given place (name_of row.name) → names_of (rows_of rows) ≢ given
other_names rows i row given place low is count other same = by_name (name_of row.name) refl other
  where
    by_name : (name : Option (List ℕ)) → name_of row.name ≡ name → IsOther given place name → ⊥
    by_name None e h = h
    by_name (Some name) e h =
        let front = names_of (rows_of (take i rows)) in
        let rest = names_of (rows_of (drop (i + 1) rows)) in
        let around : given ≡ front ++ name ∷ rest =
        sym same ∙ names_around (rows_of rows) (rows_of (take i rows)) (rows_of (drop (i + 1) rows)) (row_of row) name
        (cut_at rows i row low is) e in
        let size = ap length around in
        let parts = length-append front (name ∷ rest) in
        h (slice_get-get_or given place name (omega (arith, size, parts, count))
        ∙ ap Some (ap (λ n. get_or given n name) count ∙ ap (λ l. get_or l (length front) name) around
        ∙ get_or-append_seam front name rest name))

-- ---- the numbers of names

all_wider : (rows : List Row) (row : Row) (names : List (List ℕ)) (numbers : List ℕ) → AllZip (IsNumber rows) names numbers
    → AllZip (IsNumber (rows ++ row ∷ [])) names numbers
all_wider rows row [] [] h = tt
all_wider rows row [] (n ∷ numbers) h = absurd h
all_wider rows row (name ∷ names) [] h = absurd h
all_wider rows row (name ∷ names) (n ∷ numbers) h = (wider rows row name n h.0, all_wider rows row names numbers h.1)

all_more : (P : List ℕ → ℕ → Type 0) (names : List (List ℕ)) (numbers : List ℕ) (name : List ℕ) (number : ℕ)
    → AllZip P names numbers → P name number → AllZip P (names ++ name ∷ []) (numbers ++ number ∷ [])
all_more P [] [] name number h is = (is, tt)
all_more P [] (n ∷ numbers) name number h is = absurd h
all_more P (x ∷ names) [] name number h is = absurd h
all_more P (x ∷ names) (n ∷ numbers) name number h is = (h.0, all_more P names numbers name number h.1 is)

-- with a row more
pub numbers_more : (rows : List Row) (row : Row) (numbers : List ℕ) (count : ℕ) → count ≡ length (doings rows)
    → AllZip (IsNumber rows) (names_of rows) numbers
    → AllZip (IsNumber (rows ++ row ∷ [])) (names_of (rows ++ row ∷ [])) (numbers ++ number_kept row.name count)
numbers_more rows row numbers count is h = by_name row.name refl
  where
    names : names_of (rows ++ row ∷ []) ≡ names_of rows ++ option_to_list row.name
    names = filter_map-append name_in rows (row ∷ []) ∙ ap (λ l. names_of rows ++ l) (cons_nothing row.name)

    by_name : (name : Option (List ℕ)) → row.name ≡ name
        → AllZip (IsNumber (rows ++ row ∷ [])) (names_of (rows ++ row ∷ [])) (numbers ++ number_kept row.name count)
    by_name None e =
        subst (λ l. AllZip (IsNumber (rows ++ row ∷ [])) l (numbers ++ number_kept row.name count))
        (sym (names ∙ ap (λ n. names_of rows ++ option_to_list n) e ∙ append-nil (names_of rows)))
        (subst (AllZip (IsNumber (rows ++ row ∷ [])) (names_of rows))
        (sym (ap (λ n. numbers ++ number_kept n count) e ∙ append-nil numbers))
        (all_wider rows row (names_of rows) numbers h))
    by_name (Some name) e =
        subst (λ l. AllZip (IsNumber (rows ++ row ∷ [])) l (numbers ++ number_kept row.name count))
        (sym (names ∙ ap (λ n. names_of rows ++ option_to_list n) e))
        (subst (AllZip (IsNumber (rows ++ row ∷ [])) (names_of rows ++ name ∷ []))
        (sym (ap (λ n. numbers ++ number_kept n count) e))
        (all_more (IsNumber (rows ++ row ∷ [])) (names_of rows) numbers name count
        (all_wider rows row (names_of rows) numbers h) (here rows row name count is e)))
