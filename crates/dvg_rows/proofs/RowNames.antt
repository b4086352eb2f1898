-- Which rows give a name.
use Rattle.std.proofs.Common.{◌≡◌, ◌<◌, ◌+◌, ℕ, suc, List, [], ◌∷◌, ◌++◌, length, get_or, take, drop, refl, sym, ap, subst}
use Rattle.std.proofs.Common.{◌∙◌, arith, Option, Some, None}
use Rattle.std.proofs.lemmas.List.{drop_more, length-append, map-append, take-append-drop}
use Rattle.std.proofs.lemmas.List.Elements.{filter_map-append}
use Rattle.std.proofs.Math.Seq.{get_or-append_seam}
use Rattle.std.specs.List.{cons_option}
use Rattle.dvg_rows.specs.declared.row.Row as held
use Rattle.dvg_rows.specs.HeldRows.{rows_of}
use Rattle.dvg_rows.specs.RowPlaces.{AreDistinct, names_of}
use Rattle.dvg_rows.specs.RowPlaces.{IsNumber, doings}
use Rattle.dvg_rows.specs.RowValues.{row_of}
use Rattle.dvg_rows.specs.Rows.{Row}

-- rows are cut at a place
pub cut_at : (rows : List held.Row) (i : ℕ) (row : held.Row) → i < length rows → row ≡ get_or rows i row
    → rows_of rows ≡ rows_of (take i rows) ++ row_of row ∷ rows_of (drop (i + 1) rows)
cut_at rows i row low is =
    let here : drop i rows ≡ row ∷ drop (i + 1) rows =
    drop_more rows i row low ∙ ap (λ r. r ∷ drop (i + 1) rows) (sym is) in
    ap rows_of (sym (take-append-drop i rows) ∙ ap (λ l. take i rows ++ l) here)
    ∙ map-append row_of (take i rows) (row ∷ drop (i + 1) rows)

-- ---- names that are given once

abbrev name_in : Row → Option (List ℕ)
name_in row = row.name

-- the names that rows give around one that gives this name
pub names_around : (rows before after : List Row) (row : Row) (name : List ℕ) → rows ≡ before ++ row ∷ after
    → row.name ≡ Some name → names_of rows ≡ names_of before ++ name ∷ names_of after
names_around rows before after row name cut gives =
    ap names_of cut ∙ filter_map-append name_in before (row ∷ after)
    ∙ ap (λ first. names_of before ++ cons_option first (names_of after)) gives

-- of distinct names those after the first are distinct
pub distinct_after : (first : Option (List ℕ)) (names : List (List ℕ)) → AreDistinct (cons_option first names)
    → AreDistinct names
distinct_after None names h = h
distinct_after (Some first) names h = λ i j d low inside. h (suc i) (suc j) d (omega arith) (omega arith)

-- a name that is given first isn't given again
pub not_again : (name : List ℕ) (names before after : List (List ℕ)) → names ≡ before ++ name ∷ after
    → AreDistinct (name ∷ names) → ⊥
not_again name names before after cut h =
    let size : length names ≡ length before + suc (length after) =
    ap length cut ∙ length-append before (name ∷ after) in
    h 0 (suc (length before)) name (omega arith) (omega arith)
    (sym (ap (λ l. get_or l (length before) name) cut ∙ get_or-append_seam before name after name))

-- the rows before the one that gives a name are the same, where each name is given once
pub one_place : (rows before also after behind : List Row) (row other : Row) (name : List ℕ)
    → AreDistinct (names_of rows) → rows ≡ before ++ row ∷ after → row.name ≡ Some name
    → rows ≡ also ++ other ∷ behind → other.name ≡ Some name → before ≡ also
one_place rows [] [] after behind row other name once e gives f names = refl
one_place [] before (x ∷ also) after behind row other name once e gives f names = absurd cc
one_place [] (x ∷ before) also after behind row other name once e gives f names = absurd cc
one_place (first ∷ rows) [] (x ∷ also) after behind row other name once e gives f names =
    let is : first.name ≡ Some name = ap name_in (let same : first ≡ row = cc in same) ∙ gives in
    absurd (not_again name (names_of rows) (names_of also) (names_of behind)
    (names_around rows also behind other name (cc) names)
    (subst (λ n. AreDistinct (cons_option n (names_of rows))) is once))
one_place (first ∷ rows) (x ∷ before) [] after behind row other name once e gives f names =
    let is : first.name ≡ Some name = ap name_in (let same : first ≡ other = cc in same) ∙ names in
    absurd (not_again name (names_of rows) (names_of before) (names_of after)
    (names_around rows before after row name (cc) gives)
    (subst (λ n. AreDistinct (cons_option n (names_of rows))) is once))
one_place (first ∷ rows) (x ∷ before) (y ∷ also) after behind row other name once e gives f names =
    let rest : before ≡ also =
    one_place rows before also after behind row other name (distinct_after first.name (names_of rows) once) (cc) gives
    (cc) names in
    let same : x ≡ y = cc in cc

-- so is the number that it names
pub one_number : (rows : List Row) (name : List ℕ) (number also : ℕ) → AreDistinct (names_of rows)
    → IsNumber rows name number → IsNumber rows name also → number ≡ also
one_number rows name number also once h k =
    let same : h.before ≡ k.before =
    one_place rows h.before k.before h.named.after k.named.after h.named.row k.named.row name once h.named.cut
    h.named.gives k.named.cut k.named.gives in
    h.count ∙ ap (λ before. length (doings before)) same ∙ sym k.count
