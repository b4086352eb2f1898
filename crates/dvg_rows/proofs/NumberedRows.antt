-- The numbers that names have in a frame, with a row more.
use Rattle.std.proofs.Common.{◌≡◌, ◌≤◌, ◌⊎◌, inl, inr, ◌+◌, ℕ, suc, List, [], ◌∷◌, ◌++◌, length, refl, ap, sym, ◌∙◌, arith, Option, Some}
use Rattle.std.proofs.lemmas.List.{append_assoc, length-append}
use Rattle.std.proofs.lemmas.List.Elements.{filter_map-append}
use Rattle.dvg_rows.specs.RowPlaces.{IsNamedAfter, IsNumber, doings}
use Rattle.dvg_rows.specs.Rows.{Row}

abbrev name_in : Row → Option (List ℕ)
name_in row = row.name

-- a row that gives a name is the last one, or stands before it
named_before : (rows before after : List Row) (row other : Row) (name : List ℕ) → rows ++ row ∷ [] ≡ before ++ other ∷ after
    → other.name ≡ Some name → IsNamedAfter rows name before ⊎ ((row.name ≡ Some name) × (before ≡ rows))
named_before [] [] after row other name cut gives =
    let same : row ≡ other = cc in inr (ap name_in same ∙ gives, refl)
named_before [] (x ∷ before) after row other name cut gives =
    let size : 1 ≡ suc (length before + suc (length after)) =
    ap length cut ∙ ap suc (length-append before (other ∷ after)) in
    absurd (omega (arith, size))
named_before (first ∷ rows) [] after row other name cut gives = inl record {
  row = first;
  after = rows;
  cut = refl;
  gives = ap name_in (let same : first ≡ other = cc in same) ∙ gives;
}
named_before (first ∷ rows) (x ∷ before) after row other name cut gives =
    by_rest (named_before rows before after row other name (cc) gives)
  where
    same : first ≡ x
    same = cc

    by_rest : IsNamedAfter rows name before ⊎ ((row.name ≡ Some name) × (before ≡ rows))
        → IsNamedAfter (first ∷ rows) name (x ∷ before) ⊎ ((row.name ≡ Some name) × (x ∷ before ≡ first ∷ rows))
    by_rest (inl rest) =
        let cut_rest = rest.cut in inl record { row = rest.row; after = rest.after; cut = cc; gives = rest.gives }
    by_rest (inr (last, all)) = inr (last, cc)

-- a number that a name has with a row more it had before, or the row gives the name
pub narrower : (rows : List Row) (row : Row) (count : ℕ) → count ≡ length (doings rows) → (name : List ℕ) (number : ℕ)
    → IsNumber (rows ++ row ∷ []) name number
    → IsNumber rows name number ⊎ ((row.name ≡ Some name) × (number ≡ count))
narrower rows row count is name number h =
    by_place (named_before rows h.before h.named.after row h.named.row name h.named.cut h.named.gives)
  where
    by_place : IsNamedAfter rows name h.before ⊎ ((row.name ≡ Some name) × (h.before ≡ rows))
        → IsNumber rows name number ⊎ ((row.name ≡ Some name) × (number ≡ count))
    by_place (inl named) = inl record { before = h.before; named = named; count = h.count }
    by_place (inr (last, all)) = inr (last, h.count ∙ ap (λ rs. length (doings rs)) all ∙ sym is)

-- rows one after the other have the operations of both
counted : (rows more : List Row) → length (doings (rows ++ more)) ≡ length (doings rows) + length (doings more)
counted rows more =
    ap length (filter_map-append (λ (r : Row). r.doing) rows more) ∙ length-append (doings rows) (doings more)

-- no number of a name is greater than that of the operations
pub few : (rows : List Row) (name : List ℕ) (number : ℕ) → IsNumber rows name number → number ≤ length (doings rows)
few rows name number h =
    let cut = ap (λ rs. length (doings rs)) h.named.cut in
    let parts = counted h.before (h.named.row ∷ h.named.after) in
    let count = h.count in
    omega (arith, cut, parts, count)

-- a name keeps its number
pub wider : (rows : List Row) (row : Row) (name : List ℕ) (number : ℕ) → IsNumber rows name number
    → IsNumber (rows ++ row ∷ []) name number
wider rows row name number h = record {
  before = h.before;
  named = record {
    row = h.named.row;
    after = h.named.after ++ row ∷ [];
    cut = ap (λ l. l ++ row ∷ []) h.named.cut ∙ append_assoc h.before (h.named.row ∷ h.named.after) (row ∷ []);
    gives = h.named.gives;
  };
  count = h.count;
}

-- the name of the last row has the number of the operations before it
pub here : (rows : List Row) (row : Row) (name : List ℕ) (number : ℕ) → number ≡ length (doings rows)
    → row.name ≡ Some name → IsNumber (rows ++ row ∷ []) name number
here rows row name number count gives = record {
  before = rows;
  named = record { row = row; after = []; cut = refl; gives = gives };
  count = count;
}

-- a row more has its operations more
pub count_more : (rows : List Row) (row : Row) → length (doings (rows ++ row ∷ []))
    ≡ length (doings rows) + length (doings (row ∷ []))
count_more rows row = counted rows (row ∷ [])
