-- The places of names among those that were given.
use Rattle.std.proofs.Common.{◌≡◌, ◌≢◌, ◌<◌, ◌≤◌, ℕ, zero, suc, List, [], ◌∷◌, Bool, false, Option, Some, None, ap, arith, get_or, length, refl, sym, subst, ◌∙◌, nat_eq, slice_get, option_and_then, option_map, IsTrue}
use Rattle.std.proofs.lemmas.Bool.{false≢true}
use Rattle.std.proofs.lemmas.Bool.Decides.{Decides-eqb}
use Rattle.std.proofs.lemmas.List.{get_or-map, length-map}
use Rattle.std.proofs.lemmas.List.Quantifiers.{position-Some}
use Rattle.std.proofs.lemmas.List.Sums.{fails_before_first}
use Rattle.std.proofs.lemmas.Map.Keys.{apart_from_distinct}
use Rattle.std.proofs.lemmas.Option.{slice_get-get_or, slice_get-map}
use Rattle.std.proofs.lemmas.Grind.{common_steps}
use Rattle.std.proofs.Math.Seq.{get_or-append_seam}
use Rattle.std.specs.Borrow.{Bor}
use Rattle.std.specs.Cmp.Lexicographic.{pointwise, pointwise_decides}
use Rattle.std.specs.List.{AllZip, IsDistinct, position_or_len}
use Rattle.dvg_read.specs.LineParts.{bytes_of}
use Rattle.dvg_rows.specs.NameNumbers.{number_listed}
use Rattle.dvg_rows.specs.NameTables.{IsLeastFound, is_same, place_in}
use Rattle.dvg_rows.specs.RowPlaces.{AreDistinct, IsNumber, names_of}
use Rattle.dvg_rows.specs.Rows.{Row}
use Rattle.dvg_rows.proofs.RowNames.{names_around, one_number}

-- the bytes of a name
abbrev bytes : Bor (List ℕ) → List ℕ
bytes name = name.now

-- a name that is found has the bytes of the one at its place
pub place_some : (names : List (Bor (List ℕ))) (name : Bor (List ℕ)) (i : ℕ) → place_in names name ≡ Some i
    → (i < length names) × ((d : List ℕ) → get_or (bytes_of names) i d ≡ name.now)
place_some names name i e =
    let at = position-Some (is_same name) names i name e in (
      at.0,
      λ d. get_or-map bytes names i name d at.0
          ∙ sym ((pointwise_decides Decides-eqb name.now (get_or names i name).now).0 at.1),
    )

-- the place of a name that isn't found is after all
none_place : (names : List (Bor (List ℕ))) (name : Bor (List ℕ)) → place_in names name ≡ None
    → length names ≤ position_or_len (is_same name) names
none_place names name e = grind (arith, common_steps)

-- a name that isn't found has the bytes of none
pub place_none : (names : List (Bor (List ℕ))) (name : Bor (List ℕ)) → place_in names name ≡ None → (i : ℕ) (d : List ℕ)
    → i < length names → get_or (bytes_of names) i d ≢ name.now
place_none names name e i d low same =
    let past = none_place names name e in
    let fails = fails_before_first (is_same name) names i name (omega (arith, past, low)) in
    false≢true (sym fails ∙ (pointwise_decides Decides-eqb name.now (get_or names i name).now).1
    (sym same ∙ get_or-map bytes names i name d low))

-- whether a name stands at a place
pub has_some : (names : List (Bor (List ℕ))) (place : ℕ) (given : Bor (List ℕ)) (name : List ℕ) (is : Bool)
    → slice_get names place ≡ Some given → is ≡ pointwise nat_eq given.now name
    → (IsTrue is → slice_get (bytes_of names) place ≡ Some name) × (slice_get (bytes_of names) place ≡ Some name → IsTrue is)
has_some names place given name is at e =
    let there : slice_get (bytes_of names) place ≡ Some given.now =
    slice_get-map bytes names place ∙ ap (option_map bytes) at in (
      λ t. there ∙ ap Some ((pointwise_decides Decides-eqb given.now name).0 (sym e ∙ t)),
      λ h. e ∙ (pointwise_decides Decides-eqb given.now name).1 (let same : Some given.now ≡ Some name = sym there ∙ h in cc),
    )

pub has_none : (names : List (Bor (List ℕ))) (place : ℕ) (name : List ℕ) → slice_get names place ≡ None
    → (IsTrue false → slice_get (bytes_of names) place ≡ Some name) × (slice_get (bytes_of names) place ≡ Some name → IsTrue false)
has_none names place name at =
    let there : slice_get (bytes_of names) place ≡ None =
    slice_get-map bytes names place ∙ ap (option_map bytes) at in
    (λ t. absurd (false≢true t), λ h. absurd cc)

-- ---- names that are distinct

pub distinct_bytes : (names : List (Bor (List ℕ))) → IsDistinct is_same names → AreDistinct (bytes_of names)
distinct_bytes [] h i j d low inside same = absurd (omega (arith, inside))
distinct_bytes (name ∷ names) h i j d low inside same =
    let within : j < length (name ∷ names) = let size = length-map names bytes in omega (arith, inside, size) in
    let before : i < length (name ∷ names) = omega (arith, low, within) in
    let first = get_or (name ∷ names) i name in
    let second = get_or (name ∷ names) j name in
    false≢true (sym (apart_from_distinct is_same (name ∷ names) i j name h low within)
    ∙ (pointwise_decides Decides-eqb first.now second.now).1
    (sym (get_or-map bytes (name ∷ names) i name d before) ∙ same ∙ get_or-map bytes (name ∷ names) j name d within))

-- ---- numbers that are listed

-- where rows give these names, and each has its number, that is found
module _ (rows : List Row) (given : List (Bor (List ℕ))) (numbers : List ℕ) (same : names_of rows ≡ bytes_of given)
    (once : AreDistinct (bytes_of given)) (all : AllZip (IsNumber rows) (names_of rows) numbers) where
  long : length (names_of rows) ≡ length given
  long = ap length same ∙ length-map given bytes

  number_here : (name : Bor (List ℕ)) (i : ℕ) → place_in given name ≡ Some i
      → IsNumber rows name.now (get_or numbers i 0)
  number_here name i e =
      let at = place_some given name i e in
      subst (λ n. IsNumber rows n (get_or numbers i 0))
      (ap (λ l. get_or l i name.now) same ∙ at.1 name.now)
      (all_zip_at i (omega (arith, at.0, long)))
    where
      all_zip_at : (i : ℕ) → i < length (names_of rows)
          → IsNumber rows (get_or (names_of rows) i name.now) (get_or numbers i 0)
      all_zip_at i low = at_place (names_of rows) numbers i all low
        where
          at_place : (names : List (List ℕ)) (numbers : List ℕ) (i : ℕ) → AllZip (IsNumber rows) names numbers
              → i < length names → IsNumber rows (get_or names i name.now) (get_or numbers i 0)
          at_place [] numbers i h low = absurd (omega (arith, low))
          at_place (x ∷ names) [] i h low = absurd h
          at_place (x ∷ names) (n ∷ numbers) zero h low = h.0
          at_place (x ∷ names) (n ∷ numbers) (suc i) h low = at_place names numbers i h.1 (omega (arith, low))

  long_numbers : (names : List (List ℕ)) (numbers : List ℕ) → AllZip (IsNumber rows) names numbers
      → length names ≡ length numbers
  long_numbers [] [] h = refl
  long_numbers [] (n ∷ numbers) h = absurd h
  long_numbers (x ∷ names) [] h = absurd h
  long_numbers (x ∷ names) (n ∷ numbers) h = ap suc (long_numbers names numbers h.1)

  pub listed_least : (name : Bor (List ℕ)) → IsLeastFound (IsNumber rows name.now) (number_listed given numbers name)
  listed_least name = by_place (place_in given name) refl
    where
      by_place : (place : Option ℕ) → place_in given name ≡ place
          → IsLeastFound (IsNumber rows name.now) (number_listed given numbers name)
      by_place None e =
          subst (IsLeastFound (IsNumber rows name.now)) (sym (ap (option_and_then (slice_get numbers)) e))
          (λ number h.
          let around = names_around rows h.before h.named.after h.named.row name.now h.named.cut h.named.gives in
          let there = ap (λ l. get_or l (length (names_of h.before)) name.now) (sym same ∙ around)
          ∙ get_or-append_seam (names_of h.before) name.now (names_of h.named.after) name.now in
          let size = ap length around in
          place_none given name e (length (names_of h.before)) name.now
          (grind (arith, common_steps)) there)
      by_place (Some i) e =
          let at = place_some given name i e in
          let low : i < length numbers = let size = long_numbers (names_of rows) numbers all in omega (arith, at.0, long, size) in
          subst (IsLeastFound (IsNumber rows name.now))
          (sym (ap (option_and_then (slice_get numbers)) e ∙ slice_get-get_or numbers i 0 low)) (
            number_here name i e,
            λ other h.
                let is = one_number rows name.now (get_or numbers i 0) other (subst AreDistinct (sym same) once)
                (number_here name i e) h in
                omega (arith, is),
          )
