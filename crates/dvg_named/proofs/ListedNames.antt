-- The address of each name that is listed.
use Rattle.std.proofs.Common.{◌≡◌, ◌<◌, ℕ, zero, suc, List, [], ◌∷◌, All, length, get_or, slice_get, Option, Some, None, refl, sym, ap, subst, ◌∙◌, arith, option_and_then, option_map}
use Rattle.std.proofs.lemmas.List.{get_or-map, length-map}
use Rattle.std.proofs.lemmas.Option.{get_or_from_slice_get}
use Rattle.std.specs.Borrow.{Bor}
use Rattle.dvg_read.specs.LineParts.{bytes_of}
use Rattle.dvg_rows.specs.NameTables.{IsFound, place_in}
use Rattle.dvg_rows.specs.RowPlaces.{names_of}
use Rattle.dvg_named.specs.declared.meaning.RomName.{RomName}
use Rattle.dvg_named.specs.LaidValues.{rows_laid}
use Rattle.dvg_named.specs.Places.{IsAddress, Laid}
use Rattle.dvg_named.specs.RomNames.{IsListed, IsNamedIn, TellsListed, address_listed, names_listed}
use Rattle.dvg_rows.proofs.NamePlaces.{place_none, place_some}
use Rattle.dvg_named.proofs.NamedSections.{item_cut, name_laid}

-- the bytes of a name that was given
abbrev bytes : Bor (List ℕ) → List ℕ
bytes name = name.now

abbrev name_in : RomName → List ℕ
name_in named = named.name.now

some_is_none : (names : List RomName) (i : ℕ) → i < length names → slice_get names i ≡ None → ⊥
some_is_none [] i low e = absurd (omega (arith, low))
some_is_none (named ∷ names) zero low e = absurd cc
some_is_none (named ∷ names) (suc i) low e = some_is_none names i (omega (arith, low)) e

-- where the names that were given are those that are listed, each is found with its address
module _ (given : List (Bor (List ℕ))) (names : List RomName) (same : bytes_of given ≡ names_listed names) where
  long : length given ≡ length names
  long = sym (length-map given bytes) ∙ ap length same ∙ length-map names name_in

  pub listed_found : (name : Bor (List ℕ)) → IsFound (IsListed names name.now) (address_listed given names name)
  listed_found name = by_place (place_in given name) refl
    where
      address_at : ℕ → Option ℕ
      address_at place = option_map (λ (named : RomName). named.address) (slice_get names place)

      by_item : (i : ℕ) → place_in given name ≡ Some i → (item : Option RomName) → slice_get names i ≡ item
          → IsFound (IsListed names name.now) (option_map (λ (named : RomName). named.address) item)
      by_item i e None none =
          let at = place_some given name i e in
          let low : i < length names = omega (arith, at.0, long) in
          absurd (some_is_none names i low none)
      by_item i e (Some named) some =
          let at = place_some given name i e in
          let low : i < length names = omega (arith, at.0, long) in
          record {
            place = i;
            low = low;
            named = named;
            there = λ d. get_or_from_slice_get names i named d some;
            name_is = sym (get_or-map name_in names i named name.now low ∙ ap name_in (get_or_from_slice_get names i named named some))
                ∙ sym (ap (λ l. get_or l i name.now) same) ∙ at.1 name.now;
            address_is = refl;
          }

      by_place : (place : Option ℕ) → place_in given name ≡ place
          → IsFound (IsListed names name.now) (address_listed given names name)
      by_place None e =
          subst (IsFound (IsListed names name.now)) (sym (ap (option_and_then address_at) e))
          (λ address h. place_none given name e h.place name.now (let low = h.low in omega (arith, low, long))
          (ap (λ l. get_or l h.place name.now) same
          ∙ get_or-map name_in names h.place h.named name.now h.low ∙ ap name_in (h.there h.named) ∙ h.name_is))
      by_place (Some i) e =
          subst (IsFound (IsListed names name.now)) (sym (ap (option_and_then address_at) e))
          (by_item i e (slice_get names i) refl)

-- where all names are listed, each with its address, they tell of addresses
module _ (laid : List Laid) (names : List RomName) (all : names_listed names ≡ names_of (rows_laid laid))
    (are : All (IsNamedIn laid) names) where
  is_address : (name : List ℕ) (address : ℕ) → IsListed names name address → IsAddress laid name address
  is_address name address h =
      let named : IsNamedIn laid h.named = subst (IsNamedIn laid) (h.there h.named) (are h.place h.named h.low) in
      subst (λ n. IsAddress laid n address) h.name_is (subst (IsAddress laid h.named.name.now) h.address_is named)

  -- a name that has an address is listed
  is_listed : (name : List ℕ) (address : ℕ) → IsAddress laid name address → (also : ℕ) × IsListed names name also
  is_listed name address h =
      let given = name_laid laid h.earlier h.later h.section name h.before h.cut h.named in
      let found = item_cut (λ (named : RomName). named.name.now) names given.before given.after name (all ∙ given.cut) in (
        found.item.address,
        record {
          place = length given.before;
          low = found.low;
          named = found.item;
          there = found.there;
          name_is = found.same;
          address_is = refl;
        },
      )

  addresses_found : (name : List ℕ) (found : Option ℕ) → IsFound (IsListed names name) found
      → IsFound (IsAddress laid name) found
  addresses_found name None h = λ address is. let listed = is_listed name address is in h listed.0 listed.1
  addresses_found name (Some address) h = is_address name address h

  pub addresses_described : (given : List (Bor (List ℕ))) → bytes_of given ≡ names_listed names
      → TellsListed (IsAddress laid) given names
  addresses_described given same name =
      addresses_found name.now (address_listed given names name) (listed_found given names same name)
