-- The names of the ROM, as the reader lists them.
use Rattle.std.specs.Prelude.{◌≡◌, ◌<◌, ℕ, List, ◌∷◌, ◌++◌, Option, get_or, length, map, option_and_then, option_map, slice_get}
use Rattle.std.specs.Borrow.{Bor}
use Rattle.dvg_rows.specs.NameTables.{IsFound, place_in}
use Rattle.dvg_named.specs.declared.meaning.RomName.{RomName}
use Rattle.dvg_named.specs.Places.{IsAddress, Laid}

-- the names, in order
abbrev pub names_listed : List RomName → List (List ℕ)
names_listed = map (λ (named : RomName). named.name.now)

-- the name is that of the address that is listed with it
abbrev pub IsNamedIn : List Laid → RomName → Type 0
IsNamedIn laid named = IsAddress laid named.name.now named.address

-- the name is listed with this address
pub record IsListed (names : List RomName) (name : List ℕ) (address : ℕ) : Type 0 where
  pub place : ℕ
  pub low : place < length names
  pub named : RomName
  pub there : (d : RomName) → get_or names place d ≡ named
  pub name_is : named.name.now ≡ name
  pub address_is : named.address ≡ address

-- the section is one of these
pub record StandsIn (laid : List Laid) (section : Laid) : Type 0 where
  pub earlier : List Laid
  pub later : List Laid
  pub cut : laid ≡ earlier ++ section ∷ later

-- the address that is listed at the place of a name among these
abbrev pub address_listed : List (Bor (List ℕ)) → List RomName → Bor (List ℕ) → Option ℕ
address_listed given names name =
    option_and_then (λ place. option_map (λ (named : RomName). named.address) (slice_get names place)) (place_in given name)

-- a name has one of the addresses of which it is so; none, where it is so of none
abbrev pub TellsListed : (List ℕ → ℕ → Type 0) → List (Bor (List ℕ)) → List RomName → Type 0
TellsListed P given names = (name : Bor (List ℕ)) → IsFound (P name.now) (address_listed given names name)
