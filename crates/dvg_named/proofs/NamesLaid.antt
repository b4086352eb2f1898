-- The names of the ROM that are listed, one row and one section after the other.
use Rattle.std.proofs.Common.{◌≡◌, ◌<◌, ◌+◌, ℕ, List, [], ◌∷◌, ◌++◌, length, get_or, take, drop, refl, sym, ap, ◌∙◌}
use Rattle.std.proofs.Common.{append-nil, Option, Some, None, IfSome}
use Rattle.std.proofs.lemmas.Grind.{flat_map-append}
use Rattle.std.proofs.lemmas.List.{map_more}
use Rattle.std.proofs.lemmas.List.Elements.{filter_map-append}
use Rattle.std.specs.Option.{option_to_list}
use Rattle.dvg_named.specs.declared.laid.LaidRows as held_laid
use Rattle.dvg_rows.specs.declared.row.Row as held
use Rattle.dvg_rows.specs.HeldRows.{rows_of}
use Rattle.dvg_named.specs.LaidValues.{laid_section, laid_sections, rows_laid}
use Rattle.dvg_rows.specs.RowPlaces.{names_of}
use Rattle.dvg_named.specs.Places.{IsAddress, Laid}
use Rattle.dvg_rows.specs.RowPlaces.{size}
use Rattle.dvg_named.specs.RomNames.{StandsIn}
use Rattle.dvg_rows.specs.RowValues.{name_of, row_of}
use Rattle.dvg_rows.specs.Rows.{Row}
use Rattle.dvg_rows.proofs.RowNames.{cut_at}
use Rattle.dvg_named.proofs.NamedSections.{map_cut_at}
use Rattle.dvg_named.proofs.NamesMore.{names_more}

-- one row more
pub row_names : (rows : List held.Row) (i : ℕ) (row : held.Row) → i < length rows → row ≡ get_or rows i row
    → names_of (rows_of (take (i + 1) rows)) ≡ names_of (rows_of (take i rows)) ++ option_to_list (name_of row.name)
row_names rows i row low is =
    ap names_of (map_more row_of rows i row low ∙ ap (λ r. rows_of (take i rows) ++ row_of r ∷ []) (sym is))
    ∙ names_more (rows_of (take i rows)) (row_of row)

-- a name is that of the word after those before its row
pub row_address : (rows : List held.Row) (i : ℕ) (row : held.Row) → i < length rows → row ≡ get_or rows i row
    → (laid : List Laid) (start address : ℕ) → StandsIn laid (record { start = start; rows = rows_of rows })
    → address ≡ start + size (rows_of (take i rows)) → IfSome (name_of row.name) (λ name. IsAddress laid name address)
row_address rows i row low is laid start address stands at = by_name (name_of row.name) refl
  where
    by_name : (name : Option (List ℕ)) → name_of row.name ≡ name → IfSome name (λ name. IsAddress laid name address)
    by_name None e = tt
    by_name (Some name) e = record {
      earlier = stands.earlier;
      section = record { start = start; rows = rows_of rows };
      later = stands.later;
      cut = stands.cut;
      before = rows_of (take i rows);
      named = record {
        row = row_of row;
        after = rows_of (drop (i + 1) rows);
        cut = cut_at rows i row low is;
        gives = e;
      };
      place = at;
    }

-- one section more
pub section_names : (sections : List held_laid.LaidRows) (i : ℕ) (section : held_laid.LaidRows) → i < length sections
    → section ≡ get_or sections i section
    → names_of (rows_laid (laid_sections (take (i + 1) sections)))
    ≡ names_of (rows_laid (laid_sections (take i sections))) ++ names_of (rows_of section.rows.now)
section_names sections i section low is =
    ap (λ l. names_of (rows_laid l)) (map_more laid_section sections i section low
    ∙ ap (λ s. laid_sections (take i sections) ++ laid_section s ∷ []) (sym is))
    ∙ ap names_of (flat_map-append (λ (l : Laid). l.rows) (laid_sections (take i sections)) (laid_section section ∷ []))
    ∙ filter_map-append (λ (row : Row). row.name) (rows_laid (laid_sections (take i sections))) (rows_laid (laid_section section ∷ []))
    ∙ ap (λ l. names_of (rows_laid (laid_sections (take i sections))) ++ names_of l) (append-nil (rows_of section.rows.now))

-- it is one of them
pub section_stands : (sections : List held_laid.LaidRows) (i : ℕ) (section : held_laid.LaidRows) → i < length sections
    → section ≡ get_or sections i section → StandsIn (laid_sections sections) (laid_section section)
section_stands sections i section low is = record {
  earlier = laid_sections (take i sections);
  later = laid_sections (drop (i + 1) sections);
  cut = map_cut_at laid_section sections i section low is;
}
