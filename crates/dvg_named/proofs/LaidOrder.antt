-- Sections that are laid one after the other.
use Rattle.std.proofs.Common.{◌≡◌, ◌<◌, ◌≤◌, ◌+◌, ℕ, List, [], ◌∷◌, ◌++◌, length, get_or, max, take, drop, refl, sym, ap, ◌∙◌, arith}
use Rattle.std.proofs.Common.{unwrap_or}
use Rattle.std.proofs.lemmas.Grind.{flat_map-append}
use Rattle.std.proofs.lemmas.List.{append-nil, append_assoc, map-append, map_more, take-append-drop}
use Rattle.dvg_read.specs.RomTexts.{RomLine}
use Rattle.dvg_named.specs.declared.laid.LaidRows as held_laid
use Rattle.dvg_named.specs.declared.laid.RomRows as held_rom
use Rattle.dvg_rows.specs.HeldRows.{rows_of}
use Rattle.dvg_named.specs.LaidValues.{laid_section, laid_sections, rows_in, rows_laid, section_of, sections_of}
use Rattle.dvg_named.specs.Places.{Laid, free_after, laid_end, laid_from}
use Rattle.dvg_rows.specs.RowPlaces.{size}
use Rattle.dvg_named.specs.Sections.{RomRows}
use Rattle.dvg_rows.proofs.RowSizes.{size-append}

-- one section more is laid
pub laid_more : (laid : List held_laid.LaidRows) (last : held_laid.LaidRows) (section : RomRows) (next now free : ℕ)
    (done : List RomRows)
    → laid_section last ≡ record { start = unwrap_or section.address next; rows = section.rows }
    → now ≡ max next (laid_end (laid_section last))
    → ((others : List RomRows) → laid_sections laid ++ laid_from next others ≡ laid_from free (done ++ others))
    → (others : List RomRows)
    → laid_sections (laid ++ last ∷ []) ++ laid_from now others ≡ laid_from free ((done ++ section ∷ []) ++ others)
laid_more laid last section next now free done is grown so_far others =
    let first : Laid = record { start = unwrap_or section.address next; rows = section.rows } in
    let step : laid_section last ∷ laid_from now others ≡ laid_from next (section ∷ others) =
    ap (λ (l : Laid). l ∷ laid_from now others) is
    ∙ ap (λ n. first ∷ laid_from n others) (grown ∙ ap (λ (l : Laid). max next (laid_end l)) is) in
    ap (λ l. l ++ laid_from now others) (map-append laid_section laid (last ∷ []))
    ∙ append_assoc (laid_sections laid) (laid_section last ∷ []) (laid_from now others)
    ∙ ap (λ l. laid_sections laid ++ l) step ∙ so_far (section ∷ others)
    ∙ ap (laid_from free) (sym (append_assoc done (section ∷ []) others))

-- the rows of two lists of sections
pub size_in-append : (sections others : List RomRows)
    → size (rows_in (sections ++ others)) ≡ size (rows_in sections) + size (rows_in others)
size_in-append sections others =
    ap size (flat_map-append (λ (section : RomRows). section.rows) sections others)
    ∙ size-append (rows_in sections) (rows_in others)

module _ (sections : List held_rom.RomRows) (i : ℕ) where
  pub sections_more : (section : held_rom.RomRows) → i < length sections → section ≡ get_or sections i section
      → sections_of (take (i + 1) sections) ≡ sections_of (take i sections) ++ section_of section ∷ []
  sections_more section low is =
      map_more section_of sections i section low
      ∙ ap (λ s. sections_of (take i sections) ++ section_of s ∷ []) (sym is)

  -- the rows of one section more
  pub size_in_more : (section : held_rom.RomRows) → i < length sections → section ≡ get_or sections i section
      → size (rows_in (sections_of (take (i + 1) sections)))
      ≡ size (rows_in (sections_of (take i sections))) + size (rows_of section.rows.now)
  size_in_more section low is =
      ap (λ l. size (rows_in l)) (sections_more section low is)
      ∙ size_in-append (sections_of (take i sections)) (section_of section ∷ [])
      ∙ ap (λ l. size (rows_in (sections_of (take i sections))) + size l) (append-nil (rows_of section.rows.now))

  -- the first sections take no more words than all
  pub size_in_front : size (rows_in (sections_of (take i sections))) ≤ size (rows_in (sections_of sections))
  size_in_front =
      let whole : size (rows_in (sections_of sections))
      ≡ size (rows_in (sections_of (take i sections))) + size (rows_in (sections_of (drop i sections))) =
      ap (λ l. size (rows_in l)) (ap sections_of (sym (take-append-drop i sections))
      ∙ map-append section_of (take i sections) (drop i sections))
      ∙ size_in-append (sections_of (take i sections)) (sections_of (drop i sections)) in
      omega (arith, whole)

-- one line more that gives words
pub free_more : (first : ℕ) (given : List RomLine) (line : RomLine)
    → free_after first (given ++ line ∷ []) ≡ max (free_after first given) (line.address + length line.words)
free_more first [] line = omega arith
free_more first (other ∷ given) line =
    let rest = free_more first given line in
    omega (arith, rest)

-- sections that are laid have the rows that they had
pub rows_kept : (sections : List RomRows) (free : ℕ) → rows_laid (laid_from free sections) ≡ rows_in sections
rows_kept [] free = refl
rows_kept (section ∷ sections) free =
    ap (λ l. section.rows ++ l)
    (rows_kept sections (max free (unwrap_or section.address free + size section.rows)))
