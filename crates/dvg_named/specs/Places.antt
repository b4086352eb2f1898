-- Where the sections of the ROM are laid, and which of their words a name names.
use Rattle.std.specs.Prelude.{◌≡◌, ℕ, ◌+◌, max, List, [], ◌∷◌, ◌++◌, length, unwrap_or}
use Rattle.dvg_read.specs.RomTexts.{RomLine, RomText, first_stated}
use Rattle.dvg_rows.specs.RowPlaces.{IsNamedAfter, size}
use Rattle.dvg_rows.specs.Rows.{Row}
use Rattle.dvg_named.specs.Sections.{RomRows}

-- rows of the ROM that are laid from this word address on
pub record Laid : Type 0 where
  pub start : ℕ
  pub rows : List Row

-- the word address after them
abbrev pub laid_end : Laid → ℕ
laid_end laid = laid.start + size laid.rows

-- each section is laid from its address on, or else from the word after all that were given before
abbrev pub laid_from : (free : ℕ) → List RomRows → List Laid
laid_from free [] = []
laid_from free (section ∷ others) =
    let laid : Laid = record { start = unwrap_or section.address free; rows = section.rows } in
    laid ∷ laid_from (max free (laid_end laid)) others

-- the first word after those that lines `rom` give: the ROM's first one, where there is none
abbrev pub free_after : (first : ℕ) → List RomLine → ℕ
free_after first [] = first
free_after first (given ∷ others) = max (given.address + length given.words) (free_after first others)

-- the sections of the ROM, laid
abbrev pub laid : RomText → List RomRows → List Laid
laid rom sections = laid_from (free_after (first_stated rom.map) rom.given) sections

-- the name is that of this word address of the ROM
pub record IsAddress (sections : List Laid) (name : List ℕ) (address : ℕ) : Type 0 where
  pub earlier : List Laid
  pub section : Laid
  pub later : List Laid
  pub cut : sections ≡ earlier ++ section ∷ later
  pub before : List Row
  pub named : IsNamedAfter section.rows name before
  pub place : address ≡ section.start + size before
