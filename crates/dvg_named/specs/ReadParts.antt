-- The sketch that lines spell, as the reader of lines cuts it: the sections before the last one, and that one.
use Rattle.std.specs.Prelude.{◌≡◌, ◌≢◌, ℕ, ◌+◌, max, List, [], ◌∷◌, ◌++◌, Any, get_or}
use Rattle.std.specs.Prelude.{length, false, true, unwrap_or}
use Rattle.std.specs.List.{filter_map, flat_map}
use Rattle.dvg_read.specs.RomTexts.{RomText, first_stated}
use Rattle.dvg_rows.specs.declared.rom_area.RomArea.{RomArea}
use Rattle.dvg_named.specs.SketchFaults.{LiesOn}
use Rattle.dvg_rows.specs.RowPlaces.{names_of}
use Rattle.dvg_named.specs.Places.{free_after, laid}
use Rattle.dvg_rows.specs.RowPlaces.{doings, size}
use Rattle.dvg_rows.specs.Rows.{Head, Row, frame, rom, top}
use Rattle.dvg_named.specs.Sections.{RomRows, Section, Spelled, frames, rom_of, rom_sections}
use Rattle.dvg_named.specs.SketchSteps.{so_far}

-- the rows at the top
abbrev pub first_rows : (closed : List Section) → (last : Section) → List Row
first_rows [] last = last.rows
first_rows (first ∷ others) last = first.rows

-- the sections after the top
abbrev pub later : (closed : List Section) → (last : Section) → List Section
later [] last = []
later (first ∷ others) last = others ++ last ∷ []

-- what was spelled
abbrev pub sketch_of : RomText → (closed : List Section) → (last : Section) → Spelled
sketch_of stated closed last = so_far stated (first_rows closed last) (later closed last)

-- the last section is that at the top exactly where no other is closed
abbrev pub StartsAtTop : (closed : List Section) → (last : Section) → Type 0
StartsAtTop [] last = last.head ≡ top
StartsAtTop (first ∷ others) last = last.head ≢ top

-- the names of all frames
abbrev pub frame_names : Spelled → List (List ℕ)
frame_names sketch = filter_map (λ frame. frame.name) (frames sketch)

-- all names of the ROM
abbrev pub rom_names : Spelled → List (List ℕ)
rom_names sketch = names_of (flat_map (λ section. section.rows) (rom_sections sketch))

-- where the last section is a frame, these are its names, and so many operations it has
abbrev pub KeepsFrame : Head → List Row → (names : List (List ℕ)) → (count : ℕ) → Type 0
KeepsFrame (rom address) rows names count = Unit {0}
KeepsFrame top rows names count = (names ≡ names_of rows) × (count ≡ length (doings rows))
KeepsFrame (frame name) rows names count = (names ≡ names_of rows) × (count ≡ length (doings rows))

-- the first word after these sections and after all that was given before them
abbrev pub free_from : (free : ℕ) → List RomRows → ℕ
free_from free [] = free
free_from free (section ∷ others) =
    free_from (max free (unwrap_or section.address free + size section.rows)) others

-- the first free word before all sections
abbrev pub free_stated : RomText → ℕ
free_stated stated = free_after (first_stated stated.map) stated.given

-- the sections of the ROM among those after the top
abbrev pub front_roms : (closed : List Section) → List RomRows
front_roms [] = []
front_roms (first ∷ others) = filter_map (λ section. rom_of section.head section.rows) others

-- where the last section is of the ROM, its next word is laid here
abbrev pub KeepsNext : RomText → (closed : List Section) → Head → List Row → (next : ℕ) → Type 0
KeepsNext stated closed (rom address) rows next =
    next ≡ unwrap_or address (free_from (free_stated stated) (front_roms closed)) + size rows
KeepsNext stated closed top rows next = Unit {0}
KeepsNext stated closed (frame name) rows next = Unit {0}

-- a section is laid on the word
abbrev pub IsLaidOn : RomText → List RomRows → ℕ → Type 0
IsLaidOn stated sections a = Any (λ section. LiesOn section a) (laid stated sections)

-- those words are taken on which a section is laid
pub record KeepsArea (stated : RomText) (sections : List RomRows) (area : RomArea) : Type 0 where
  pub free : area.free ≡ free_from (free_stated stated) sections
  pub on : (a : ℕ) → IsLaidOn stated sections a → get_or area.is_taken a false ≡ true
  pub only : (a : ℕ) → get_or area.is_taken a false ≡ true → IsLaidOn stated sections a
