-- The sections of the ROM that lines spell may stand there, and lie on its words.
use Rattle.std.proofs.Common.{◌≡◌, ◌+◌, ◌-◌, ◌/◌, ◌⊎◌, ℕ, List, [], ◌∷◌, length, max, unwrap_or, refl, sym, subst, arith, All}
use Rattle.std.proofs.lemmas.List.Elements.{All-cons, All-tail}
use Rattle.std.specs.List.{AllZip, cons_option, filter_map}
use Rattle.dvg_read.specs.RomTexts.{IsRomOf}
use Rattle.dvg_named.specs.declared.laid.LaidRows as held_laid
use Rattle.dvg_named.specs.declared.reading.Reading.{Reading}
use Rattle.dvg_named.specs.GivenRoms.{IsLaidText}
use Rattle.dvg_named.specs.LaidValues.{laid_sections}
use Rattle.dvg_named.specs.SketchFaults.{laid_of}
use Rattle.dvg_named.specs.Places.{Laid, laid_from}
use Rattle.dvg_rows.specs.RowPlaces.{size}
use Rattle.dvg_named.specs.RomBytes.{LieInRom, MayStandInRom}
use Rattle.dvg_named.specs.RomParts.{rom_in}
use Rattle.dvg_rows.specs.Rows.{Head, Row, frame, rom, top}
use Rattle.dvg_named.specs.Sections.{MayStand, RomRows, Section, SpellsSection, rom_sections}
use Rattle.dvg_named.specs.SketchReading.{spelled_in}
use Rattle.dvg_named.proofs.RomWritten.{first_is}

-- ---- what may stand there

abbrev May : RomRows → Type 0
May section = MayStandInRom section.rows

abbrev LaidMay : Laid → Type 0
LaidMay section = MayStandInRom section.rows

may_by : (head : Head) (rows : List Row) (others : List RomRows) → All (MayStand head) rows → All May others
    → All May (cons_option (rom_in (record { head = head; rows = rows })) others)
may_by top rows others may all = all
may_by (frame name) rows others may all = all
may_by (rom address) rows others may all = All-cons May (record { address = address; rows = rows }) others may all

pub sections_may : (sections : List Section) (rest : List (List (List ℕ))) → AllZip SpellsSection sections rest
    → All May (filter_map rom_in sections)
sections_may [] rest h = λ k d low. absurd (omega (arith, low))
sections_may (section ∷ sections) [] h = absurd h
sections_may (section ∷ sections) (ls ∷ rest) h =
    may_by section.head section.rows (filter_map rom_in sections) h.0.may (sections_may sections rest h.1)

pub laid_may : (sections : List RomRows) (free : ℕ) → All May sections → All LaidMay (laid_from free sections)
laid_may [] free all = λ k d low. absurd (omega (arith, low))
laid_may (section ∷ sections) free all =
    let start = unwrap_or section.address free in
    let next = max free (start + size section.rows) in
    All-cons LaidMay (record { start = start; rows = section.rows }) (laid_from next sections)
    (all 0 section (omega arith)) (laid_may sections next (All-tail May section sections all))

module _ {A : Type 0} (reading : Reading A) (laid : List held_laid.LaidRows) (h : IsLaidText reading laid) where
  pub may_stand : All LaidMay (laid_sections laid)
  may_stand =
      let sketch = spelled_in h.reads.rom reading in
      subst (All LaidMay) (sym h.are)
      (laid_may (rom_sections sketch) _ (sections_may sketch.others h.reads.spelled.rest h.reads.spelled.others))

  -- ---- where they lie

  pub rom_size : (bytes : List ℕ) → bytes ≡ reading.rom.bytes.items → (length bytes ≡ 2048) ⊎ (length bytes ≡ 4096)
  rom_size bytes same =
      subst (λ l. (length l ≡ 2048) ⊎ (length l ≡ 4096)) (sym same) h.reads.reads.rom.holds.is_rom.whole.count

  pub lie_in_rom : (bytes : List ℕ) → bytes ≡ reading.rom.bytes.items
      → LieInRom (0xC00 - length bytes / 2) (laid_sections laid)
  lie_in_rom bytes same =
      let stated = h.reads.rom in
      let is_rom = subst (IsRomOf stated) (sym same) h.reads.reads.rom.holds.is_rom in
      let first = first_is stated bytes (0xC00 - length bytes / 2) is_rom (rom_size bytes same) refl in
      subst (LieInRom (0xC00 - length bytes / 2)) (sym h.are)
      (subst (λ n. LieInRom n (laid_of (spelled_in stated reading))) (sym first) h.reads.reads.keeps.limits.rom)
