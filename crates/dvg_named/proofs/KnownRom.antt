-- Where each name that a section wants is given, no row of the ROM wants one that isn't.
use Rattle.std.proofs.Common.{◌+◌, ℕ, List, [], ◌∷◌, sym, subst, All, Option, max, unwrap_or}
use Rattle.std.proofs.lemmas.List.Elements.{All-cons, All-head, All-nil, All-tail}
use Rattle.std.specs.List.{cons_option, filter_map}
use Rattle.dvg_named.specs.declared.laid.LaidRows as held_laid
use Rattle.dvg_named.specs.declared.reading.Reading.{Reading}
use Rattle.dvg_named.specs.FirstUnknown.{WantsNone, sections_in}
use Rattle.dvg_named.specs.GivenRoms.{IsLaidText}
use Rattle.dvg_named.specs.LaidValues.{laid_sections}
use Rattle.dvg_named.specs.SketchFaults.{IsUngiven}
use Rattle.dvg_named.specs.Places.{Laid, laid_from}
use Rattle.dvg_rows.specs.RowPlaces.{size}
use Rattle.dvg_named.specs.RomBytes.{KnowsRom}
use Rattle.dvg_named.specs.RomParts.{rom_in}
use Rattle.dvg_rows.specs.Rows.{Doing, Head, Row, calls, calls_rom, frame, jumps, jumps_rom, plainly, rom, top}
use Rattle.dvg_named.specs.Sections.{RomRows, Section, rom_sections}
use Rattle.dvg_named.specs.SketchReading.{spelled_in}
use Rattle.dvg_named.specs.Ungiven.{framed, in_rom}
use Rattle.dvg_named.proofs.UnknownText.{sections_are}

as_rom : (laid : List Laid) (address : Option ℕ) (rows : List Row) (doing : Doing) → IsUngiven laid (in_rom rows) doing
    → IsUngiven laid (record { head = rom address; rows = rows }) doing
as_rom laid address rows (plainly op) h = h
as_rom laid address rows (calls n) h = h
as_rom laid address rows (jumps n) h = h
as_rom laid address rows (calls_rom n) h = h
as_rom laid address rows (jumps_rom n) h = h

module _ (laid : List Laid) where
  abbrev Knows : RomRows → Type 0
  Knows section = WantsNone laid (in_rom section.rows)

  abbrev LaidKnows : Laid → Type 0
  LaidKnows section = WantsNone laid (in_rom section.rows)

  one_known : (head : Head) (rows : List Row) (others : List RomRows) → WantsNone laid (record { head = head; rows = rows })
      → All Knows others → All Knows (cons_option (rom_in (record { head = head; rows = rows })) others)
  one_known top rows others none all = all
  one_known (frame name) rows others none all = all
  one_known (rom address) rows others none all =
      All-cons Knows (record { address = address; rows = rows }) others
      (λ place w. none place (record {
        row = w.row;
        stands = w.stands;
        doing = w.doing;
        does = w.does;
        ungiven = as_rom laid address rows w.doing w.ungiven;
      })) all

  pub rom_known : (others : List Section) → All (WantsNone laid) others → All Knows (filter_map rom_in others)
  rom_known [] all = All-nil Knows
  rom_known (section ∷ others) all =
      one_known section.head section.rows (filter_map rom_in others) (All-head (WantsNone laid) section others all)
      (rom_known others (All-tail (WantsNone laid) section others all))

  pub laid_known : (roms : List RomRows) (free : ℕ) → All Knows roms → All LaidKnows (laid_from free roms)
  laid_known [] free all = All-nil LaidKnows
  laid_known (section ∷ roms) free all =
      let start = unwrap_or section.address free in
      let next = max free (start + size section.rows) in
      All-cons LaidKnows (record { start = start; rows = section.rows }) (laid_from next roms)
      (All-head Knows section roms all) (laid_known roms next (All-tail Knows section roms all))

pub none_unknown : {A : Type 0} (reading : Reading A) (laid : List held_laid.LaidRows) → IsLaidText reading laid
    → All (WantsNone (laid_sections laid)) (sections_in reading) → KnowsRom (laid_sections laid)
none_unknown reading laid h all =
    let sketch = spelled_in h.reads.rom reading in
    let ls = laid_sections laid in
    let known = subst (All (WantsNone ls))
    (sym (sections_are h.reads.rom reading.closed.items reading.last h.reads.numbered.top)) all in
    subst (All (LaidKnows ls)) (sym h.are)
    (laid_known ls (rom_sections sketch) _
    (rom_known ls sketch.others (All-tail (WantsNone ls) (framed sketch.first) sketch.others known)))
