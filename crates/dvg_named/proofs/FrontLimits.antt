-- What keeps the limits keeps them without its last lines.
use Rattle.std.proofs.Common.{◌≡◌, ◌≢◌, ◌≤◌, ◌+◌, ◌∙◌, ℕ, List, [], ◌∷◌, ◌++◌, All, Option, None, length, ap, append_assoc, append-nil, arith, length-append, refl, subst, sym}
use Rattle.std.proofs.lemmas.Grind.{flat_map-append}
use Rattle.std.proofs.lemmas.List.Elements.{All-cons, All-nil, All-push, filter_map-append}
use Rattle.std.specs.List.{filter_map, flat_map}
use Rattle.std.specs.Option.{option_to_list}
use Rattle.dvg_read.specs.RomTexts.{RomText}
use Rattle.dvg_read.proofs.Steps.{Leads, here, on}
use Rattle.dvg_named.specs.SketchFaults.{KeepsLimits, LiesOn}
use Rattle.dvg_rows.specs.RowPlaces.{AreDistinct, names_of}
use Rattle.dvg_named.specs.Places.{Laid}
use Rattle.dvg_rows.specs.RowPlaces.{doings, size}
use Rattle.dvg_named.specs.ReadParts.{free_stated}
use Rattle.dvg_named.specs.RomParts.{rom_in}
use Rattle.dvg_rows.specs.Rows.{Head, Row, frame, rom, top}
use Rattle.dvg_named.specs.Sections.{FrameRows, RomRows, Section, Spelled, frame_of, frames, rom_sections, top_frame}
use Rattle.dvg_named.specs.SketchSteps.{SketchTakes, adds, begins, begun, so_far, tells, tops, with_row}
use Rattle.dvg_named.proofs.LaidMore.{Apart, apart_from, apart_push, laid_push}
use Rattle.dvg_named.proofs.NamesMore.{all_front, all_last, names_more, pairs_front}
use Rattle.dvg_named.proofs.ReadCuts.{top_alone, top_before, top_list}
use Rattle.dvg_named.proofs.ReadLimits.{IsInRom, IsOnce, IsSmall, Within, framed, laid_all, laid_last, of_rom, rom_names_more, row_names, start_at, within_in, within_out}
use Rattle.dvg_rows.proofs.RowSizes.{size-append}

-- ---- frames, and those after one line more

-- the frame at the top that has no rows is none, once a section begins
data Grows : List FrameRows → List FrameRows → Type 0 where
  same : {few many : List FrameRows} → many ≡ few → Grows few many
  another : {few many : List FrameRows} (next : FrameRows) → many ≡ few ++ next ∷ [] → Grows few many
  longer : {few many : List FrameRows} (front : List FrameRows) (name : Option (List ℕ)) (rows : List Row) (row : Row)
      → few ≡ front ++ framed name rows ∷ [] → many ≡ front ++ framed name (rows ++ row ∷ []) ∷ [] → Grows few many
  bare : {few many : List FrameRows} → few ≡ framed None [] ∷ [] → Grows few many

module _ (P : FrameRows → Type 0) (none : P (framed None []))
    (fewer : (name : Option (List ℕ)) (rows : List Row) (row : Row) → P (framed name (rows ++ row ∷ [])) → P (framed name rows)) where
  all_back : (few many : List FrameRows) → Grows few many → All P many → All P few
  all_back few many (same e) h = subst (All P) e h
  all_back few many (another next e) h = all_front P few (next ∷ []) (subst (All P) e h)
  all_back few many (longer front name rows row e f) h =
      let all = subst (All P) f h in
      subst (All P) (sym e)
      (All-push P front (framed name rows) (all_front P front (framed name (rows ++ row ∷ []) ∷ []) all)
      (fewer name rows row (all_last P front (framed name (rows ++ row ∷ [])) all)))
  all_back few many (bare e) h = subst (All P) (sym e) (All-cons P (framed None []) [] none (All-nil P))

distinct_front : (names more : List (List ℕ)) → AreDistinct (names ++ more) → AreDistinct names
distinct_front = pairs_front (λ name other. name ≢ other)

pub no_names : AreDistinct []
no_names = λ i j d low inside. absurd (omega (arith, low, inside))

once_fewer : (name : Option (List ℕ)) (rows : List Row) (row : Row) → IsOnce (framed name (rows ++ row ∷ []))
    → IsOnce (framed name rows)
once_fewer name rows row h =
    distinct_front (names_of rows) (option_to_list row.name) (subst AreDistinct (names_more rows row) h)

small_fewer : (name : Option (List ℕ)) (rows : List Row) (row : Row) → IsSmall (framed name (rows ++ row ∷ []))
    → IsSmall (framed name rows)
small_fewer name rows row h =
    let all = ap length (filter_map-append (λ (row : Row). row.doing) rows (row ∷ [])) in
    omega (arith, h, all, length-append (doings rows) (doings (row ∷ [])))

abbrev name_in : FrameRows → Option (List ℕ)
name_in source = source.name

names_back : (few many : List FrameRows) → Grows few many → AreDistinct (filter_map name_in many)
    → AreDistinct (filter_map name_in few)
names_back few many (same e) h = subst (λ l. AreDistinct (filter_map name_in l)) e h
names_back few many (another next e) h =
    distinct_front (filter_map name_in few) (filter_map name_in (next ∷ []))
    (subst AreDistinct (ap (filter_map name_in) e ∙ filter_map-append name_in few (next ∷ [])) h)
names_back few many (longer front name rows row e f) h =
    subst AreDistinct (ap (filter_map name_in) f ∙ sym (row_names front name rows row []) ∙ sym (ap (filter_map name_in) e)) h
names_back few many (bare e) h = subst (λ l. AreDistinct (filter_map name_in l)) (sym e) no_names

-- ---- sections of the ROM, and those after one line more

data Extends : List RomRows → List RomRows → Type 0 where
  same : {few many : List RomRows} → many ≡ few → Extends few many
  another : {few many : List RomRows} (next : RomRows) → many ≡ few ++ next ∷ [] → Extends few many
  longer : {few many : List RomRows} (front : List RomRows) (address : Option ℕ) (rows : List Row) (row : Row)
      → few ≡ front ++ of_rom address rows ∷ [] → many ≡ front ++ of_rom address (rows ++ row ∷ []) ∷ [] → Extends few many

abbrev rows_in : RomRows → List Row
rows_in section = section.rows

-- the names of the ROM
abbrev names_in : List RomRows → List (List ℕ)
names_in sections = names_of (flat_map rows_in sections)

rom_names_back : (few many : List RomRows) → Extends few many → AreDistinct (names_in many) → AreDistinct (names_in few)
rom_names_back few many (same e) h = subst (λ l. AreDistinct (names_in l)) e h
rom_names_back few many (another next e) h =
    let all : names_in many ≡ names_in few ++ names_in (next ∷ []) =
    ap names_in e ∙ ap names_of (flat_map-append rows_in few (next ∷ []))
    ∙ filter_map-append (λ (row : Row). row.name) (flat_map rows_in few) (flat_map rows_in (next ∷ [])) in
    distinct_front (names_in few) (names_in (next ∷ [])) (subst AreDistinct all h)
rom_names_back few many (longer front address rows row e f) h =
    subst (λ l. AreDistinct (names_in l)) (sym e)
    (distinct_front (names_in (front ++ of_rom address rows ∷ [])) (option_to_list row.name)
    (subst AreDistinct (ap names_in f ∙ rom_names_more front address rows row) h))

abbrev laid_at : ℕ → List Row → Laid
laid_at start rows = record { start = start; rows = rows }

ends_before : (start : ℕ) (rows : List Row) (row : Row) (end : ℕ) → start + size (rows ++ row ∷ []) ≤ end → start + size rows ≤ end
ends_before start rows row end h = omega (arith, h, size-append rows (row ∷ []))

lies_on_longer : (start : ℕ) (rows : List Row) (row : Row) (a : ℕ) → LiesOn (laid_at start rows) a
    → LiesOn (laid_at start (rows ++ row ∷ [])) a
lies_on_longer start rows row a (low, high) = (low, omega (arith, high, size-append rows (row ∷ [])))

module _ (stated : RomText) where
  fits_back : (few many : List RomRows) → Extends few many → All (IsInRom stated) (laid_all stated many)
      → All (IsInRom stated) (laid_all stated few)
  fits_back few many (same e) h = subst (λ l. All (IsInRom stated) (laid_all stated l)) e h
  fits_back few many (another next e) h =
      all_front (IsInRom stated) (laid_all stated few) _
      (subst (All (IsInRom stated)) (ap (laid_all stated) e ∙ laid_push few next (free_stated stated)) h)
  fits_back few many (longer front address rows row e f) h =
      let start = start_at stated front address in
      let all = subst (All (IsInRom stated)) (ap (laid_all stated) f ∙ laid_last stated front address (rows ++ row ∷ [])) h in
      let last = all_last (IsInRom stated) (laid_all stated front) (laid_at start (rows ++ row ∷ [])) all in
      subst (All (IsInRom stated)) (sym (ap (laid_all stated) e ∙ laid_last stated front address rows))
      (All-push (IsInRom stated) (laid_all stated front) (laid_at start rows)
      (all_front (IsInRom stated) (laid_all stated front) (laid_at start (rows ++ row ∷ []) ∷ []) all)
      (last.0, ends_before start rows row 0xC00 last.1))

  apart_back : (few many : List RomRows) → Extends few many → Apart (laid_all stated many) → Apart (laid_all stated few)
  apart_back few many (same e) h = subst (λ l. Apart (laid_all stated l)) e h
  apart_back few many (another next e) h =
      pairs_front (λ section next. (a : ℕ) → LiesOn section a → ¬ LiesOn next a) (laid_all stated few) _
      (subst Apart (ap (laid_all stated) e ∙ laid_push few next (free_stated stated)) h)
  apart_back few many (longer front address rows row e f) h =
      let start = start_at stated front address in
      let all = subst Apart (ap (laid_all stated) f ∙ laid_last stated front address (rows ++ row ∷ [])) h in
      subst Apart (sym (ap (laid_all stated) e ∙ laid_last stated front address rows))
      (apart_push (laid_all stated front) (laid_at start rows)
      (pairs_front (λ section next. (a : ℕ) → LiesOn section a → ¬ LiesOn next a) (laid_all stated front)
      (laid_at start (rows ++ row ∷ []) ∷ []) all)
      (λ a on. apart_from (laid_all stated front) (laid_at start (rows ++ row ∷ [])) a all (lies_on_longer start rows row a on)))

  within_back : (few many : List FrameRows) (R S : List RomRows) → Grows few many → Extends R S → Within stated many S
      → Within stated few R
  within_back few many R S grows extends h = record {
    once = record {
      in_frames = all_back IsOnce no_names once_fewer few many grows h.once.in_frames;
      in_rom = rom_names_back R S extends h.once.in_rom;
      of_frames = names_back few many grows h.once.of_frames;
    };
    drafts = all_back IsSmall (omega arith) small_fewer few many grows h.drafts;
    rom = fits_back R S extends h.rom;
    apart = apart_back R S extends h.apart;
  }

-- ---- one line more

abbrev frame_in : Section → Option FrameRows
frame_in section = frame_of section.head section.rows

grows_as : (few many less more : List FrameRows) → few ≡ less → many ≡ more → Grows less more → Grows few many
grows_as few many less more e f h = subst (λ l. Grows l many) (sym e) (subst (Grows less) (sym f) h)

extends_as : (few many less more : List RomRows) → few ≡ less → many ≡ more → Extends less more → Extends few many
extends_as few many less more e f h = subst (λ l. Extends l many) (sym e) (subst (Extends less) (sym f) h)

-- a row more in the last section

abbrev having : Head → List Row → Section
having head rows = record { head = head; rows = rows }

frame_longer : (front : List FrameRows) (head : Head) (rows : List Row) (row : Row)
    → Grows (front ++ filter_map frame_in (having head rows ∷ [])) (front ++ filter_map frame_in (having head (rows ++ row ∷ []) ∷ []))
frame_longer front top rows row = same refl
frame_longer front (frame name) rows row = longer front name rows row refl refl
frame_longer front (rom address) rows row = same refl

rom_longer : (front : List RomRows) (head : Head) (rows : List Row) (row : Row)
    → Extends (front ++ filter_map rom_in (having head rows ∷ [])) (front ++ filter_map rom_in (having head (rows ++ row ∷ []) ∷ []))
rom_longer front top rows row = same refl
rom_longer front (frame name) rows row = same refl
rom_longer front (rom address) rows row = longer front address rows row refl refl

frames_with : (first : List Row) (before : List Section) (last : Section)
    → top_frame first (before ++ last ∷ []) ++ filter_map frame_in (before ++ last ∷ [])
    ≡ (top_list first ++ filter_map frame_in before) ++ filter_map frame_in (last ∷ [])
frames_with first before last =
    ap (λ l. l ++ filter_map frame_in (before ++ last ∷ [])) (top_before first before last)
    ∙ ap (λ l. top_list first ++ l) (filter_map-append frame_in before (last ∷ []))
    ∙ sym (append_assoc (top_list first) (filter_map frame_in before) (filter_map frame_in (last ∷ [])))

-- a section more

frame_begun : (few : List FrameRows) (head : Head) → Grows few (few ++ filter_map frame_in (begun head ∷ []))
frame_begun few top = same (append-nil few)
frame_begun few (frame name) = another (framed name []) refl
frame_begun few (rom address) = same (append-nil few)

rom_begun : (few : List RomRows) (head : Head) → Extends few (few ++ filter_map rom_in (begun head ∷ []))
rom_begun few top = same (append-nil few)
rom_begun few (frame name) = same (append-nil few)
rom_begun few (rom address) = another (of_rom address []) refl

frames_begun : (front : List FrameRows) (others : List Section) (head : Head)
    → Grows (front ++ filter_map frame_in others) (front ++ filter_map frame_in (others ++ begun head ∷ []))
frames_begun front others head =
    subst (Grows (front ++ filter_map frame_in others))
    (sym (ap (λ l. front ++ l) (filter_map-append frame_in others (begun head ∷ []))
    ∙ sym (append_assoc front (filter_map frame_in others) (filter_map frame_in (begun head ∷ [])))))
    (frame_begun (front ++ filter_map frame_in others) head)

section_begun : (stated : RomText) (first : List Row) (others : List Section) (head : Head)
    → Grows (frames (so_far stated first others)) (frames (so_far stated first (others ++ begun head ∷ [])))
section_begun stated [] [] head = bare refl
section_begun stated (row ∷ rows) [] head = frames_begun (framed None (row ∷ rows) ∷ []) [] head
section_begun stated [] (section ∷ others) head = frames_begun [] (section ∷ others) head
section_begun stated (row ∷ rows) (section ∷ others) head = frames_begun (framed None (row ∷ rows) ∷ []) (section ∷ others) head

frames_grow : (s t : Spelled) (l : List ℕ) → SketchTakes s l t → Grows (frames s) (frames t)
frames_grow s t l (tells g) = same refl
frames_grow s t l (tops {first = first} row is) = longer [] None first row (top_alone first) (top_alone (first ++ row ∷ []))
frames_grow s t l (adds {rom = stated} {first = first} before section row e may is) =
    subst (λ others. Grows (frames (so_far stated first others)) (frames (so_far stated first (before ++ with_row section row ∷ []))))
    (sym e)
    (grows_as _ _ _ _ (frames_with first before section) (frames_with first before (with_row section row))
    (frame_longer (top_list first ++ filter_map frame_in before) section.head section.rows row))
frames_grow s t l (begins {rom = stated} {first = first} {others = others} head is) = section_begun stated first others head

roms_extend : (s t : Spelled) (l : List ℕ) → SketchTakes s l t → Extends (rom_sections s) (rom_sections t)
roms_extend s t l (tells g) = same refl
roms_extend s t l (tops row is) = same refl
roms_extend s t l (adds before section row e may is) =
    subst (λ others. Extends (filter_map rom_in others) (filter_map rom_in (before ++ with_row section row ∷ []))) (sym e)
    (extends_as _ _ _ _ (filter_map-append rom_in before (section ∷ []))
    (filter_map-append rom_in before (with_row section row ∷ []))
    (rom_longer (filter_map rom_in before) section.head section.rows row))
roms_extend s t l (begins {others = others} head is) =
    subst (Extends (filter_map rom_in others)) (sym (filter_map-append rom_in others (begun head ∷ [])))
    (rom_begun (filter_map rom_in others) head)

-- ---- all lines more

kept_as : (s t : Spelled) → s.rom ≡ t.rom → Grows (frames s) (frames t) → Extends (rom_sections s) (rom_sections t)
    → KeepsLimits t → KeepsLimits s
kept_as s t stated grows extends h =
    within_out s (frames s) (rom_sections s) refl refl
    (subst (λ rom. Within rom (frames s) (rom_sections s)) (sym stated)
    (within_back t.rom (frames s) (frames t) (rom_sections s) (rom_sections t) grows extends
    (within_in t (frames t) (rom_sections t) refl refl h)))

-- without its last line
kept_before : (s t : Spelled) (l : List ℕ) → SketchTakes s l t → KeepsLimits t → KeepsLimits s
kept_before s t l (tells {rom = stated} {now = now} g) h = record {
  once = record { in_frames = h.once.in_frames; in_rom = h.once.in_rom; of_frames = h.once.of_frames };
  drafts = h.drafts;
  rom = All-nil (IsInRom stated);
  apart = λ i j d low inside. absurd (omega (arith, low, inside));
}
kept_before s t l (tops row is) h = kept_as s t refl (frames_grow s t l (tops row is)) (roms_extend s t l (tops row is)) h
kept_before s t l (adds before section row e may is) h =
    kept_as s t refl (frames_grow s t l (adds before section row e may is)) (roms_extend s t l (adds before section row e may is)) h
kept_before s t l (begins head is) h = kept_as s t refl (frames_grow s t l (begins head is)) (roms_extend s t l (begins head is)) h

-- without its last lines
pub limits_front : (s t : Spelled) (ls : List (List ℕ)) → Leads SketchTakes s ls t → KeepsLimits t → KeepsLimits s
limits_front s t [] here h = h
limits_front s t (l ∷ ls) (on {t = mid} g p) h = kept_before s mid l g (limits_front mid t ls p h)
