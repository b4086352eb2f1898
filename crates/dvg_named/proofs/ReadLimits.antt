-- The limits of a sketch, as its frames and the sections of its ROM keep them.
use Rattle.std.proofs.Common.{◌≡◌, ◌≤◌, ◌+◌, ℕ, List, [], ◌∷◌, ◌++◌, length, refl, sym, ap, subst, ◌∙◌, arith}
use Rattle.std.proofs.Common.{append-nil, append_assoc, length-append, unwrap_or, All, Option, Some, None}
use Rattle.std.proofs.lemmas.Grind.{flat_map-append}
use Rattle.std.proofs.lemmas.List.Elements.{All-nil, All-push, filter_map-append}
use Rattle.std.specs.List.{cons_option, filter_map, flat_map}
use Rattle.std.specs.Option.{option_to_list}
use Rattle.dvg_read.specs.RomTexts.{RomText, first_stated}
use Rattle.dvg_rows.specs.FreshNames.{IsAgain, IsFresh}
use Rattle.dvg_named.specs.SketchFaults.{DraftsFit, GivesOnce, KeepsLimits, LieApart, RomFits}
use Rattle.dvg_rows.specs.RowPlaces.{AreDistinct, names_of}
use Rattle.dvg_named.specs.Places.{Laid, laid_end, laid_from}
use Rattle.dvg_rows.specs.RowPlaces.{doings, size}
use Rattle.dvg_named.specs.ReadParts.{free_from, free_stated}
use Rattle.dvg_named.specs.RowMoves.{IsCounted, IsFull}
use Rattle.dvg_rows.specs.Rows.{Doing, Row}
use Rattle.dvg_named.specs.Sections.{FrameRows, RomRows, Spelled, frames, rom_sections}
use Rattle.dvg_named.proofs.LaidMore.{Apart, laid_push}
use Rattle.dvg_named.proofs.NamesMore.{again_breaks, all_front, all_last, as_list, distinct_push, names_more}
use Rattle.dvg_named.proofs.ReadCuts.{Closes, whole, without}

-- ---- the limits of frames and of sections of the ROM

abbrev rows_in : RomRows → List Row
rows_in section = section.rows

abbrev name_in : FrameRows → Option (List ℕ)
name_in frame = frame.name

-- the frame's names are distinct
abbrev pub IsOnce : FrameRows → Type 0
IsOnce frame = AreDistinct (names_of frame.rows)

-- a draft holds the frame
abbrev pub IsSmall : FrameRows → Type 0
IsSmall frame = length (doings frame.rows) ≤ 511

-- the section is laid on words of the ROM
abbrev pub IsInRom : RomText → Laid → Type 0
IsInRom stated section = (first_stated stated.map ≤ section.start) × (laid_end section ≤ 0xC00)

-- sections as they are laid
abbrev pub laid_all : RomText → List RomRows → List Laid
laid_all stated R = laid_from (free_stated stated) R

-- each name is given once
pub record Once (F : List FrameRows) (R : List RomRows) : Type 0 where
  pub in_frames : All IsOnce F
  pub in_rom : AreDistinct (names_of (flat_map rows_in R))
  pub of_frames : AreDistinct (filter_map name_in F)

-- all limits are kept
pub record Within (stated : RomText) (F : List FrameRows) (R : List RomRows) : Type 0 where
  pub once : Once F R
  pub drafts : All IsSmall F
  pub rom : All (IsInRom stated) (laid_all stated R)
  pub apart : Apart (laid_all stated R)

module _ (s : Spelled) (F : List FrameRows) (R : List RomRows) (e : frames s ≡ F) (f : rom_sections s ≡ R) where
  pub once_in : GivesOnce s → Once F R
  once_in h = record {
    in_frames = subst (All IsOnce) e h.in_frames;
    in_rom = subst (λ R. AreDistinct (names_of (flat_map rows_in R))) f h.in_rom;
    of_frames = subst (λ F. AreDistinct (filter_map name_in F)) e h.of_frames;
  }

  pub once_out : Once F R → GivesOnce s
  once_out h = record {
    in_frames = subst (All IsOnce) (sym e) h.in_frames;
    in_rom = subst (λ R. AreDistinct (names_of (flat_map rows_in R))) (sym f) h.in_rom;
    of_frames = subst (λ F. AreDistinct (filter_map name_in F)) (sym e) h.of_frames;
  }

  pub drafts_in : DraftsFit s → All IsSmall F
  drafts_in h = subst (All IsSmall) e h

  pub drafts_out : All IsSmall F → DraftsFit s
  drafts_out h = subst (All IsSmall) (sym e) h

  pub rom_in : RomFits s → All (IsInRom s.rom) (laid_all s.rom R)
  rom_in h = subst (λ R. All (IsInRom s.rom) (laid_all s.rom R)) f h

  pub rom_out : All (IsInRom s.rom) (laid_all s.rom R) → RomFits s
  rom_out h = subst (λ R. All (IsInRom s.rom) (laid_all s.rom R)) (sym f) h

  pub apart_in : LieApart s → Apart (laid_all s.rom R)
  apart_in h = subst (λ R. Apart (laid_all s.rom R)) f h

  pub apart_out : Apart (laid_all s.rom R) → LieApart s
  apart_out h = subst (λ R. Apart (laid_all s.rom R)) (sym f) h

  pub within_in : KeepsLimits s → Within s.rom F R
  within_in h = record { once = once_in h.once; drafts = drafts_in h.drafts; rom = rom_in h.rom; apart = apart_in h.apart }

  pub within_out : Within s.rom F R → KeepsLimits s
  within_out h = record { once = once_out h.once; drafts = drafts_out h.drafts; rom = rom_out h.rom; apart = apart_out h.apart }

-- ---- a row more in a frame

abbrev pub framed : Option (List ℕ) → List Row → FrameRows
framed name rows = record { name = name; rows = rows }

doing_list : (doing : Option Doing) → cons_option doing [] ≡ option_to_list doing
doing_list None = refl
doing_list (Some doing) = refl

-- what rows do with one row more
doings_more : (rows : List Row) (row : Row) → doings (rows ++ row ∷ []) ≡ doings rows ++ option_to_list row.doing
doings_more rows row =
    filter_map-append (λ (row : Row). row.doing) rows (row ∷ []) ∙ ap (λ l. doings rows ++ l) (doing_list row.doing)

counted_by : (doing : Option Doing) (done : List Doing) (count now : ℕ) → count ≡ length done → IsCounted count doing now
    → now ≡ length (done ++ option_to_list doing)
counted_by None done count now e h = h ∙ e ∙ ap length (sym (append-nil done))
counted_by (Some doing) done count now e h = let is = h.0 in omega (arith, is, e, length-append done (doing ∷ []))

pub counted_more : (rows : List Row) (row : Row) (count now : ℕ) → count ≡ length (doings rows) → IsCounted count row.doing now
    → now ≡ length (doings (rows ++ row ∷ []))
counted_more rows row count now e h =
    counted_by row.doing (doings rows) count now e h ∙ ap length (sym (doings_more rows row))

counted_few : (doing : Option Doing) (count now : ℕ) → count ≤ 511 → IsCounted count doing now → now ≤ 511
counted_few None count now low h = omega (arith, low, h)
counted_few (Some doing) count now low h = let is = h.0 in let few = h.1 in omega (arith, is, few)

full_by : (doing : Option Doing) (done : List Doing) (count : ℕ) → count ≡ length done → IsFull count doing
    → length (done ++ option_to_list doing) ≤ 511 → ⊥
full_by None done count e h few = absurd h
full_by (Some doing) done count e h few = omega (arith, h, few, e, length-append done (doing ∷ []))

module _ (front : List FrameRows) (name : Option (List ℕ)) (rows : List Row) (row : Row) (R : List RomRows) where
  same_names : filter_map name_in (front ++ framed name rows ∷ [])
      ≡ filter_map name_in (front ++ framed name (rows ++ row ∷ []) ∷ [])
  same_names =
      filter_map-append name_in front (framed name rows ∷ [])
      ∙ sym (filter_map-append name_in front (framed name (rows ++ row ∷ []) ∷ []))

  pub row_names : filter_map name_in (front ++ framed name rows ∷ [])
      ≡ filter_map name_in (front ++ framed name (rows ++ row ∷ []) ∷ [])
  row_names = same_names

  pub frame_row_once : Once (front ++ framed name rows ∷ []) R → IsFresh (names_of rows) row.name
      → Once (front ++ framed name (rows ++ row ∷ []) ∷ []) R
  frame_row_once h fresh = record {
    in_frames = All-push IsOnce front (framed name (rows ++ row ∷ [])) (all_front IsOnce front (framed name rows ∷ []) h.in_frames)
        (subst AreDistinct (sym (names_more rows row))
        (distinct_push (names_of rows) row.name (all_last IsOnce front (framed name rows) h.in_frames) fresh));
    in_rom = h.in_rom;
    of_frames = subst AreDistinct same_names h.of_frames;
  }

  pub frame_row_again : IsAgain (names_of rows) row.name → Once (front ++ framed name (rows ++ row ∷ []) ∷ []) R → ⊥
  frame_row_again again h =
      again_breaks (names_of rows) row.name again
      (subst AreDistinct (names_more rows row) (all_last IsOnce front (framed name (rows ++ row ∷ [])) h.in_frames))

  module _ (count : ℕ) (is : count ≡ length (doings rows)) where
    pub frame_row_small : (now : ℕ) → All IsSmall (front ++ framed name rows ∷ []) → IsCounted count row.doing now
        → All IsSmall (front ++ framed name (rows ++ row ∷ []) ∷ [])
    frame_row_small now h counted =
        let few = all_last IsSmall front (framed name rows) h in
        let all = counted_more rows row count now is counted in
        let small = counted_few row.doing count now (omega (arith, few, is)) counted in
        All-push IsSmall front (framed name (rows ++ row ∷ [])) (all_front IsSmall front (framed name rows ∷ []) h)
        (omega (arith, all, small))

    pub frame_row_full : IsFull count row.doing → All IsSmall (front ++ framed name (rows ++ row ∷ []) ∷ []) → ⊥
    frame_row_full full h =
        full_by row.doing (doings rows) count is full
        (subst (λ done. length done ≤ 511) (doings_more rows row) (all_last IsSmall front (framed name (rows ++ row ∷ [])) h))

-- ---- a frame more

closed_all : (P : FrameRows → Type 0) (all now : List FrameRows) → Closes all now → All P all → All P now
closed_all P all now (whole e) h = subst (All P) e h
closed_all P all now (without e none) h = subst (All P) (sym none) (All-nil P)

pub closed_names : (all now : List FrameRows) → Closes all now → filter_map name_in now ≡ filter_map name_in all
closed_names all now (whole e) = ap (filter_map name_in) (sym e)
closed_names all now (without e none) = ap (filter_map name_in) none ∙ sym (ap (filter_map name_in) e)

no_names : AreDistinct []
no_names = λ i j d low inside. absurd (omega (arith, low, inside))

-- the frames that are closed are within the limits
pub closed_once : (all now : List FrameRows) (R : List RomRows) → Closes all now → Once all R → Once now R
closed_once all now R closes h = record {
  in_frames = closed_all IsOnce all now closes h.in_frames;
  in_rom = h.in_rom;
  of_frames = subst AreDistinct (sym (closed_names all now closes)) h.of_frames;
}

pub closed_small : (all now : List FrameRows) → Closes all now → All IsSmall all → All IsSmall now
closed_small all now closes h = closed_all IsSmall all now closes h

name_list : (front : List FrameRows) (name : Option (List ℕ)) → filter_map name_in (front ++ framed name [] ∷ [])
    ≡ filter_map name_in front ++ option_to_list name
name_list front name =
    filter_map-append name_in front (framed name [] ∷ []) ∙ ap (λ l. filter_map name_in front ++ l) (as_list name)

pub begun_names : (front : List FrameRows) (name : Option (List ℕ)) → filter_map name_in (front ++ framed name [] ∷ [])
    ≡ filter_map name_in front ++ option_to_list name
begun_names = name_list

pub begun_once : (front : List FrameRows) (name : Option (List ℕ)) (R : List RomRows) → Once front R
    → IsFresh (filter_map name_in front) name → Once (front ++ framed name [] ∷ []) R
begun_once front name R h fresh = record {
  in_frames = All-push IsOnce front (framed name []) h.in_frames no_names;
  in_rom = h.in_rom;
  of_frames = subst AreDistinct (sym (name_list front name)) (distinct_push (filter_map name_in front) name h.of_frames fresh);
}

pub begun_again : (front : List FrameRows) (name : Option (List ℕ)) (R : List RomRows)
    → IsAgain (filter_map name_in front) name → Once (front ++ framed name [] ∷ []) R → ⊥
begun_again front name R again h =
    again_breaks (filter_map name_in front) name again (subst AreDistinct (name_list front name) h.of_frames)

pub begun_small : (front : List FrameRows) (name : Option (List ℕ)) → All IsSmall front
    → All IsSmall (front ++ framed name [] ∷ [])
begun_small front name h = All-push IsSmall front (framed name []) h (omega arith)

-- ---- rows of the ROM

abbrev pub of_rom : Option ℕ → List Row → RomRows
of_rom address rows = record { address = address; rows = rows }

-- the rows of sections with a last one
last_rows : (front : List RomRows) (address : Option ℕ) (rows : List Row)
    → flat_map rows_in (front ++ of_rom address rows ∷ []) ≡ flat_map rows_in front ++ rows
last_rows front address rows =
    flat_map-append rows_in front (of_rom address rows ∷ []) ∙ ap (λ l. flat_map rows_in front ++ l) (append-nil rows)

pub rom_names_more : (front : List RomRows) (address : Option ℕ) (rows : List Row) (row : Row)
    → names_of (flat_map rows_in (front ++ of_rom address (rows ++ row ∷ []) ∷ []))
    ≡ names_of (flat_map rows_in (front ++ of_rom address rows ∷ [])) ++ option_to_list row.name
rom_names_more front address rows row =
    ap names_of (last_rows front address (rows ++ row ∷ []) ∙ sym (append_assoc (flat_map rows_in front) rows (row ∷ [])))
    ∙ names_more (flat_map rows_in front ++ rows) row
    ∙ ap (λ l. names_of l ++ option_to_list row.name) (sym (last_rows front address rows))

pub rom_names_begun : (front : List RomRows) (address : Option ℕ)
    → names_of (flat_map rows_in (front ++ of_rom address [] ∷ [])) ≡ names_of (flat_map rows_in front)
rom_names_begun front address = ap names_of (last_rows front address [] ∙ append-nil (flat_map rows_in front))

module _ (F : List FrameRows) (front : List RomRows) (address : Option ℕ) (rows : List Row) (row : Row) where
  pub rom_row_once : Once F (front ++ of_rom address rows ∷ [])
      → IsFresh (names_of (flat_map rows_in (front ++ of_rom address rows ∷ []))) row.name
      → Once F (front ++ of_rom address (rows ++ row ∷ []) ∷ [])
  rom_row_once h fresh = record {
    in_frames = h.in_frames;
    in_rom = subst AreDistinct (sym (rom_names_more front address rows row))
        (distinct_push (names_of (flat_map rows_in (front ++ of_rom address rows ∷ []))) row.name h.in_rom fresh);
    of_frames = h.of_frames;
  }

  pub rom_row_again : IsAgain (names_of (flat_map rows_in (front ++ of_rom address rows ∷ []))) row.name
      → Once F (front ++ of_rom address (rows ++ row ∷ []) ∷ []) → ⊥
  rom_row_again again h =
      again_breaks (names_of (flat_map rows_in (front ++ of_rom address rows ∷ []))) row.name again
      (subst AreDistinct (rom_names_more front address rows row) h.in_rom)

pub rom_begun_once : (F : List FrameRows) (R : List RomRows) (address : Option ℕ) → Once F R
    → Once F (R ++ of_rom address [] ∷ [])
rom_begun_once F R address h = record {
  in_frames = h.in_frames;
  in_rom = subst AreDistinct (sym (rom_names_begun R address)) h.in_rom;
  of_frames = h.of_frames;
}

-- ---- where they are laid

module _ (stated : RomText) (front : List RomRows) (address : Option ℕ) where
  -- the address of its first word
  abbrev pub start_at : ℕ
  start_at = unwrap_or address (free_from (free_stated stated) front)

  pub laid_last : (rows : List Row) → laid_all stated (front ++ of_rom address rows ∷ [])
      ≡ laid_all stated front ++ record { start = start_at; rows = rows } ∷ []
  laid_last rows = laid_push front (of_rom address rows) (free_stated stated)

  pub fits_last : (rows : List Row) → All (IsInRom stated) (laid_all stated front) → first_stated stated.map ≤ start_at
      → start_at + size rows ≤ 0xC00 → All (IsInRom stated) (laid_all stated (front ++ of_rom address rows ∷ []))
  fits_last rows h low high =
      subst (All (IsInRom stated)) (sym (laid_last rows))
      (All-push (IsInRom stated) (laid_all stated front) (record { start = start_at; rows = rows }) h (low, high))

  pub fits_front : (rows : List Row) → All (IsInRom stated) (laid_all stated (front ++ of_rom address rows ∷ []))
      → All (IsInRom stated) (laid_all stated front)
  fits_front rows h =
      all_front (IsInRom stated) (laid_all stated front) (record { start = start_at; rows = rows } ∷ [])
      (subst (All (IsInRom stated)) (laid_last rows) h)

  pub last_fits : (rows : List Row) → All (IsInRom stated) (laid_all stated (front ++ of_rom address rows ∷ []))
      → (first_stated stated.map ≤ start_at) × (start_at + size rows ≤ 0xC00)
  last_fits rows h =
      all_last (IsInRom stated) (laid_all stated front) (record { start = start_at; rows = rows })
      (subst (All (IsInRom stated)) (laid_last rows) h)
