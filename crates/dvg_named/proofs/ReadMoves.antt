-- What a row more makes of a sketch within the limits.
use Rattle.std.proofs.Common.{◌≡◌, ◌<◌, ◌≤◌, ◌+◌, ◌⊎◌, ℕ, List, [], ◌∷◌, ◌++◌, length, get_or, refl, sym, ap, subst, ◌∙◌, arith}
use Rattle.std.proofs.Common.{All, true, false, Option, None}
use Rattle.std.specs.List.{filter_map, flat_map}
use Rattle.std.specs.Option.{option_to_list}
use Rattle.dvg_read.specs.RomTexts.{RomText}
use Rattle.dvg_rows.specs.declared.rom_area.RomArea.{RomArea}
use Rattle.dvg_rows.specs.FreshNames.{IsAgain, IsFresh}
use Rattle.dvg_named.specs.SketchFaults.{DraftsFit, GivesOnce, LieApart, RomFits}
use Rattle.dvg_rows.specs.RowPlaces.{names_of}
use Rattle.dvg_named.specs.Places.{Laid}
use Rattle.dvg_rows.specs.RowPlaces.{doings, size}
use Rattle.dvg_named.specs.ReadParts.{KeepsArea, KeepsFrame, KeepsNext, StartsAtTop, free_from, free_stated, front_roms, sketch_of}
use Rattle.dvg_rows.specs.RomAreas.{IsFree, Takes}
use Rattle.dvg_named.specs.RomParts.{rom_list}
use Rattle.dvg_named.specs.RowMoves.{IsCounted, IsFrameHead, IsFull}
use Rattle.dvg_rows.specs.Rows.{Head, IsRowLine, Row, frame, rom, top}
use Rattle.dvg_named.specs.Sections.{FrameRows, MayStand, RomRows, Section, Spelled, frames, rom_sections}
use Rattle.dvg_named.specs.SketchReading.{Breaks, KeepsAll}
use Rattle.dvg_named.specs.SketchSteps.{SketchTakes}
use Rattle.dvg_named.proofs.LaidMore.{Apart, Covers, apart_free, apart_longer, free_push, on_longer, only_longer}
use Rattle.dvg_named.proofs.ReadCuts.{frame_list, frames_cut, front_frames, goes_row, roms_cut, starts_with}
use Rattle.dvg_named.proofs.ReadLimits.{IsInRom, IsSmall, Once, Within, drafts_out, drafts_in, framed, laid_all, laid_last, of_rom, once_in, once_out, rom_in, rom_out, apart_in, start_at, within_in, within_out}
use Rattle.dvg_named.proofs.ReadLimits.{counted_more, fits_front, fits_last, frame_row_again, frame_row_full, frame_row_once, frame_row_small, last_fits, rom_names_more, rom_row_again, rom_row_once, row_names}
use Rattle.dvg_named.proofs.NamesMore.{names_more}
use Rattle.dvg_rows.proofs.RowSizes.{size-append}

abbrev part : Head → List Row → Section
part head rows = record { head = head; rows = rows }

abbrev pub name_in : FrameRows → Option (List ℕ)
name_in drawn = drawn.name

abbrev pub all_names : List RomRows → List (List ℕ)
all_names sections = names_of (flat_map (λ section. section.rows) sections)

-- ---- a row more in a frame

module _ (stated : RomText) (closed : List Section) (head : Head) (name : Option (List ℕ)) (rows : List Row) (row : Row)
    (of_frames of_rom_names names : List (List ℕ)) (count : ℕ) (held : RomArea)
    (in_list : (rows : List Row) → frame_list head rows ≡ framed name rows ∷ [])
    (no_rom : (rows : List Row) → rom_list head rows ≡ [])
    (may : MayStand head row)
    (h : KeepsAll stated closed (part head rows) of_frames of_rom_names names count held)
    (kept : (names ≡ names_of rows) × (count ≡ length (doings rows))) where
  abbrev old_frames : List FrameRows
  old_frames = front_frames closed ++ framed name rows ∷ []

  abbrev new_frames : List FrameRows
  new_frames = front_frames closed ++ framed name (rows ++ row ∷ []) ∷ []

  abbrev same_roms : List RomRows
  same_roms = front_roms closed ++ []

  abbrev was : Spelled
  was = sketch_of stated closed (part head rows)

  abbrev is : Spelled
  is = sketch_of stated closed (part head (rows ++ row ∷ []))

  starts : StartsAtTop closed (part head (rows ++ row ∷ []))
  starts = starts_with closed (part head rows) (part head (rows ++ row ∷ [])) refl h.starts

  was_frames : frames was ≡ old_frames
  was_frames = frames_cut stated closed (part head rows) h.starts ∙ ap (λ l. front_frames closed ++ l) (in_list rows)

  is_frames : frames is ≡ new_frames
  is_frames =
      frames_cut stated closed (part head (rows ++ row ∷ [])) starts
      ∙ ap (λ l. front_frames closed ++ l) (in_list (rows ++ row ∷ []))

  was_roms : rom_sections was ≡ same_roms
  was_roms = roms_cut stated closed (part head rows) h.starts ∙ ap (λ l. front_roms closed ++ l) (no_rom rows)

  is_roms : rom_sections is ≡ same_roms
  is_roms =
      roms_cut stated closed (part head (rows ++ row ∷ [])) starts ∙ ap (λ l. front_roms closed ++ l) (no_rom (rows ++ row ∷ []))

  unchanged : rom_sections was ≡ rom_sections is
  unchanged = was_roms ∙ sym is_roms

  within : Within stated old_frames same_roms
  within = within_in was old_frames same_roms was_frames was_roms h.limits

  module _ (fresh : IsFresh names row.name) where
    once : Once new_frames same_roms
    once =
        frame_row_once (front_frames closed) name rows row same_roms within.once
        (subst (λ names. IsFresh names row.name) kept.0 fresh)

    module _ (now : ℕ) (counted : IsCounted count row.doing now) where
      small : All IsSmall new_frames
      small = frame_row_small (front_frames closed) name rows row same_roms count kept.1 now within.drafts counted

      by_frame_row : KeepsFrame head (rows ++ row ∷ []) (names ++ option_to_list row.name) now
          → KeepsNext stated closed head (rows ++ row ∷ []) held.next
          → KeepsAll stated closed (part head (rows ++ row ∷ [])) of_frames of_rom_names (names ++ option_to_list row.name) now held
      by_frame_row in_frame placed = record {
        starts = starts;
        limits = within_out is new_frames same_roms is_frames is_roms
            (record { once = once; drafts = small; rom = within.rom; apart = within.apart });
        frames = h.frames ∙ ap (filter_map name_in) was_frames ∙ row_names (front_frames closed) name rows row same_roms
            ∙ ap (filter_map name_in) (sym is_frames);
        roms = h.roms ∙ ap all_names unchanged;
        frame = in_frame;
        next = placed;
        area = subst (λ sections. KeepsArea stated sections held) unchanged h.area;
      }

    frame_row_fills : (line : List ℕ) → IsRowLine row line → IsFull count row.doing
        → Breaks (λ now. GivesOnce now × (¬ DraftsFit now)) was line
    frame_row_fills line spelled full = record {
      now = is;
      goes = goes_row stated closed (part head rows) row line may spelled;
      breaks = (
        once_out is new_frames same_roms is_frames is_roms once,
        λ fits.
            frame_row_full (front_frames closed) name rows row same_roms count kept.1 full
            (drafts_in is new_frames same_roms is_frames is_roms fits),
      );
    }

  frame_row_twice : (line : List ℕ) → IsRowLine row line → IsAgain names row.name → Breaks (λ now. ¬ GivesOnce now) was line
  frame_row_twice line spelled again = record {
    now = is;
    goes = goes_row stated closed (part head rows) row line may spelled;
    breaks = λ once. frame_row_again (front_frames closed) name rows row same_roms
        (subst (λ names. IsAgain names row.name) kept.0 again) (once_in is new_frames same_roms is_frames is_roms once);
  }

-- the names and the number of operations, with a row more
more_kept : (rows : List Row) (row : Row) (names : List (List ℕ)) (count now : ℕ) → names ≡ names_of rows
    → count ≡ length (doings rows) → IsCounted count row.doing now
    → (names ++ option_to_list row.name ≡ names_of (rows ++ row ∷ [])) × (now ≡ length (doings (rows ++ row ∷ [])))
more_kept rows row names count now e f counted =
    (ap (λ l. l ++ option_to_list row.name) e ∙ sym (names_more rows row), counted_more rows row count now f counted)

module _ (stated : RomText) (closed : List Section) (rows : List Row) (row : Row) (of_frames of_rom_names names : List (List ℕ))
    (count : ℕ) (held : RomArea) where
  pub frame_row : (head : Head) → IsFrameHead head
      → KeepsAll stated closed (part head rows) of_frames of_rom_names names count held → IsFresh names row.name
      → (now : ℕ) → IsCounted count row.doing now
      → KeepsAll stated closed (part head (rows ++ row ∷ [])) of_frames of_rom_names (names ++ option_to_list row.name) now held
  frame_row top head h fresh now counted =
      by_frame_row stated closed top None rows row of_frames of_rom_names names count held (λ rows. refl) (λ rows. refl) tt h
      h.frame fresh now counted (more_kept rows row names count now h.frame.0 h.frame.1 counted) tt
  frame_row (frame name) head h fresh now counted =
      by_frame_row stated closed (frame name) name rows row of_frames of_rom_names names count held (λ rows. refl) (λ rows. refl)
      tt h h.frame fresh now counted (more_kept rows row names count now h.frame.0 h.frame.1 counted) tt
  frame_row (rom address) head h fresh now counted = absurd head

  pub frame_full : (head : Head) → IsFrameHead head
      → KeepsAll stated closed (part head rows) of_frames of_rom_names names count held → IsFresh names row.name
      → (line : List ℕ) → IsRowLine row line → IsFull count row.doing
      → Breaks (λ now. GivesOnce now × (¬ DraftsFit now)) (sketch_of stated closed (part head rows)) line
  frame_full top head h fresh line spelled full =
      frame_row_fills stated closed top None rows row of_frames of_rom_names names count held (λ rows. refl) (λ rows. refl) tt h
      h.frame fresh line spelled full
  frame_full (frame name) head h fresh line spelled full =
      frame_row_fills stated closed (frame name) name rows row of_frames of_rom_names names count held (λ rows. refl)
      (λ rows. refl) tt h h.frame fresh line spelled full
  frame_full (rom address) head h fresh line spelled full = absurd head

  pub frame_twice : (head : Head) → IsFrameHead head
      → KeepsAll stated closed (part head rows) of_frames of_rom_names names count held → IsAgain names row.name
      → (line : List ℕ) → IsRowLine row line
      → Breaks (λ now. ¬ GivesOnce now) (sketch_of stated closed (part head rows)) line
  frame_twice top head h again line spelled =
      frame_row_twice stated closed top None rows row of_frames of_rom_names names count held (λ rows. refl) (λ rows. refl) tt h
      h.frame line spelled again
  frame_twice (frame name) head h again line spelled =
      frame_row_twice stated closed (frame name) name rows row of_frames of_rom_names names count held (λ rows. refl)
      (λ rows. refl) tt h h.frame line spelled again
  frame_twice (rom address) head h again line spelled = absurd head

-- ---- a row more in the ROM

module _ (stated : RomText) (closed : List Section) (address : Option ℕ) (rows : List Row) (row : Row)
    (of_frames of_rom_names names : List (List ℕ)) (count : ℕ) (held : RomArea)
    (h : KeepsAll stated closed (part (rom address) rows) of_frames of_rom_names names count held)
    (may : MayStand (rom address) row) where
  abbrev before : Spelled
  before = sketch_of stated closed (part (rom address) rows)

  abbrev after : Spelled
  after = sketch_of stated closed (part (rom address) (rows ++ row ∷ []))

  abbrev fs : List FrameRows
  fs = front_frames closed ++ []

  abbrev old_roms : List RomRows
  old_roms = front_roms closed ++ of_rom address rows ∷ []

  abbrev new_roms : List RomRows
  new_roms = front_roms closed ++ of_rom address (rows ++ row ∷ []) ∷ []

  abbrev from : ℕ
  from = start_at stated (front_roms closed) address

  still : StartsAtTop closed (part (rom address) (rows ++ row ∷ []))
  still = starts_with closed (part (rom address) rows) (part (rom address) (rows ++ row ∷ [])) refl h.starts

  before_frames : frames before ≡ fs
  before_frames = frames_cut stated closed (part (rom address) rows) h.starts

  after_frames : frames after ≡ fs
  after_frames = frames_cut stated closed (part (rom address) (rows ++ row ∷ [])) still

  before_roms : rom_sections before ≡ old_roms
  before_roms = roms_cut stated closed (part (rom address) rows) h.starts

  after_roms : rom_sections after ≡ new_roms
  after_roms = roms_cut stated closed (part (rom address) (rows ++ row ∷ [])) still

  was_within : Within stated fs old_roms
  was_within = within_in before fs old_roms before_frames before_roms h.limits

  names_are : of_rom_names ≡ all_names old_roms
  names_are = h.roms ∙ ap all_names before_roms

  goes_on : (line : List ℕ) → IsRowLine row line → SketchTakes before line after
  goes_on line spelled = goes_row stated closed (part (rom address) rows) row line may spelled

  pub rom_twice : (line : List ℕ) → IsRowLine row line → IsAgain of_rom_names row.name
      → Breaks (λ now. ¬ GivesOnce now) before line
  rom_twice line spelled again = record {
    now = after;
    goes = goes_on line spelled;
    breaks = λ once. rom_row_again fs (front_roms closed) address rows row
        (subst (λ names. IsAgain names row.name) names_are again) (once_in after fs new_roms after_frames after_roms once);
  }

  longer : size (rows ++ row ∷ []) ≡ size rows + size (row ∷ [])
  longer = size-append rows (row ∷ [])

  module _ (fresh : IsFresh of_rom_names row.name) where
    rom_once : Once fs new_roms
    rom_once =
        rom_row_once fs (front_roms closed) address rows row was_within.once
        (subst (λ names. IsFresh names row.name) names_are fresh)

    gives_once : GivesOnce after
    gives_once = once_out after fs new_roms after_frames after_roms rom_once

    drafts_fit : DraftsFit after
    drafts_fit = drafts_out after fs new_roms after_frames after_roms was_within.drafts

    pub rom_out_of : (line : List ℕ) → IsRowLine row line → 0xC00 < held.next + size (row ∷ [])
        → Breaks (λ now. GivesOnce now × DraftsFit now × (¬ RomFits now)) before line
    rom_out_of line spelled over = record {
      now = after;
      goes = goes_on line spelled;
      breaks = (
        gives_once,
        drafts_fit,
        λ fits.
            let high = (last_fits stated (front_roms closed) address (rows ++ row ∷ []) (rom_in after fs new_roms after_frames after_roms fits)).1 in
            let at = h.next in
            omega (arith, longer, over, high, at),
      );
    }

    module _ (high : held.next + size (row ∷ []) ≤ 0xC00) where
      all_fit : All (IsInRom stated) (laid_all stated new_roms)
      all_fit =
          let low = (last_fits stated (front_roms closed) address rows was_within.rom).0 in
          let at = h.next in
          fits_last stated (front_roms closed) address (rows ++ row ∷ [])
          (fits_front stated (front_roms closed) address rows was_within.rom) low (omega (arith, longer, high, at))

      ends : (now : ℕ) → now ≡ held.next + size (row ∷ []) → now ≡ from + size (rows ++ row ∷ [])
      ends now e = let at = h.next in omega (arith, e, longer, at)

      grows : (now : ℕ) → now ≡ held.next + size (row ∷ []) → from + size rows ≤ now
      grows now e = let at = h.next in omega (arith, e, at)

      abbrev lower : List Laid
      lower = laid_all stated (front_roms closed)

      laid_before : laid_all stated (rom_sections before) ≡ lower ++ record { start = from; rows = rows } ∷ []
      laid_before = ap (laid_all stated) before_roms ∙ laid_last stated (front_roms closed) address rows

      laid_now : laid_all stated (rom_sections after) ≡ lower ++ record { start = from; rows = rows ++ row ∷ [] } ∷ []
      laid_now = ap (laid_all stated) after_roms ∙ laid_last stated (front_roms closed) address (rows ++ row ∷ [])

      on : (a : ℕ) → Covers (lower ++ record { start = from; rows = rows } ∷ []) a → get_or held.is_taken a false ≡ true
      on a covered = h.area.on a (subst (λ l. Covers l a) (sym laid_before) covered)

      only : (a : ℕ) → get_or held.is_taken a false ≡ true → Covers (lower ++ record { start = from; rows = rows } ∷ []) a
      only a is = subst (λ l. Covers l a) laid_before (h.area.only a is)

      pub rom_overlaps : (line : List ℕ) → IsRowLine row line
          → ¬ IsFree held.is_taken held.next (held.next + size (row ∷ []))
          → Breaks (λ now. GivesOnce now × DraftsFit now × RomFits now × (¬ LieApart now)) before line
      rom_overlaps line spelled taken = record {
        now = after;
        goes = goes_on line spelled;
        breaks = (
          gives_once,
          drafts_fit,
          rom_out after fs new_roms after_frames after_roms all_fit,
          λ apart.
              let end = held.next + size (row ∷ []) in
              let free = apart_free lower from rows (rows ++ row ∷ []) held.is_taken end (ends end refl) (grows end refl) on only
              (subst Apart (laid_last stated (front_roms closed) address (rows ++ row ∷ []))
              (apart_in after fs new_roms after_frames after_roms apart)) in
              let at = h.next in
              taken (λ a low below. free a (omega (arith, low, at)) below),
        );
      }

    pub rom_row : (new : RomArea) → Takes (size (row ∷ [])) held new
        → KeepsAll stated closed (part (rom address) (rows ++ row ∷ [])) of_frames (of_rom_names ++ option_to_list row.name) names count new
    rom_row new takes =
        let next = takes.next in
        let top = takes.high in
        let high : held.next + size (row ∷ []) ≤ 0xC00 = omega (arith, next, top) in
        let at = h.next in
        let end = ends high new.next next in
        let grown = grows high new.next next in
        let low : List Laid = lower high in
        let free : IsFree held.is_taken (from + size rows) new.next =
        λ a from_here below. takes.were_free a (omega (arith, from_here, at)) below in
        let marked : (a : ℕ) → from + size rows ≤ a → a < new.next → get_or new.is_taken a false ≡ true =
        λ a from_here below. takes.marked a (omega (arith, from_here, at)) below in
        let others : (a : ℕ) → (a < from + size rows) ⊎ (new.next ≤ a) → get_or new.is_taken a false ≡ get_or held.is_taken a false =
        λ a out. takes.others a (subst (λ n. (a < n) ⊎ (new.next ≤ a)) (sym at) out) in
        record {
          starts = still;
          limits = within_out after fs new_roms after_frames after_roms (record {
            once = rom_once;
            drafts = was_within.drafts;
            rom = all_fit high;
            apart = subst Apart (sym (laid_last stated (front_roms closed) address (rows ++ row ∷ [])))
                (apart_longer low from rows (rows ++ row ∷ []) held.is_taken new.next end grown (on high)
                (subst Apart (laid_last stated (front_roms closed) address rows) was_within.apart) free);
          });
          frames = h.frames ∙ ap (filter_map name_in) (before_frames ∙ sym after_frames);
          roms = ap (λ l. l ++ option_to_list row.name) names_are
              ∙ sym (rom_names_more (front_roms closed) address rows row) ∙ sym (ap all_names after_roms);
          frame = tt;
          next = end;
          area = record {
            free =
                let was = h.area.free ∙ ap (free_from (free_stated stated)) before_roms
                ∙ free_push (front_roms closed) (of_rom address rows) (free_stated stated) in
                let is = ap (free_from (free_stated stated)) after_roms
                ∙ free_push (front_roms closed) (of_rom address (rows ++ row ∷ [])) (free_stated stated) in
                let so = takes.free in
                omega (arith, was, is, so, end, grown);
            on = λ a covered. on_longer low from rows (rows ++ row ∷ []) held.is_taken new.next end grown (on high) (only high)
                new.is_taken marked others a (subst (λ l. Covers l a) (laid_now high) covered);
            only = λ a is. subst (λ l. Covers l a) (sym (laid_now high))
                (only_longer low from rows (rows ++ row ∷ []) held.is_taken new.next end grown (on high) (only high)
                new.is_taken marked others a is);
          };
        }
