-- What a section that begins makes of a sketch within the limits.
use Rattle.std.proofs.Common.{◌≡◌, ◌<◌, ◌⊎◌, inl, inr, ℕ, List, [], ◌∷◌, ◌++◌, get_or, refl, sym, ap, subst, ◌∙◌, arith}
use Rattle.std.proofs.Common.{append-nil, unwrap_or, All, false, Option}
use Rattle.std.specs.List.{filter_map}
use Rattle.std.specs.Option.{option_to_list}
use Rattle.dvg_read.specs.RomTexts.{RomText, first_stated}
use Rattle.dvg_rows.specs.declared.rom_area.RomArea.{RomArea}
use Rattle.dvg_rows.specs.FreshNames.{IsAgain, IsFresh}
use Rattle.dvg_named.specs.SketchFaults.{DraftsFit, GivesOnce, RomFits}
use Rattle.dvg_named.specs.ReadParts.{KeepsArea, StartsAtTop, free_from, free_stated, front_roms, sketch_of}
use Rattle.dvg_rows.specs.RomAreas.{BeginsAt}
use Rattle.dvg_named.specs.RomParts.{rom_list}
use Rattle.dvg_rows.specs.Rows.{IsHeadLine, frame, rom}
use Rattle.dvg_named.specs.Sections.{FrameRows, RomRows, Section, Spelled, frames, rom_sections}
use Rattle.dvg_named.specs.SketchReading.{Breaks, KeepsAll}
use Rattle.dvg_named.specs.SketchSteps.{begun}
use Rattle.dvg_named.proofs.LaidMore.{Apart, Covers, apart_begun, covers_begun, covers_front, free_push}
use Rattle.dvg_named.proofs.ReadCuts.{frame_list, frames_close, frames_cut, front_frames, goes_begin, roms_close, roms_cut, starts_later}
use Rattle.dvg_named.proofs.ReadLimits.{IsSmall, Once, Within, drafts_out, framed, laid_all, laid_last, of_rom, once_in, once_out, rom_in, start_at, within_in, within_out}
use Rattle.dvg_named.proofs.ReadLimits.{begun_again, begun_names, begun_once, begun_small, closed_names, closed_once, closed_small, fits_last, last_fits, rom_begun_once, rom_names_begun}
use Rattle.dvg_named.proofs.ReadMoves.{all_names, name_in}

-- ---- a section begins

module _ (stated : RomText) (closed : List Section) (last : Section) (of_frames of_rom_names names : List (List ℕ))
    (count : ℕ) (held : RomArea) (h : KeepsAll stated closed last of_frames of_rom_names names count held) where
  abbrev all : Spelled
  all = sketch_of stated closed last

  abbrev all_frames : List FrameRows
  all_frames = front_frames closed ++ frame_list last.head last.rows

  abbrev all_roms : List RomRows
  all_roms = front_roms closed ++ rom_list last.head last.rows

  abbrev front : List FrameRows
  front = front_frames (closed ++ last ∷ [])

  all_frames_are : frames all ≡ all_frames
  all_frames_are = frames_cut stated closed last h.starts

  all_roms_are : rom_sections all ≡ all_roms
  all_roms_are = roms_cut stated closed last h.starts

  all_within : Within stated all_frames all_roms
  all_within = within_in all all_frames all_roms all_frames_are all_roms_are h.limits

  front_names : filter_map name_in front ≡ filter_map name_in all_frames
  front_names = closed_names all_frames front (frames_close closed last h.starts)

  frame_names_are : of_frames ≡ filter_map name_in front
  frame_names_are = h.frames ∙ ap (filter_map name_in) all_frames_are ∙ sym front_names

  front_once : Once front all_roms
  front_once = closed_once all_frames front all_roms (frames_close closed last h.starts) all_within.once

  front_small : All IsSmall front
  front_small = closed_small all_frames front (frames_close closed last h.starts) all_within.drafts

  -- ---- a frame

  module _ (name : Option (List ℕ)) where
    abbrev with_frame : Spelled
    with_frame = sketch_of stated (closed ++ last ∷ []) (begun (frame name))

    abbrev grown_frames : List FrameRows
    grown_frames = front ++ framed name [] ∷ []

    frame_starts : StartsAtTop (closed ++ last ∷ []) (begun (frame name))
    frame_starts = starts_later closed last (begun (frame name)) (λ e. absurd cc)

    frames_now : frames with_frame ≡ grown_frames
    frames_now = frames_cut stated (closed ++ last ∷ []) (begun (frame name)) frame_starts

    roms_now : rom_sections with_frame ≡ all_roms
    roms_now =
        roms_cut stated (closed ++ last ∷ []) (begun (frame name)) frame_starts
        ∙ append-nil (front_roms (closed ++ last ∷ [])) ∙ roms_close closed last h.starts

    pub begun_twice : (line : List ℕ) → IsHeadLine (frame name) line → IsAgain of_frames name
        → Breaks (λ now. ¬ GivesOnce now) all line
    begun_twice line spelled again = record {
      now = with_frame;
      goes = goes_begin stated closed last (frame name) line spelled;
      breaks = λ once. begun_again front name all_roms (subst (λ names. IsAgain names name) frame_names_are again)
          (once_in with_frame grown_frames all_roms frames_now roms_now once);
    }

    pub begun_frame : IsFresh of_frames name
        → KeepsAll stated (closed ++ last ∷ []) (begun (frame name)) (of_frames ++ option_to_list name) of_rom_names [] 0 held
    begun_frame fresh = record {
      starts = frame_starts;
      limits = within_out with_frame grown_frames all_roms frames_now roms_now (record {
        once = begun_once front name all_roms front_once (subst (λ names. IsFresh names name) frame_names_are fresh);
        drafts = begun_small front name front_small;
        rom = all_within.rom;
        apart = all_within.apart;
      });
      frames = ap (λ l. l ++ option_to_list name) frame_names_are ∙ sym (begun_names front name)
          ∙ sym (ap (filter_map name_in) frames_now);
      roms = h.roms ∙ ap all_names (all_roms_are ∙ sym roms_now);
      frame = (refl, refl);
      next = tt;
      area = subst (λ sections. KeepsArea stated sections held) (all_roms_are ∙ sym roms_now) h.area;
    }

  -- ---- a section of the ROM

  module _ (address : Option ℕ) where
    abbrev with_rom : Spelled
    with_rom = sketch_of stated (closed ++ last ∷ []) (begun (rom address))

    abbrev grown_roms : List RomRows
    grown_roms = all_roms ++ of_rom address [] ∷ []

    rom_starts : StartsAtTop (closed ++ last ∷ []) (begun (rom address))
    rom_starts = starts_later closed last (begun (rom address)) (λ e. absurd cc)

    frames_with : frames with_rom ≡ front
    frames_with =
        frames_cut stated (closed ++ last ∷ []) (begun (rom address)) rom_starts ∙ append-nil front

    roms_with : rom_sections with_rom ≡ grown_roms
    roms_with =
        roms_cut stated (closed ++ last ∷ []) (begun (rom address)) rom_starts
        ∙ ap (λ l. l ++ of_rom address [] ∷ []) (roms_close closed last h.starts)

    is_start : unwrap_or address held.free ≡ start_at stated all_roms address
    is_start = ap (unwrap_or address) (h.area.free ∙ ap (free_from (free_stated stated)) all_roms_are)

    rom_gives_once : GivesOnce with_rom
    rom_gives_once =
        once_out with_rom front grown_roms frames_with roms_with (rom_begun_once front all_roms address front_once)

    rom_drafts_fit : DraftsFit with_rom
    rom_drafts_fit = drafts_out with_rom front grown_roms frames_with roms_with front_small

    pub begun_out : (line : List ℕ) → IsHeadLine (rom address) line → (first : ℕ) → first ≡ first_stated stated.map
        → (unwrap_or address held.free < first) ⊎ (0xC00 < unwrap_or address held.free)
        → Breaks (λ now. GivesOnce now × DraftsFit now × (¬ RomFits now)) all line
    begun_out line spelled first e out = record {
      now = with_rom;
      goes = goes_begin stated closed last (rom address) line spelled;
      breaks = (
        rom_gives_once,
        rom_drafts_fit,
        λ fits.
            let last = last_fits stated all_roms address [] (rom_in with_rom front grown_roms frames_with roms_with fits) in
            let low = last.0 in
            let high = last.1 in
            let at = is_start in
            elim out [ inl below ↦ omega (arith, below, low, at, e) | inr above ↦ omega (arith, above, high, at) ],
      );
    }

    pub begun_rom : (first : ℕ) → first ≡ first_stated stated.map → (new : RomArea) → BeginsAt first address held new
        → KeepsAll stated (closed ++ last ∷ []) (begun (rom address)) of_frames of_rom_names [] 0 new
    begun_rom first e new begins =
        let at : new.next ≡ start_at stated all_roms address = begins.next ∙ is_start in
        let low = begins.low in
        let high = begins.high in
        let laid = ap (laid_all stated) roms_with ∙ laid_last stated all_roms address [] in
        let was = ap (laid_all stated) all_roms_are in
        record {
          starts = rom_starts;
          limits = within_out with_rom front grown_roms frames_with roms_with (record {
            once = rom_begun_once front all_roms address front_once;
            drafts = front_small;
            rom = fits_last stated all_roms address [] all_within.rom (omega (arith, low, at, e)) (omega (arith, high, at));
            apart = subst Apart (sym (laid_last stated all_roms address []))
                (apart_begun (laid_all stated all_roms) (start_at stated all_roms address) all_within.apart);
          });
          frames = frame_names_are ∙ sym (ap (filter_map name_in) frames_with);
          roms = h.roms ∙ ap all_names all_roms_are ∙ sym (rom_names_begun all_roms address) ∙ sym (ap all_names roms_with);
          frame = tt;
          next =
              let place : start_at stated (front_roms (closed ++ last ∷ [])) address ≡ start_at stated all_roms address =
              ap (λ l. start_at stated l address) (roms_close closed last h.starts) in
              omega (arith, at, place);
          area = record {
            free =
                let so = begins.free in
                let is = ap (free_from (free_stated stated)) roms_with ∙ free_push all_roms (of_rom address []) (free_stated stated) in
                let free = h.area.free ∙ ap (free_from (free_stated stated)) all_roms_are in
                omega (arith, so, is, free, at);
            on = λ a covered.
                ap (λ l. get_or l a false) begins.taken
                ∙ h.area.on a (subst (λ l. Covers l a) (sym was)
                (covers_begun (laid_all stated all_roms) (start_at stated all_roms address) a (subst (λ l. Covers l a) laid covered)));
            only = λ a is.
                subst (λ l. Covers l a) (sym laid)
                (covers_front (laid_all stated all_roms) (record { start = start_at stated all_roms address; rows = [] }) a
                (subst (λ l. Covers l a) was (h.area.only a (sym (ap (λ l. get_or l a false) begins.taken) ∙ is))));
          };
        }
