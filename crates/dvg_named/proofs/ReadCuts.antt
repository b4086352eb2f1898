-- The frames and the sections of the ROM of a sketch that is cut before its last section.
use Rattle.std.proofs.Common.{◌≡◌, ℕ, List, [], ◌∷◌, ◌++◌, length, refl, sym, ap, subst, ◌∙◌, arith, append_assoc}
use Rattle.std.proofs.Common.{length-append, Option, None}
use Rattle.std.proofs.lemmas.List.{same_from_push}
use Rattle.std.proofs.lemmas.List.Elements.{filter_map-append}
use Rattle.std.specs.List.{filter_map}
use Rattle.dvg_read.specs.RomTexts.{RomText}
use Rattle.dvg_read.specs.RomReading.{TellsRom}
use Rattle.dvg_named.specs.ReadParts.{StartsAtTop, front_roms, sketch_of}
use Rattle.dvg_named.specs.RomParts.{rom_in, rom_list}
use Rattle.dvg_rows.specs.Rows.{Head, IsHeadLine, IsRowLine, Row, frame, rom, top}
use Rattle.dvg_named.specs.Sections.{FrameRows, MayStand, Section, Spelled, frame_of, frames, rom_sections, top_frame}
use Rattle.dvg_named.specs.SketchSteps.{SketchTakes, adds, begins, begun, so_far, tells, tops, with_row}

-- ---- a line more

-- a row in the last section
pub goes_row : (stated : RomText) (closed : List Section) (last : Section) (row : Row) (line : List ℕ) → MayStand last.head row
    → IsRowLine row line → SketchTakes (sketch_of stated closed last) line (sketch_of stated closed (with_row last row))
goes_row stated [] last row line may is = tops row is
goes_row stated (first ∷ others) last row line may is = adds others last row refl may is

-- a section more
pub goes_begin : (stated : RomText) (closed : List Section) (last : Section) (head : Head) (line : List ℕ) → IsHeadLine head line
    → SketchTakes (sketch_of stated closed last) line (sketch_of stated (closed ++ last ∷ []) (begun head))
goes_begin stated [] last head line is = begins head is
goes_begin stated (first ∷ others) last head line is = begins head is

none_ends : {X : Type 0} (front : List X) (x : X) → [] ≡ front ++ x ∷ [] → ⊥
none_ends front x e = omega (arith, ap length e, length-append front (x ∷ []))

top_stops : (stated : RomText) (last : Section) (line : List ℕ) (s t : Spelled) → last.head ≡ top
    → s ≡ so_far stated last.rows [] → (last.rows ≡ [] → (now : RomText) → ¬ TellsRom stated line now)
    → ((head : Head) → ¬ IsHeadLine head line) → ((row : Row) → IsRowLine row line → ¬ MayStand last.head row)
    → SketchTakes s line t → ⊥
top_stops stated last line s t at e no_rom no_head no_row (tells {rom = old} {now = now} g) =
    let rows : last.rows ≡ [] = ap (λ s. s.first) (sym e) in
    let same : old ≡ stated = ap (λ s. s.rom) e in
    no_rom rows now (subst (λ old. TellsRom old line now) same g)
top_stops stated last line s t at e no_rom no_head no_row (tops row is) =
    no_row row is (subst (λ head. MayStand head row) (sym at) tt)
top_stops stated last line s t at e no_rom no_head no_row (adds front section row is_last may is) =
    let none : [] ≡ front ++ section ∷ [] = sym (ap (λ s. s.others) e) ∙ is_last in
    none_ends front section none
top_stops stated last line s t at e no_rom no_head no_row (begins head is) = no_head head is

later_stops : (stated : RomText) (first : Section) (others : List Section) (last : Section) (line : List ℕ) (s t : Spelled)
    → s ≡ so_far stated first.rows (others ++ last ∷ [])
    → ((head : Head) → ¬ IsHeadLine head line) → ((row : Row) → IsRowLine row line → ¬ MayStand last.head row)
    → SketchTakes s line t → ⊥
later_stops stated first others last line s t e no_head no_row (tells g) = none_ends others last (ap (λ s. s.others) e)
later_stops stated first others last line s t e no_head no_row (tops row is) = none_ends others last (ap (λ s. s.others) e)
later_stops stated first others last line s t e no_head no_row (adds front section row is_last may is) =
    let ends : front ++ section ∷ [] ≡ others ++ last ∷ [] = sym is_last ∙ ap (λ s. s.others) e in
    let same = same_from_push front others section last ends in
    no_row row is (subst (λ (section : Section). MayStand section.head row) same.1 may)
later_stops stated first others last line s t e no_head no_row (begins head is) = no_head head is

-- a line with which nothing is spelled
pub nothing_goes : (stated : RomText) (closed : List Section) (last : Section) (line : List ℕ) (t : Spelled) → StartsAtTop closed last
    → (closed ≡ [] → last.rows ≡ [] → (now : RomText) → ¬ TellsRom stated line now)
    → ((head : Head) → ¬ IsHeadLine head line) → ((row : Row) → IsRowLine row line → ¬ MayStand last.head row)
    → ¬ SketchTakes (sketch_of stated closed last) line t
nothing_goes stated [] last line t at no_rom no_head no_row g =
    top_stops stated last line (so_far stated last.rows []) t at refl (no_rom refl) no_head no_row g
nothing_goes stated (first ∷ others) last line t at no_rom no_head no_row g =
    later_stops stated first others last line (so_far stated first.rows (others ++ last ∷ [])) t refl no_head no_row g

-- ---- frames

-- rows as a frame, in a list
abbrev pub frame_list : Head → List Row → List FrameRows
frame_list top rows = record { name = None; rows = rows } ∷ []
frame_list (frame name) rows = record { name = name; rows = rows } ∷ []
frame_list (rom address) rows = []

-- the frame at the top, where it has rows, in a list
abbrev pub top_list : List Row → List FrameRows
top_list [] = []
top_list (row ∷ rows) = record { name = None; rows = row ∷ rows } ∷ []

abbrev frame_in : Section → Option FrameRows
frame_in section = frame_of section.head section.rows

-- the frames before the last section
abbrev pub front_frames : List Section → List FrameRows
front_frames [] = []
front_frames (first ∷ others) = top_list first.rows ++ filter_map frame_in others

pub top_alone : (rows : List Row) → top_frame rows [] ++ [] ≡ record { name = None; rows = rows } ∷ []
top_alone [] = refl
top_alone (row ∷ rows) = refl

pub top_before : (rows : List Row) (others : List Section) (last : Section) → top_frame rows (others ++ last ∷ []) ≡ top_list rows
top_before [] [] last = refl
top_before [] (first ∷ others) last = refl
top_before (row ∷ rows) others last = refl

top_is_list : (head : Head) (rows : List Row) → head ≡ top → top_frame rows [] ++ [] ≡ frame_list head rows
top_is_list top rows e = top_alone rows
top_is_list (frame name) rows e = absurd cc
top_is_list (rom address) rows e = absurd cc

last_frame : (head : Head) (rows : List Row) → (head ≡ top → ⊥)
    → filter_map frame_in (record { head = head; rows = rows } ∷ []) ≡ frame_list head rows
last_frame top rows none = absurd (none refl)
last_frame (frame name) rows none = refl
last_frame (rom address) rows none = refl

frames_end : (others : List Section) (last : Section) → (last.head ≡ top → ⊥)
    → filter_map frame_in (others ++ last ∷ []) ≡ filter_map frame_in others ++ frame_list last.head last.rows
frames_end others last none =
    filter_map-append frame_in others (last ∷ [])
    ∙ ap (λ l. filter_map frame_in others ++ l) (last_frame last.head last.rows none)

pub frames_cut : (stated : RomText) (closed : List Section) (last : Section) → StartsAtTop closed last
    → frames (sketch_of stated closed last) ≡ front_frames closed ++ frame_list last.head last.rows
frames_cut stated [] last at = top_is_list last.head last.rows at
frames_cut stated (first ∷ others) last at =
    ap (λ l. l ++ filter_map frame_in (others ++ last ∷ [])) (top_before first.rows others last)
    ∙ ap (λ l. top_list first.rows ++ l) (frames_end others last at)
    ∙ sym (append_assoc (top_list first.rows) (filter_map frame_in others) (frame_list last.head last.rows))

-- ---- sections of the ROM

top_no_rom : (head : Head) (rows : List Row) → head ≡ top → [] ≡ rom_list head rows
top_no_rom top rows e = refl
top_no_rom (frame name) rows e = refl
top_no_rom (rom address) rows e = absurd cc

pub last_rom : (head : Head) (rows : List Row) → filter_map rom_in (record { head = head; rows = rows } ∷ []) ≡ rom_list head rows
last_rom top rows = refl
last_rom (frame name) rows = refl
last_rom (rom address) rows = refl

roms_end : (others : List Section) (last : Section)
    → filter_map rom_in (others ++ last ∷ []) ≡ filter_map rom_in others ++ rom_list last.head last.rows
roms_end others last =
    filter_map-append rom_in others (last ∷ []) ∙ ap (λ l. filter_map rom_in others ++ l) (last_rom last.head last.rows)

pub roms_cut : (stated : RomText) (closed : List Section) (last : Section) → StartsAtTop closed last
    → rom_sections (sketch_of stated closed last) ≡ front_roms closed ++ rom_list last.head last.rows
roms_cut stated [] last at = top_no_rom last.head last.rows at
roms_cut stated (first ∷ others) last at = roms_end others last

-- ---- one section more is closed

-- frames before a section that begins: those before it, but for the one at the top that has no rows
pub data Closes : List FrameRows → List FrameRows → Type 0 where
  whole : {all now : List FrameRows} → all ≡ now → Closes all now
  without : {all now : List FrameRows} → all ≡ record { name = None; rows = [] } ∷ [] → now ≡ [] → Closes all now

top_closes : (head : Head) (rows : List Row) → head ≡ top → Closes ([] ++ frame_list head rows) (top_list rows ++ [])
top_closes top [] e = without refl refl
top_closes top (row ∷ rows) e = whole refl
top_closes (frame name) rows e = absurd cc
top_closes (rom address) rows e = absurd cc

pub frames_close : (closed : List Section) (last : Section) → StartsAtTop closed last
    → Closes (front_frames closed ++ frame_list last.head last.rows) (front_frames (closed ++ last ∷ []))
frames_close [] last at = top_closes last.head last.rows at
frames_close (first ∷ others) last at =
    whole (append_assoc (top_list first.rows) (filter_map frame_in others) (frame_list last.head last.rows)
    ∙ ap (λ l. top_list first.rows ++ l) (sym (frames_end others last at)))

pub roms_close : (closed : List Section) (last : Section) → StartsAtTop closed last
    → front_roms (closed ++ last ∷ []) ≡ front_roms closed ++ rom_list last.head last.rows
roms_close [] last at = top_no_rom last.head last.rows at
roms_close (first ∷ others) last at = roms_end others last

pub starts_later : (closed : List Section) (last next : Section) → (next.head ≡ top → ⊥) → StartsAtTop (closed ++ last ∷ []) next
starts_later [] last next none = none
starts_later (first ∷ others) last next none = none

pub starts_with : (closed : List Section) (last next : Section) → next.head ≡ last.head → StartsAtTop closed last
    → StartsAtTop closed next
starts_with [] last next same at = same ∙ at
starts_with (first ∷ others) last next same at = λ e. at (sym same ∙ e)
