-- Each name that a frame wants is given, where each name that a section wants is.
use Rattle.std.proofs.Common.{◌≡◌, ◌<◌, ℕ, List, [], ◌∷◌, map, All, None, Option, false, get_or, length, subst, sym, Result, Ok, Err}
use Rattle.std.specs.Prelude.{OnOk}
use Rattle.std.specs.Result.{is_err}
use Rattle.std.proofs.lemmas.List.Elements.{All-append, All-cons, All-head, All-nil, All-tail}
use Rattle.std.specs.List.{AllZip, cons_option, filter_map}
use Rattle.dvg_frame.specs.declared.op.OpKind.{OpKind}
use Rattle.dvg_named.specs.declared.frame_rows.FrameRows as held
use Rattle.dvg_named.specs.declared.flat_draft.DraftFault.{DraftFault}
use Rattle.dvg_named.specs.declared.flat_draft.DraftFault.TheVariants.{Memory, UnknownName}
use Rattle.dvg_named.specs.declared.joining.FrameSpan.{FrameSpan}
use Rattle.dvg_named.specs.declared.reading.Reading.{Reading}
use Rattle.dvg_named.specs.FlatDrafts.{StopsDraft}
use Rattle.dvg_named.specs.FirstUnknown.{StopsDrafts, WantsNone, sections_in}
use Rattle.dvg_named.specs.FlatFrames.{IsSpanOf, KnowsNames, StopsFrames, frame_at}
use Rattle.dvg_named.specs.FrameValues.{frame_held, frame_in, frames_of}
use Rattle.dvg_named.specs.Meanings.{IsFrameOf}
use Rattle.dvg_named.specs.SketchFaults.{IsUngiven}
use Rattle.dvg_named.specs.Places.{Laid}
use Rattle.dvg_rows.specs.Rows.{Doing, Head, Row, calls, calls_rom, frame, jumps, jumps_rom, plainly, rom, top}
use Rattle.dvg_named.specs.Sections.{FrameRows, Section, Spelled, frames, sections, top_frame}
use Rattle.dvg_named.specs.Ungiven.{framed}

abbrev Knows : List Laid → FrameRows → Type 0
Knows laid f = WantsNone laid (framed f.rows)

as_frame : (laid : List Laid) (name : Option (List ℕ)) (rows : List Row) (doing : Doing) → IsUngiven laid (framed rows) doing
    → IsUngiven laid (record { head = frame name; rows = rows }) doing
as_frame laid name rows (plainly op) h = h
as_frame laid name rows (calls n) h = h
as_frame laid name rows (jumps n) h = h
as_frame laid name rows (calls_rom n) h = h
as_frame laid name rows (jumps_rom n) h = h

frame_known : (laid : List Laid) (head : Head) (rows : List Row) (others : List FrameRows)
    → WantsNone laid (record { head = head; rows = rows }) → All (Knows laid) others
    → All (Knows laid) (cons_option (frame_in (record { head = head; rows = rows })) others)
frame_known laid top rows others none all = all
frame_known laid (rom address) rows others none all = all
frame_known laid (frame name) rows others none all =
    All-cons (Knows laid) (record { name = name; rows = rows }) others
    (λ place w. none place (record {
      row = w.row;
      stands = w.stands;
      doing = w.doing;
      does = w.does;
      ungiven = as_frame laid name rows w.doing w.ungiven;
    })) all

others_known : (laid : List Laid) (others : List Section) → All (WantsNone laid) others
    → All (Knows laid) (filter_map frame_in others)
others_known laid [] all = All-nil (Knows laid)
others_known laid (section ∷ others) all =
    frame_known laid section.head section.rows (filter_map frame_in others)
    (All-head (WantsNone laid) section others all)
    (others_known laid others (All-tail (WantsNone laid) section others all))

top_known : (laid : List Laid) (rows : List Row) (others : List Section) → WantsNone laid (framed rows)
    → All (Knows laid) (top_frame rows others)
top_known laid [] [] none = All-cons (Knows laid) (record { name = None; rows = [] }) [] none (All-nil (Knows laid))
top_known laid [] (section ∷ others) none = All-nil (Knows laid)
top_known laid (row ∷ rows) others none =
    All-cons (Knows laid) (record { name = None; rows = row ∷ rows }) [] none (All-nil (Knows laid))

pub frames_known : (laid : List Laid) (sketch : Spelled) → All (WantsNone laid) (sections sketch)
    → All (Knows laid) (frames sketch)
frames_known laid sketch all =
    All-append (Knows laid) (top_frame sketch.first sketch.others) (filter_map frame_in sketch.others)
    (top_known laid sketch.first sketch.others
    (All-head (WantsNone laid) (framed sketch.first) sketch.others all))
    (others_known laid sketch.others (All-tail (WantsNone laid) (framed sketch.first) sketch.others all))

-- what is so of frames is so of them as they are held
pub held_frames : (P : FrameRows → Type 0) (found : List held.FrameRows) → All P (frames_of found)
    → All (λ f. P (frame_held f)) found
held_frames P [] all = All-nil (λ (f : held.FrameRows). P (frame_held f))
held_frames P (f ∷ found) all =
    All-cons (λ f. P (frame_held f)) f found (All-head P (frame_held f) (frames_of found) all)
    (held_frames P found (All-tail P (frame_held f) (frames_of found) all))

pub frames_are : (laid : List Laid) (ops : List OpKind) (found : List held.FrameRows) (spans : List FrameSpan)
    → AllZip (IsSpanOf laid ops) found spans → AllZip (IsFrameOf laid) (frames_of found) (map (frame_at ops) spans)
frames_are laid ops [] [] h = tt
frames_are laid ops [] (span ∷ spans) h = absurd h
frames_are laid ops (f ∷ found) [] h = absurd h
frames_are laid ops (f ∷ found) (span ∷ spans) h = (h.0.is, frames_are laid ops found spans h.1)

-- ---- why the drafts of frames aren't made

-- what an answer says where it is no fault
pub ok_then : {X E : Type 0} (r : Result X E) {P : Type 0} → is_err r ≡ false → OnOk r P → P
ok_then (Ok x) ok h = h
ok_then (Err e) ok h = absurd cc

pub frames_stop : (laid : List Laid) (all : List held.FrameRows) (i : ℕ) (found : held.FrameRows) → i < length all
    → found ≡ get_or all i found → (fault : DraftFault) → StopsDraft laid found.rows.now fault → StopsFrames laid all fault
frames_stop laid all i found low is UnknownName h =
    λ known. h (subst (KnowsNames laid) (sym is) (known i found low))
frames_stop laid all i found low is Memory h = tt

-- where a name that a frame wants isn't given, a section wants one that isn't
pub drafts_stop : {A : Type 0} (laid : List Laid) (reading : Reading A) (all : List held.FrameRows) (fault : DraftFault)
    → (All (WantsNone laid) (sections_in reading) → All (KnowsNames laid) all) → StopsFrames laid all fault
    → StopsDrafts laid reading fault
drafts_stop laid reading all UnknownName known h = λ none. h (known none)
drafts_stop laid reading all Memory known h = tt
