-- From what is kept of a trace that was read to what is shown of its log.
use Rattle.std.proofs.Common.{◌≡◌, ℕ, ◌+◌, ◌<◌, List, [], ◌∷◌, ◌++◌, map, flat_map, reverse, length, drop, take, get_or, refl, sym, ap, ◌∙◌, subst, suc, Bool, true, false, append_assoc, append-nil, arith}
use Rattle.std.proofs.lemmas.List.{drop_more, length-map, length-reverse, map-append, reverse-append}
use Rattle.std.proofs.lemmas.Grind.{flat_map-append}
use Rattle.dvg_gen.specs.declared.stroke.Stroke.{Stroke}
use Rattle.dvg_log.specs.declared.entry.Entry.TheVariants.{Done}
use Rattle.dvg_log.specs.Entries.{Shown}
use Rattle.dvg_log.specs.Events.{Happening}
use Rattle.dvg_log.specs.Log.{Line, Log, ◌⟼◌, events_of}
use Rattle.dvg_print.specs.Shows.{shown, shown_entry}
use Rattle.dvg_world.specs.declared.pictures.Drawn.{Drawn}
use Rattle.dvg_world.specs.declared.pictures.Picture.{Picture}
use Rattle.dvg_world.specs.declared.logging.Logged.{Logged}
use Rattle.dvg_world.specs.Keeping.{Happened, entries_in, pictures_of}
use Rattle.dvg_world.specs.Kept.{Draws, Logs, picture_seen}
use Rattle.dvg_io.specs.Serving.{OfInput}
use Rattle.dvg_io.proofs.Inputs.{whole}
use Rattle.dvg_read.specs.TraceGives.{GivesTrace}
use Rattle.dvg_tool.specs.Plays.{ArePicturesShown, IsLogged, IsShown, drawn_shown, entry_of, event_of, log_text, logged_shown, picture_text, zeros}
use Rattle.dvg_read.specs.declared.draft_text.TheConstants.{MOST_TEXT_BYTES}

-- the events of a log, oldest first
pub events_shown : (log : Log) → reverse (events_of log) ≡ map event_of (reverse log)
events_shown [] = refl
events_shown ((event ⟼ entry) ∷ log) =
    reverse-append (event ∷ []) (events_of log)
    ∙ ap (λ events. events ++ event ∷ []) (events_shown log)
    ∙ sym (map-append event_of (reverse log) ((event ⟼ entry) ∷ []))
    ∙ ap (map event_of) (sym (reverse-append ((event ⟼ entry) ∷ []) log))

-- one more entry is shown after the others
shown_more : (all : Bool) (number : ℕ) (entries : List Shown) (entry : Shown)
    → shown all number (entries ++ entry ∷ []) ≡ shown all number entries ++ shown_entry all (number + length entries) entry
shown_more all number [] entry =
    let same : number ≡ number + 0 = omega arith in
    append-nil (shown_entry all number entry) ∙ ap (λ k. shown_entry all k entry) same
shown_more all number (first ∷ entries) entry =
    ap (λ l. shown_entry all number first ++ l) (shown_more all (suc number) entries entry)
    ∙ sym (append_assoc (shown_entry all number first) (shown all (suc number) entries) _)
    ∙ ap (λ k. shown_entry all number first ++ shown all (suc number) entries ++ shown_entry all k entry) (omega arith)

entries_count : (log : Log) → length (map entry_of (reverse log)) ≡ length log
entries_count log = length-map (reverse log) entry_of ∙ length-reverse log

-- of a log, one more line
log_more : (all : Bool) (line : Line) (log : Log) → log_text all (line ∷ log) ≡ log_text all log ++ shown_entry all (length log) (entry_of line)
log_more all line log =
    let count : 0 + length (map entry_of (reverse log)) ≡ length log = let same = entries_count log in omega arith in
    ap (λ lines. shown all 0 (map entry_of lines)) (reverse-append (line ∷ []) log)
    ∙ ap (shown all 0) (map-append entry_of (reverse log) (line ∷ []))
    ∙ shown_more all 0 (map entry_of (reverse log)) (entry_of line)
    ∙ ap (λ k. log_text all log ++ shown_entry all k (entry_of line)) count

-- by its newest entry
shown_by : (event : Happening) (entry : Shown) (log : Log) → log_text false log ≡ flat_map picture_text (pictures_of log)
    → log_text false log ++ shown_entry false (length log) entry ≡ flat_map picture_text (pictures_of ((event ⟼ entry) ∷ log))
shown_by event (Done address word strokes) log so_far =
    let picture : ℕ × List Stroke = (length log, strokes) in
    ap (λ l. l ++ picture_text picture) so_far
    ∙ sym (flat_map-append picture_text (pictures_of log) (picture ∷ []) ∙ ap (λ l. flat_map picture_text (pictures_of log) ++ l) (append-nil (picture_text picture)))
shown_by event _ log so_far = append-nil (log_text false log) ∙ so_far

-- what is shown of a log without each entry is the text of its pictures
pub text_of_pictures : (log : Log) → log_text false log ≡ flat_map picture_text (pictures_of log)
text_of_pictures [] = refl
text_of_pictures ((event ⟼ entry) ∷ log) = log_more false (event ⟼ entry) log ∙ shown_by event entry log (text_of_pictures log)

-- what happened by a trace that was read, happened by the input
pub played_so : {read R : List ℕ} {events : List Happening} {is_whole : Bool} {IsKept : Log → Type 0} (all : Bool) (text : List ℕ) (input : List ℕ) → GivesTrace read events R → read ≡ take (MOST_TEXT_BYTES + 1) input
    → Happened R zeros events is_whole IsKept → ((log : Log) → IsKept log → text ≡ log_text all log) → IsShown all is_whole input text
played_so {read} {R} {events} {is_whole} {IsKept} all text input gives e happened shows = record {
  log = happened.log;
  later = happened.later;
  played = record {
    events = events;
    R = R;
    gives = subst (λ text. GivesTrace text events R) (whole MOST_TEXT_BYTES read input e gives.denotes.short) gives;
    legal = happened.legal;
    headline = happened.headline;
    in_order = happened.in_order ∙ ap (λ l. l ++ happened.later) (events_shown happened.log);
  };
  ends = happened.ends;
  holds = shows happened.log happened.kept;
}

-- what is drawn of a trace that was read is drawn of the input
pub finds_drawn : {A : Type 0} (read R : List ℕ) (events : List Happening) (drawn : Drawn A) → GivesTrace read events R → Draws R zeros events drawn
    → OfInput MOST_TEXT_BYTES read (λ input. ArePicturesShown input drawn)
finds_drawn read R events drawn gives draws input e =
    played_so false (drawn_shown drawn) input gives e draws (λ log kept. ap (flat_map picture_text) kept ∙ sym (text_of_pictures log))

-- the entries of a log, as they are shown
entries_shown : (log : Log) → entries_in log ≡ map entry_of (reverse log)
entries_shown [] = refl
entries_shown ((event ⟼ entry) ∷ log) =
    ap (λ entries. entries ++ entry ∷ []) (entries_shown log)
    ∙ sym (map-append entry_of (reverse log) ((event ⟼ entry) ∷ []))
    ∙ ap (map entry_of) (sym (reverse-append ((event ⟼ entry) ∷ []) log))

-- so are its entries
pub finds_logged : {A : Type 0} (read R : List ℕ) (events : List Happening) (logged : Logged A) → GivesTrace read events R → Logs R zeros events logged
    → OfInput MOST_TEXT_BYTES read (λ input. IsLogged input logged)
finds_logged read R events logged gives logs input e =
    played_so true (logged_shown logged) input gives e logs (λ log kept. ap (shown true 0) (kept ∙ entries_shown log))

-- the next picture is that at this index
pub next_picture : {A : Type 0} (pictures : List (Picture A)) (i : ℕ) (picture : Picture A) → i < length pictures → picture ≡ get_or pictures i picture
    → flat_map picture_text (map picture_seen (drop i pictures)) ≡ picture_text (picture_seen picture) ++ flat_map picture_text (map picture_seen (drop (i + 1) pictures))
next_picture pictures i picture low is =
    ap (λ l. flat_map picture_text (map picture_seen l)) (drop_more pictures i picture low ∙ ap (λ p. p ∷ drop (i + 1) pictures) (sym is))
