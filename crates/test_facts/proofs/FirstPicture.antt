-- Row 8.
use Rattle.std.proofs.Common.{◌≡◌, Bool, true, subst, append-nil, ℕ, List, [], ◌∷◌, ◌++◌, map, reverse, length, refl, sym, ap, ◌∙◌, arith}
use Rattle.std.proofs.lemmas.List.{reverse-reverse}
use mathlib.Core.List.{reverse-cons}
use Rattle.std.specs.List.{zip}
use Rattle.dvg_log.specs.Events.{Happening}
use Rattle.dvg_log.specs.Entries.{Shown, shown_of}
use Rattle.dvg_log.specs.own.Owned.{OwnEntry}
use Rattle.dvg_log.specs.Legal.{IsLegal}
use Rattle.dvg_log.specs.Log.{Line, Log, ◌⟼◌, events_of}
use Rattle.dvg_world.specs.Keeping.{Happened, IsEndOf}
use Rattle.dvg_world.specs.Runs.{log_of}
use Rattle.dvg_theorem.proofs.OneLog.{same_log}
use Rattle.dvg_theorem.proofs.Rows.{first_picture as legal_first_picture}
use Rattle.test_facts.specs.Facts.{first_picture_events, first_picture}
use Rattle.dvg_tool.specs.Plays.{zeros}

abbrev entry_of : Line → Shown
entry_of (event ⟼ entry) = entry

abbrev event_of : Line → Happening
event_of (event ⟼ entry) = event

abbrev lines_of : {A : Type 0} → List Happening → List (OwnEntry A) → List Line
lines_of events entries = map (λ line. line.0 ⟼ shown_of line.1) (zip events entries)

entries_listed : {A : Type 0} (events : List Happening) (entries : List (OwnEntry A)) → length entries ≡ length events → map entry_of (lines_of events entries) ≡ map shown_of entries
entries_listed [] [] h = refl
entries_listed (event ∷ events) [] h = absurd (cc)
entries_listed [] (entry ∷ entries) h = absurd (cc)
entries_listed (event ∷ events) (entry ∷ entries) h = ap (λ l. shown_of entry ∷ l) (entries_listed events entries (omega (arith, h)))

events_listed : {A : Type 0} (events : List Happening) (entries : List (OwnEntry A)) → length entries ≡ length events → map event_of (lines_of events entries) ≡ events
events_listed [] [] h = refl
events_listed (event ∷ events) [] h = absurd (cc)
events_listed [] (entry ∷ entries) h = absurd (cc)
events_listed (event ∷ events) (entry ∷ entries) h = ap (λ l. event ∷ l) (events_listed events entries (omega (arith, h)))

events_mapped : (log : Log) → events_of log ≡ map event_of log
events_mapped [] = refl
events_mapped ((event ⟼ entry) ∷ log) = ap (λ l. event ∷ l) (events_mapped log)

-- the first picture, as lines in order
shown_log : {A : Type 0} (R image : List ℕ) (entries : List (OwnEntry A)) (log : Log) → map event_of (reverse log) ≡ first_picture_events → IsLegal R image log
    → length entries ≡ 30 → IsLegal R image (log_of first_picture_events entries) → (events_of (log_of first_picture_events entries) ≡ events_of log) → map shown_of entries ≡ map entry_of (reverse log)
shown_log R image entries log listed legal count legal2 same =
    let is : log_of first_picture_events entries ≡ log = same_log R image (log_of first_picture_events entries) log legal2 legal same in
    sym (entries_listed first_picture_events entries count) ∙ ap (map entry_of) (sym (reverse-reverse (lines_of first_picture_events entries))) ∙ ap (λ l. map entry_of (reverse l)) is

events_append : (one other : List Line) → map event_of (one ++ other) ≡ map event_of one ++ map event_of other
events_append [] other = refl
events_append (line ∷ one) other = ap (λ l. event_of line ∷ l) (events_append one other)

map_reverse_events : (lines : List Line) → map event_of (reverse lines) ≡ reverse (map event_of lines)
map_reverse_events [] = refl
map_reverse_events (line ∷ lines) =
    ap (map event_of) (reverse-cons line lines) ∙ (events_append (reverse lines) (line ∷ []) ∙ (ap (λ l. l ++ event_of line ∷ []) (map_reverse_events lines) ∙ sym (reverse-cons (event_of line) (map event_of lines))))

abbrev paired : List Happening → List Shown → Log
paired (event ∷ events) (entry ∷ entries) = (event ⟼ entry) ∷ paired events entries
paired _ _ = []

abbrev first_picture_log : Log
first_picture_log = reverse (paired first_picture_events first_picture)

pub first_picture_is : {A : Type 0} (entries : List (OwnEntry A)) → length entries ≡ 30 → IsLegal zeros zeros (log_of first_picture_events entries) → map shown_of entries ≡ first_picture
first_picture_is entries count legal =
    shown_log zeros zeros entries first_picture_log refl legal_first_picture count legal
    (events_mapped (log_of first_picture_events entries) ∙ map_reverse_events (lines_of first_picture_events entries) ∙ ap reverse (events_listed first_picture_events entries count))

-- what is kept of these events, where all of them happened, is what is kept of that log
pub kept_of_first_picture : {R image : List ℕ} {events : List Happening} {is_whole : Bool} {IsKept : Log → Type 0} → Happened R image events is_whole IsKept → is_whole ≡ true → R ≡ zeros → image ≡ zeros → events ≡ first_picture_events → IsKept first_picture_log
kept_of_first_picture {R} {image} {events} {is_whole} {IsKept} happened whole rom zero is =
    let log = happened.log in
    let none : happened.later ≡ [] = subst (λ is_whole. IsEndOf is_whole R image log happened.later) whole happened.ends in
    let listed : first_picture_events ≡ reverse (events_of log) = sym is ∙ happened.in_order ∙ ap (λ later. reverse (events_of log) ++ later) none ∙ append-nil (reverse (events_of log)) in
    let same : events_of log ≡ events_of first_picture_log = sym (ap reverse listed ∙ reverse-reverse (events_of log)) in
    let legal : IsLegal zeros zeros log = subst (λ R. IsLegal R zeros log) rom (subst (λ image. IsLegal R image log) zero happened.legal) in
    subst IsKept (same_log zeros zeros log first_picture_log legal legal_first_picture same) happened.kept
