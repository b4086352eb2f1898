-- Lines of events at the head of a text.
use Rattle.std.proofs.Common.{◌≡◌, ◌<◌, ◌≤◌, ◌+◌, ◌*◌, ℕ, zero, suc, List, [], ◌∷◌, ◌++◌, length, get_or, take, min, replicate, refl, sym, ap, subst, ◌∙◌, arith, All, false, eqb, append_assoc, append-nil, length-append, codes, Result, Ok, Err, IfOk, OnOk, OnErr, Option, Some, None, IfSome, lit<}
use Rattle.std.specs.Borrow.{Bor}
use Rattle.std.specs.List.{AllZip}
use Rattle.std.specs.Char.{digit_value}
use Rattle.std.specs.Int.{to_le_bytes, w32}
use Rattle.std.proofs.lemmas.List.{length-replicate, replicate-append-replicate, take_more}
use Rattle.std.proofs.lemmas.List.Elements.{All-append, All-from_recursion, All-nil}
use Rattle.dvg_frame.specs.declared.op.OpKind.{OpKind}
use Rattle.dvg_log.specs.Events.{Happening}
use Rattle.dvg_log.specs.declared.event.Event.TheVariants.{Offer, Redraw, Tick, Strobe, Fetch, ResetGen, ResetCpu, ResetAll}
use Rattle.dvg_read.specs.EventLines.{IsNamed}
use Rattle.dvg_read.specs.Texts.{IsHex, lines}
use Rattle.dvg_read.specs.TraceEvents.{AddsEvents, BeginsWithEvent, HasEvents, IsNameLine, SpellsEvent}
use Rattle.dvg_read.specs.TraceTexts.{EventParts, FitsDraft, FitsTrace}
use Rattle.dvg_read.proofs.EventRows.{named_made, resetall_made}
use Rattle.dvg_read.proofs.FirstBytes.{HasNone, behind}
use Rattle.dvg_read.proofs.Heads.{HasParts, IsPart, halves, last_part, next_part}
use Rattle.dvg_read.proofs.LineEnds.{line_at}
use Rattle.dvg_read.proofs.TraceMoves.{fine_events}

-- ---- names

-- one byte more of those that a text begins with
pub byte_after : (text bytes rest more : List ℕ) (k : ℕ) → k < length bytes → text ≡ take k bytes ++ rest → rest ≡ get_or bytes k 0 ∷ more → text ≡ take (k + 1) bytes ++ more
byte_after text bytes rest more k inside is first =
    is ∙ ap (λ rest. take k bytes ++ rest) first ∙ sym (append_assoc (take k bytes) (get_or bytes k 0 ∷ []) more) ∙ sym (ap (λ front. front ++ more) (take_more bytes k 0 inside))

-- what stands after the letters and the ending of a name
pub after_both : (text then ending : List ℕ) (letters same : ℕ) (answer : Option (Bor (List ℕ))) → text ≡ to_le_bytes w32 letters ++ then → letters ≡ same
    → IfSome answer (λ rest. then ≡ ending ++ rest.now) → IfSome answer (λ rest. text ≡ to_le_bytes w32 same ++ ending ++ rest.now)
after_both text then ending letters same None begins is ends = tt
after_both text then ending letters same (Some rest) begins is ends =
    begins ∙ ap (λ n. to_le_bytes w32 n ++ then) is ∙ ap (λ more. to_le_bytes w32 same ++ more) ends ∙ sym (append_assoc (to_le_bytes w32 same) ending rest.now)

-- no name has a line end
one_line : (event : Happening) (name : List ℕ) → IsNamed event name → HasNone 10 name
one_line (Offer F) name named = absurd named
one_line Redraw name named = rw named (All-from_recursion (λ byte. eqb byte 10 ≡ false) (codes "redraw") (refl, (refl, (refl, (refl, (refl, (refl, tt)))))))
one_line Tick name named = rw named (All-from_recursion (λ byte. eqb byte 10 ≡ false) (codes "tick") (refl, (refl, (refl, (refl, tt)))))
one_line Strobe name named = rw named (All-from_recursion (λ byte. eqb byte 10 ≡ false) (codes "strobe") (refl, (refl, (refl, (refl, (refl, (refl, tt)))))))
one_line Fetch name named = rw named (All-from_recursion (λ byte. eqb byte 10 ≡ false) (codes "fetch") (refl, (refl, (refl, (refl, (refl, tt))))))
one_line ResetGen name named = rw named (All-from_recursion (λ byte. eqb byte 10 ≡ false) (codes "resetgen") (refl, (refl, (refl, (refl, (refl, (refl, (refl, (refl, tt)))))))))
one_line ResetCpu name named = rw named (All-from_recursion (λ byte. eqb byte 10 ≡ false) (codes "resetcpu") (refl, (refl, (refl, (refl, (refl, (refl, (refl, (refl, tt)))))))))
one_line (ResetAll image) name named = absurd named

-- ---- lines of events

no_events : (left : List (List ℕ)) → HasEvents left [] left
no_events left = record { ahead = []; spelled = tt; cut = refl }

one_event : (left rest : List (List ℕ)) (event : Happening) (line : List ℕ) → left ≡ line ∷ rest → SpellsEvent event line → HasEvents left (event ∷ []) rest
one_event left rest event line is h = record { ahead = line ∷ []; spelled = (h, tt); cut = is }

zip_append : (R : Happening → List ℕ → Type 0) (xs more : List Happening) (ys others : List (List ℕ)) → AllZip R xs ys → AllZip R more others → AllZip R (xs ++ more) (ys ++ others)
zip_append R [] more [] others h k = k
zip_append R [] more (y ∷ ys) others h k = absurd h
zip_append R (x ∷ xs) more [] others h k = absurd h
zip_append R (x ∷ xs) more (y ∷ ys) others h k = (h.0, zip_append R xs more ys others h.1 k)

-- lines of events after lines of events
pub events_after : (left then rest : List (List ℕ)) (first more : List Happening) → HasEvents left first then → HasEvents then more rest → HasEvents left (first ++ more) rest
events_after left then rest first more h k = record {
  ahead = h.ahead ++ k.ahead;
  spelled = zip_append SpellsEvent first more h.ahead k.ahead h.spelled k.spelled;
  cut = h.cut ∙ ap (λ ls. h.ahead ++ ls) k.cut ∙ sym (append_assoc h.ahead k.ahead rest);
}

-- the name of an event at a text's head
pub name_event : (text bytes rest : List ℕ) (event : Happening) → IsNameLine event bytes → text ≡ bytes ++ rest → HasEvents (lines text) (event ∷ []) (lines rest)
name_event text bytes rest event h is =
    let cut : text ≡ h.name ++ 10 ∷ rest = is ∙ ap (λ front. front ++ rest) h.ended ∙ append_assoc h.name (10 ∷ []) rest in
    one_event (lines text) (lines rest) event h.name (ap lines cut ∙ line_at h.name 10 rest (one_line event h.name h.named) refl) (named_made event h.name h.named)

-- one more of the same
pub one_more : (left then rest : List (List ℕ)) (event : Happening) (n more : ℕ) → HasEvents left (replicate n event) then → HasEvents then (event ∷ []) rest → more ≡ n + 1 → HasEvents left (replicate more event) rest
one_more left then rest event n more h k is =
    subst (λ events. HasEvents left events rest) (replicate-append-replicate n 1 event ∙ ap (λ n. replicate n event) (sym is)) (events_after left then rest (replicate n event) (event ∷ []) h k)

-- ---- resets

digits_from : (text : List ℕ) (a d : ℕ) → 4 ≤ length text → get_or text 0 0 ≡ a → get_or text 3 0 ≡ d → text ≡ a ∷ get_or text 1 0 ∷ get_or text 2 0 ∷ d ∷ behind 3 text
digits_from [] a d fits is end = absurd (omega arith)
digits_from (w ∷ []) a d fits is end = absurd (omega arith)
digits_from (w ∷ x ∷ []) a d fits is end = absurd (omega arith)
digits_from (w ∷ x ∷ y ∷ []) a d fits is end = absurd (omega arith)
digits_from (w ∷ x ∷ y ∷ z ∷ text) a d fits is end =
    let all : w ∷ x ∷ y ∷ z ∷ text ≡ w ∷ x ∷ y ∷ z ∷ behind 3 (w ∷ x ∷ y ∷ z ∷ text) = halves (w ∷ x ∷ y ∷ z ∷ text) 3 (omega arith) in
    rw (sym is, sym end) all

-- a digit is above the space
digit_above : (byte : ℕ) → digit_value byte < 16 → 32 < byte
digit_above byte h = grind arith

-- two digits and their number
two_digits : (x y high low : ℕ) → high ≡ min 16 (digit_value x) → low ≡ min 16 (digit_value y) → high ≤ 15 → low ≤ 15 → IsHex 2 (16 * high + low) (x ∷ y ∷ [])
two_digits x y high low is_high is_low few small = record { size = refl; digits = (omega arith, (omega arith, tt)); value = omega (arith, is_high, is_low) }

two_parts : (x y high low : ℕ) → high ≡ min 16 (digit_value x) → low ≡ min 16 (digit_value y) → high ≤ 15 → low ≤ 15 → IsPart (x ∷ y ∷ [])
two_parts x y high low is_high is_low few small = All-from_recursion (λ byte. 32 < byte) (x ∷ y ∷ []) (digit_above x (omega arith), (digit_above y (omega arith), tt))

event_made : (text rest : List ℕ) (ps : List (List ℕ)) (event : Happening) → HasParts text ps rest → EventParts (event ∷ []) ps → HasEvents (lines text) (event ∷ []) (lines rest)
event_made text rest ps event h spelled = one_event (lines text) (lines rest) event h.line h.cut (subst (EventParts (event ∷ [])) (sym h.parted) spelled)

reset_parts : (text body digits rest : List ℕ) → text ≡ codes "resetall" ++ body → body ≡ 32 ∷ digits ++ 10 ∷ rest → IsPart digits → HasParts text (codes "resetall" ∷ digits ∷ []) rest
reset_parts text body digits rest named is h =
    let letters = All-from_recursion (λ byte. 32 < byte) (codes "resetall") (lit< tt, (lit< tt, (lit< tt, (lit< tt, (lit< tt, (lit< tt, (lit< tt, (lit< tt, tt)))))))) in
    next_part text (codes "resetall") (digits ++ 10 ∷ rest) rest (digits ∷ []) letters (named ∙ ap (λ body. codes "resetall" ++ body) is) (last_part (digits ++ 10 ∷ rest) digits rest h refl)

pub reset_event : (text body : List ℕ) (high low : ℕ) → text ≡ codes "resetall" ++ body → 4 ≤ length body → get_or body 0 0 ≡ 32 → get_or body 3 0 ≡ 10
    → high ≡ min 16 (digit_value (get_or body 1 0)) → low ≡ min 16 (digit_value (get_or body 2 0)) → high ≤ 15 → low ≤ 15
    → HasEvents (lines text) (ResetAll (replicate 2048 (16 * high + low)) ∷ []) (lines (behind 3 body))
reset_event text body high low named fits space end is_high is_low few small =
    let x = get_or body 1 0 in
    let y = get_or body 2 0 in
    let h = reset_parts text body (x ∷ y ∷ []) (behind 3 body) named (digits_from body 32 10 fits space end) (two_parts x y high low is_high is_low few small) in
    event_made text (behind 3 body) _ _ h (resetall_made (16 * high + low) (codes "resetall") (x ∷ y ∷ []) refl (two_digits x y high low is_high is_low few small))

-- ---- events that are added

first_in : (left rest ahead : List (List ℕ)) (event : Happening) (more : List Happening) → AllZip SpellsEvent (event ∷ more) ahead → left ≡ ahead ++ rest → BeginsWithEvent left
first_in left rest [] event more h cut = absurd h
first_in left rest (line ∷ ahead) event more h cut = record { event = event; rest = ahead ++ rest; ahead = one_event left (ahead ++ rest) event line cut h.0 }

pub begins_run : (left rest : List (List ℕ)) (event : Happening) (n : ℕ) → HasEvents left (replicate n event) rest → 0 < n → BeginsWithEvent left
begins_run left rest event zero h some = absurd (omega arith)
begins_run left rest event (suc n) h some = first_in left rest h.ahead event (replicate n event) h.spelled h.cut

begins_in : (left then ahead : List (List ℕ)) (more : List Happening) → AllZip SpellsEvent more ahead → left ≡ ahead ++ then → BeginsWithEvent then → BeginsWithEvent left
begins_in left then [] [] h cut b = subst BeginsWithEvent (sym cut) b
begins_in left then (line ∷ ahead) [] h cut b = absurd h
begins_in left then ahead (event ∷ more) h cut b = first_in left then ahead event more h cut

pub begins_later : (left then : List (List ℕ)) (old new : List Happening) (n : ℕ) → AddsEvents left old n then new → BeginsWithEvent then → BeginsWithEvent left
begins_later left then old new n a b = begins_in left then a.ahead.ahead a.more a.ahead.spelled a.ahead.cut b

pub adds_nothing : (left : List (List ℕ)) (old : List Happening) → AddsEvents left old 0 left old
adds_nothing left old = record { more = []; ahead = no_events left; added = sym (append-nil old); counted = refl }

pub adds_run : (left rest : List (List ℕ)) (old new : List Happening) (event : Happening) (n : ℕ) → HasEvents left (replicate n event) rest → new ≡ old ++ replicate n event → AddsEvents left old n rest new
adds_run left rest old new event n h is = record { more = replicate n event; ahead = h; added = is; counted = length-replicate n event }

pub adds_no_run : (left rest : List (List ℕ)) (old : List Happening) (event : Happening) (n : ℕ) → HasEvents left (replicate n event) rest → n ≤ 0 → AddsEvents left old n rest old
adds_no_run left rest old event zero h none = adds_run left rest old old event 0 h (sym (append-nil old))
adds_no_run left rest old event (suc n) h none = absurd (omega arith)

pub adds_more : (left then rest : List (List ℕ)) (old mid new : List Happening) (n m total : ℕ) → AddsEvents left old n then mid → AddsEvents then mid m rest new → total ≡ n + m → AddsEvents left old total rest new
adds_more left then rest old mid new n m total a b is = record {
  more = a.more ++ b.more;
  ahead = events_after left then rest a.more b.more a.ahead b.ahead;
  added = b.added ∙ ap (λ events. events ++ b.more) a.added ∙ append_assoc old a.more b.more;
  counted = omega (arith, length-append a.more b.more, a.counted, b.counted, is);
}

pub adds_length : (left rest : List (List ℕ)) (old new : List Happening) (n : ℕ) → AddsEvents left old n rest new → length new ≡ length old + n
adds_length left rest old new n a = omega (arith, ap length a.added, length-append old a.more, a.counted)

pub on_err : {A E : Type 0} (P : Type 0) (answer : Result A E) → P → OnErr answer P
on_err P (Ok x) h = tt
on_err P (Err x) h = h

-- what is added is held

fine_ahead : (more : List Happening) (ahead : List (List ℕ)) → AllZip SpellsEvent more ahead → All FitsDraft more
fine_ahead [] ahead h = All-nil FitsDraft
fine_ahead (event ∷ more) [] h = absurd h
fine_ahead (event ∷ more) (line ∷ ahead) h = All-append FitsDraft (event ∷ []) more (fine_events h.0) (fine_ahead more ahead h.1)

pub adds_fit : {E : Type 0} (answer : Result ℕ E) (left rest : List (List ℕ)) (old new : List Happening) (opened : Option (List OpKind)) → IfOk answer (λ count. AddsEvents left old count rest new) → OnOk answer (length new ≤ 65536) → FitsTrace old opened → OnOk answer (FitsTrace new opened)
adds_fit (Ok count) left rest old new opened a room fits = record { count = room; drafts = subst (All FitsDraft) (sym a.added) (All-append FitsDraft old a.more fits.drafts (fine_ahead a.more a.ahead.ahead a.ahead.spelled)); last = fits.last }
adds_fit (Err x) left rest old new opened a room fits = tt
