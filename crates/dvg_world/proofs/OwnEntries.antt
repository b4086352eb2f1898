-- The log of a trace by its entries.
use Rattle.std.proofs.Common.{◌≡◌, ℕ, zero, suc, List, [], ◌∷◌, ◌++◌, length, map, reverse, slice_get, Some, refl, sym, ap, ◌∙◌, subst, arith, length-append, inl, inr}
use Rattle.std.proofs.lemmas.List.{append-nil, length-map, reverse-append}
use Rattle.std.specs.List.{zip}
use Rattle.std.specs.Prelude.{Bool, true, false, Vec}
use Rattle.dvg_log.specs.Legal.{IsLegal}
use Rattle.dvg_log.specs.Entries.{Shown, shown_of}
use Rattle.dvg_log.specs.own.Owned.{OwnEntry}
use Rattle.dvg_log.specs.Events.{Happening}
use Rattle.dvg_log.specs.Log.{Line, Log, ◌⟼◌, events_of}
use Rattle.dvg_world.specs.Keeping.{Happened, IsEndOf, entries_in}
use Rattle.dvg_world.specs.Wanting.{TakesMemory}
use Rattle.dvg_world.specs.Runs.{IsStop, log_of}
use Rattle.dvg_world.specs.own.Running.{AreOwned}

-- events with their entries, in order
abbrev lines : List Happening → List Shown → List Line
lines (event ∷ events) (entry ∷ entries) = (event ⟼ entry) ∷ lines events entries
lines [] entries = []
lines (event ∷ events) [] = []

lines_zipped : {A : Type 0} (events : List Happening) (entries : List (OwnEntry A))
    → map (λ line. line.0 ⟼ shown_of line.1) (zip events entries) ≡ lines events (map shown_of entries)
lines_zipped [] entries = refl
lines_zipped (event ∷ events) [] = refl
lines_zipped (event ∷ events) (entry ∷ entries) = ap (λ rest. (event ⟼ shown_of entry) ∷ rest) (lines_zipped events entries)

-- one more of each
lines_more : (events : List Happening) (entries : List Shown) (event : Happening) (entry : Shown)
    → length events ≡ length entries
    → lines (events ++ event ∷ []) (entries ++ entry ∷ []) ≡ lines events entries ++ (event ⟼ entry) ∷ []
lines_more [] [] event entry same = refl
lines_more (first ∷ events) (shown ∷ entries) event entry same =
    ap (λ rest. (first ⟼ shown) ∷ rest) (lines_more events entries event entry (omega (arith, same)))
lines_more [] (shown ∷ entries) event entry same = absurd (omega (arith, same))
lines_more (first ∷ events) [] event entry same = absurd (omega (arith, same))

-- later events have none
lines_before : (events later : List Happening) (entries : List Shown) → length events ≡ length entries
    → lines (events ++ later) entries ≡ lines events entries
lines_before [] [] [] same = refl
lines_before [] (event ∷ later) [] same = refl
lines_before (first ∷ events) later (shown ∷ entries) same =
    ap (λ rest. (first ⟼ shown) ∷ rest) (lines_before events later entries (omega (arith, same)))
lines_before [] later (shown ∷ entries) same = absurd (omega (arith, same))
lines_before (first ∷ events) later [] same = absurd (omega (arith, same))

-- a log has as many events as entries
length_entries : (log : Log) → length (entries_in log) ≡ length log
length_entries [] = refl
length_entries ((event ⟼ entry) ∷ log) =
    let more = length-append (entries_in log) (entry ∷ []) in let rest = length_entries log in omega (arith, more, rest)

length_events : (log : Log) → length (reverse (events_of log)) ≡ length log
length_events [] = refl
length_events ((event ⟼ entry) ∷ log) =
    ap length (reverse-append (event ∷ []) (events_of log))
    ∙ (let more = length-append (reverse (events_of log)) (event ∷ []) in
    let rest = length_events log in omega (arith, more, rest))

lines_of : (log : Log) → lines (reverse (events_of log)) (entries_in log) ≡ reverse log
lines_of [] = refl
lines_of ((event ⟼ entry) ∷ log) =
    ap (λ events. lines events (entries_in log ++ entry ∷ [])) (reverse-append (event ∷ []) (events_of log))
    ∙ lines_more (reverse (events_of log)) (entries_in log) event entry (length_events log ∙ sym (length_entries log))
    ∙ ap (λ front. front ++ (event ⟼ entry) ∷ []) (lines_of log)
    ∙ sym (reverse-append ((event ⟼ entry) ∷ []) log)

-- so the log of the entries is that log
log_is : {A : Type 0} (events later : List Happening) (entries : List (OwnEntry A)) (log : Log)
    → events ≡ reverse (events_of log) ++ later → AreOwned entries log → log_of events entries ≡ log
log_is events later entries log order owned =
    ap reverse (lines_zipped events entries ∙ ap (lines events) owned
    ∙ ap (λ events. lines events (entries_in log)) order
    ∙ lines_before (reverse (events_of log)) later (entries_in log) (length_events log ∙ sym (length_entries log))
    ∙ lines_of log)
    ∙ reverse_twice log
  where
    reverse_twice : (log : Log) → reverse (reverse log) ≡ log
    reverse_twice [] = refl
    reverse_twice (line ∷ log) =
        ap reverse (reverse-append (line ∷ []) log) ∙ reverse-append (reverse log) (line ∷ [])
        ∙ ap (λ rest. line ∷ rest) (reverse_twice log)

-- and there are as many
count_is : {A : Type 0} (entries : List (OwnEntry A)) (log : Log) → AreOwned entries log → length entries ≡ length log
count_is entries log owned = sym (length-map entries shown_of) ∙ ap length owned ∙ length_entries log

-- the event after so many others
after_those : (before : List Happening) (event : Happening) (later : List Happening) (n : ℕ) → n ≡ length before
    → slice_get (before ++ event ∷ later) n ≡ Some event
after_those [] event later zero is = refl
after_those [] event later (suc n) is = absurd (omega (arith, is))
after_those (first ∷ before) event later zero is = absurd (omega (arith, is))
after_those (first ∷ before) event later (suc n) is = after_those before event later n (omega (arith, is))

module _ {A : Type 0} {R image : List ℕ} {events : List Happening} where
  pub owned_legal : {is_whole : Bool} (entries : List (OwnEntry A)) → Happened R image events is_whole (AreOwned entries)
      → IsLegal R image (log_of events entries)
  owned_legal entries so = subst (IsLegal R image) (sym (log_is events so.later entries so.log so.in_order so.kept)) so.legal

  pub owned_whole : {is_whole : Bool} (entries : List (OwnEntry A)) → is_whole ≡ true
      → Happened R image events is_whole (AreOwned entries) → length entries ≡ length events
  owned_whole entries whole so =
      let all = subst (λ is_whole. Happened R image events is_whole (AreOwned entries)) whole so in
      let none : all.later ≡ [] = all.ends in
      count_is entries all.log all.kept ∙ sym (length_events all.log)
      ∙ sym (ap length (all.in_order ∙ ap (λ later. reverse (events_of all.log) ++ later) none
      ∙ append-nil (reverse (events_of all.log))))

  pub owned_stop : {is_whole : Bool} (entries : Vec (OwnEntry A) A) (n : ℕ) → n ≡ length entries.items → is_whole ≡ false
      → Happened R image events is_whole (AreOwned entries.items)
      → IsStop R image events (record { entries = entries; event = n })
  owned_stop entries n is stopped so =
      let part = subst (λ is_whole. Happened R image events is_whole (AreOwned entries.items)) stopped so in
      let count = is ∙ count_is entries.items part.log part.kept in
      by part.log part.later count (log_is events part.later entries.items part.log part.in_order part.kept) part.in_order
      part.ends
    where
      by : (log : Log) (later : List Happening) → n ≡ length log → log_of events entries.items ≡ log
          → events ≡ reverse (events_of log) ++ later → IsEndOf false R image log later
          → IsStop R image events (record { entries = entries; event = n })
      by log later count same order (inl none) = inl (count ∙ ap length none)
      by log [] count same order (inr takes) = absurd takes
      by log (event ∷ later) count same order (inr takes) = inr (
        event,
        ap (λ events. slice_get events n) order
            ∙ after_those (reverse (events_of log)) event later n (count ∙ sym (length_events log)),
        subst (λ log. TakesMemory R image log event) (sym same) takes,
      )
