-- After a flip the strobe was sent, or is sent by two ticks at which no run is open.
use Rattle.std.proofs.Common.{◌≡◌, ℕ, suc, ◌≤◌, Bool, true, false, List, [], ◌∷◌, ◌++◌, Some, None, refl, sym, ap, ◌∙◌, subst, arith}
use Rattle.std.specs.Prelude.{is_none, if◌then◌else◌}
use Rattle.std.proofs.lemmas.Bool.{true≢false}
use Rattle.dvg_driver.specs.declared.action.Action.TheVariants.{Sent}
use Rattle.dvg_driver.specs.Place.{Waiting, Sending, place_of_life}
use Rattle.dvg_log.specs.Events.{Happening}
use Rattle.dvg_log.specs.declared.event.Event.TheVariants.{Tick, ResetAll}
use Rattle.dvg_log.specs.Entries.{Shown}
use Rattle.dvg_log.specs.declared.entry.Entry.TheVariants.{Acted}
use Rattle.dvg_log.specs.Log.{◌⟼◌, Log, Throughout, open_run, life, strobed}
use Rattle.dvg_log.specs.Legal.{IsLegal}
use Rattle.dvg_progress.specs.Progress.{ticks}
use Rattle.dvg_progress.proofs.Lives.{LivesOn, quiet}
use Rattle.dvg_progress.proofs.Newest.{NotStrobe, none_stays}
use Rattle.dvg_progress.proofs.StrobeAfterFlip.{waits, sends, waiting_busy, sending_busy}

-- the strobe was sent, or the driver is about to, after at most this many ticks that found no run open
pub data Ready (image : List ℕ) (log : Log) (count : ℕ) : Type 0 where
  sent : strobed log ≡ true → Ready image log count
  sending : (first : Bool) → place_of_life (life image log) ≡ Some (Sending first) → count ≤ 1 → Ready image log count
  waiting : (first : Bool) → place_of_life (life image log) ≡ Some (Waiting first) → count ≤ 0 → Ready image log count

pub strobed_stays : (log : Log) (event : Happening) (entry : Shown) → LivesOn log event entry
    → strobed log ≡ true → strobed ((event ⟼ entry) ∷ log) ≡ true
strobed_stays log (ResetAll bytes) entry lives s = absurd lives
strobed_stays log event (Acted Sent) lives s = refl
strobed_stays log event entry lives s = s

by_read : (R image : List ℕ) (log : Log) (entry : Shown) (first halted : Bool) (count : ℕ)
    → place_of_life (life image ((Tick ⟼ entry) ∷ log)) ≡ Some
    (if halted then Sending first else Waiting first)
    → count ≤ 1 → (halted ≡ false → count ≤ 0) → Ready image ((Tick ⟼ entry) ∷ log) count
by_read R image log entry first true count stands one none = sending first stands one
by_read R image log entry first false count stands one none = waiting first stands (none refl)

-- a tick; where a run may be open it isn't counted
pub ready_tick : (R image : List ℕ) (log : Log) (entry : Shown) (count now : ℕ)
    → IsLegal R image ((Tick ⟼ entry) ∷ log) → (count ≤ 0 → now ≤ 1)
    → (count ≤ 0 → is_none (open_run log) ≡ false → now ≤ 0)
    → Ready image log count → Ready image ((Tick ⟼ entry) ∷ log) now
ready_tick R image log entry count now l one none (sent s) = sent (strobed_stays log Tick entry tt s)
ready_tick R image log entry count now l one none (sending first stands few) =
    let send = sends R image log entry first l stands in
    sent (subst (λ shown. strobed ((Tick ⟼ shown) ∷ log) ≡ true) (sym send.sent) refl)
ready_tick R image log entry count now l one none (waiting first stands few) =
    by_read R image log entry first (is_none (open_run log)) now
    (waits R image log entry first l stands).stands (one few) (none few)

pub ready_plain : (R image : List ℕ) (log : Log) (event : Happening) (entry : Shown) (count : ℕ)
    → IsLegal R image ((event ⟼ entry) ∷ log) → LivesOn log event entry → ticks ((event ⟼ entry) ∷ []) ≡ 0
    → Ready image log count → Ready image ((event ⟼ entry) ∷ log) count
ready_plain R image log event entry count l lives none (sent s) = sent (strobed_stays log event entry lives s)
ready_plain R image log event entry count l lives none (sending first stands few) =
    sending first (ap place_of_life (quiet R image log event entry (Sending first) l lives none
    stands (sending_busy first)).life_is ∙ stands) few
ready_plain R image log event entry count l lives none (waiting first stands few) =
    waiting first (ap place_of_life (quiet R image log event entry (Waiting first) l lives none
    stands (waiting_busy first)).life_is ∙ stands) few

module _ (R image : List ℕ) (start : Log) where
  pub ready_step : (later : Log) (event : Happening) (entry : Shown)
      → IsLegal R image ((event ⟼ entry) ∷ later ++ start) → LivesOn later event entry
      → Ready image (later ++ start) 0 → Ready image ((event ⟼ entry) ∷ later ++ start) 0
  ready_step later Tick entry l lives ready =
      ready_tick R image (later ++ start) entry 0 0 l (λ few. omega arith) (λ few is_open. few)
      ready
  ready_step later event entry l lives ready = ready_plain R image (later ++ start) event entry 0 l lives refl ready

  -- whatever comes but resets
  pub ready_on : (later : Log) → IsLegal R image (later ++ start) → Throughout LivesOn later
      → Ready image start 0 → Ready image (later ++ start) 0
  ready_on [] l lives ready = ready
  ready_on ((event ⟼ entry) ∷ later) l lives ready =
      ready_step later event entry l lives.0 (ready_on later l.2 lives.1 ready)

  send_step : (later : Log) (event : Happening) (entry : Shown)
      → IsLegal R image ((event ⟼ entry) ∷ later ++ start) → LivesOn later event entry
      → open_run (later ++ start) ≡ None → Ready image (later ++ start) (ticks later)
      → Ready image ((event ⟼ entry) ∷ later ++ start) (ticks ((event ⟼ entry) ∷ later))
  send_step later Tick entry l lives none ready =
      ready_tick R image (later ++ start) entry (ticks later) (suc (ticks later)) l
      (λ few. omega arith) (λ few is_open. absurd
      (true≢false (sym (ap is_none none) ∙ is_open))) ready
  send_step later event entry l lives none ready =
      ready_plain R image (later ++ start) event entry (ticks later) l lives refl ready

  -- while no run is open
  pub send_on : (later : Log) → IsLegal R image (later ++ start) → Throughout LivesOn later
      → Throughout (λ log event entry. NotStrobe event) later → open_run start ≡ None → Ready image start 0
      → (open_run (later ++ start) ≡ None) × Ready image (later ++ start) (ticks later)
  send_on [] l lives not_strobe none ready = (none, ready)
  send_on ((event ⟼ entry) ∷ later) l lives not_strobe none ready =
      let before = send_on later l.2 lives.1 not_strobe.1 none ready in (
        none_stays R image (later ++ start) event entry l not_strobe.0 before.0,
        send_step later event entry l lives.0 before.0 before.1,
      )

-- two ticks send it
pub is_sent : (image : List ℕ) (log : Log) (count : ℕ) → 2 ≤ count → Ready image log count → strobed log ≡ true
is_sent image log count two (sent s) = s
is_sent image log count two (sending first stands few) = absurd (omega arith)
is_sent image log count two (waiting first stands few) = absurd (omega arith)
