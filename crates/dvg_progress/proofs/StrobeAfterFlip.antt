-- After a flip the driver waits until no run is open, and then sends the strobe.
use Rattle.std.proofs.Common.{◌≡◌, ℕ, ◌/◌, Bool, true, false, List, [], ◌∷◌, ◌++◌, Option, Some, None, refl, sym, ap, ◌∙◌, subst, arith}
use Rattle.std.specs.Prelude.{◌≢◌, is_none, if◌then◌else◌}
use Rattle.std.proofs.lemmas.Option.{same_Some}
use Rattle.dvg_mem.specs.declared.half.Half.{Half}
use Rattle.dvg_driver.specs.declared.action.Action.{Action}
use Rattle.dvg_driver.specs.declared.action.Action.TheVariants.{Wrote, Read, Sent}
use Rattle.dvg_driver.specs.Script.{Did}
use Rattle.dvg_driver.specs.Place.{Place, Resting, Writing, Waiting, Sending, next_place, place_of_life}
use Rattle.dvg_driver.specs.Stands.{ShowsFlag}
use Rattle.dvg_log.specs.Events.{Happening}
use Rattle.dvg_log.specs.declared.event.Event.TheVariants.{Tick, ResetCpu}
use Rattle.dvg_log.specs.Entries.{Shown}
use Rattle.dvg_log.specs.declared.entry.Entry.TheVariants.{Acted}
use Rattle.dvg_log.specs.Log.{◌⟼◌, Log, Throughout, open_run, free_half, life}
use Rattle.dvg_log.specs.Legal.{IsLegal}
use Rattle.dvg_theorem.proofs.Bytes.{byte}
use Rattle.dvg_theorem.proofs.DrawnHalf.{past_zero}
use Rattle.dvg_theorem.proofs.DrawnHalfSpared.{KeptBy, kept}
use Rattle.dvg_theorem.proofs.ToCome.{IsWrite, to_half, to_zero, to_one, is_write}
use Rattle.dvg_theorem.proofs.Words.{words_are_whole}
use Rattle.dvg_progress.specs.Progress.{ticks, SentInTime}
use Rattle.dvg_progress.proofs.Lives.{IsBusy, LivesOn, lives_on, newer, older, quiet, ticked}

-- a write of byte 001 is a flip: the driver waits after it
flip_waits : (half : Half) (z b : ℕ) (to : Place) → IsWrite half z 1 b to → to ≡ Waiting false
flip_waits half z b to (to_half inside more is todo) = absurd (let low = past_zero half (1 / 2) inside in omega arith)
flip_waits half z b to (to_zero at is_one more is todo) = absurd (omega arith)
flip_waits half z b to (to_one at is_high is low) = is

wrote_at : (R image : List ℕ) (log : Log) (place to : Place) (b : ℕ) → KeptBy image log place
    → next_place place (Did (Wrote 1 b)) ≡ Some to → to ≡ Waiting false
wrote_at R image log (Writing writes) to b k next =
    flip_waits (free_half image log) (byte image log 0) b to
    (is_write (free_half image log) (byte image log 0) writes k.here.1 1 b to next)
wrote_at R image log _ to b k next = absurd (cc)

acted_is : {one other : Action} → ◌≡◌ {A = Shown} (Acted one) (Acted other) → other ≡ one
acted_is e = cc

pub flip_place : (R image : List ℕ) (before : Log) (b : ℕ) → IsLegal R image ((Tick ⟼ Acted (Wrote 1 b)) ∷ before)
    → place_of_life (life image ((Tick ⟼ Acted (Wrote 1 b)) ∷ before)) ≡ Some (Waiting false)
flip_place R image before b l =
    let k = kept R image before l.2 (words_are_whole R image before l.2) in
    let t = ticked R image before (Acted (Wrote 1 b)) k.0 l k.1.stands in
    let same : t.action ≡ Wrote 1 b = acted_is t.is in
    let next : next_place k.0 (Did (Wrote 1 b)) ≡ Some t.to =
    subst (λ action. next_place k.0 (Did action) ≡ Some t.to) same t.next in
    subst (λ action. place_of_life (Did action ∷ life image before) ≡ Some (Waiting false)) same
    (t.stands ∙ ap Some (wrote_at R image before k.0 t.to b k.1 next))

pub waiting_busy : (first : Bool) → IsBusy (Waiting first)
waiting_busy first other is = cc

pub sending_busy : (first : Bool) → IsBusy (Sending first)
sending_busy first other is = cc

-- what the next action is where the driver waits, and where it sends
pub waiting_next : (first : Bool) (action : Action) (to : Place) (halted : Bool)
    → next_place (Waiting first) (Did action) ≡ Some to → ShowsFlag action halted
    → (action ≡ Read halted) × (to ≡ (if halted then Sending first else Waiting first))
waiting_next first (Read shown) to halted next tells = (
  ap Read tells,
  sym (same_Some _ _ next) ∙ ap (λ h. if h then Sending first else Waiting first) tells,
)
waiting_next first _ to halted next tells = absurd (cc)

pub sending_next : (first : Bool) (action : Action) (to : Place)
    → next_place (Sending first) (Did action) ≡ Some to → (action ≡ Sent) × (to ≡ Resting first)
sending_next first Sent to next = (refl, sym (same_Some _ _ next))
sending_next first _ to next = absurd (cc)

-- a tick where the driver waits
pub record Waited (image : List ℕ) (log : Log) (entry : Shown) (first halted : Bool) : Type 0 where
  pub read : entry ≡ Acted (Read halted)
  pub stands : place_of_life (life image ((Tick ⟼ entry) ∷ log)) ≡ Some
      (if halted then Sending first else Waiting first)

pub waits : (R image : List ℕ) (log : Log) (entry : Shown) (first : Bool)
    → IsLegal R image ((Tick ⟼ entry) ∷ log) → place_of_life (life image log) ≡ Some (Waiting first)
    → Waited image log entry first (is_none (open_run log))
waits R image log entry first l stands =
    let t = ticked R image log entry (Waiting first) l stands in
    let halted = is_none (open_run log) in
    let next = waiting_next first t.action t.to halted t.next t.tells in
    subst (λ shown. Waited image log shown first halted) (sym t.is)
    (record { read = ap Acted next.0; stands = t.stands ∙ ap Some next.1 })

-- a tick where the driver sends
pub record Strobes (image : List ℕ) (log : Log) (entry : Shown) (first : Bool) : Type 0 where
  pub sent : entry ≡ Acted Sent
  pub stands : place_of_life (life image ((Tick ⟼ entry) ∷ log)) ≡ Some (Resting first)

pub sends : (R image : List ℕ) (log : Log) (entry : Shown) (first : Bool)
    → IsLegal R image ((Tick ⟼ entry) ∷ log) → place_of_life (life image log) ≡ Some (Sending first)
    → Strobes image log entry first
sends R image log entry first l stands =
    let t = ticked R image log entry (Sending first) l stands in
    let next = sending_next first t.action t.to t.next in
    subst (λ shown. Strobes image log shown first) (sym t.is)
    (record { sent = ap Acted next.0; stands = t.stands ∙ ap Some next.1 })

-- a line that is no tick leaves a busy driver where it is
pub stays : (R image : List ℕ) (log : Log) (event : Happening) (entry : Shown) (place : Place)
    → IsLegal R image ((event ⟼ entry) ∷ log) → LivesOn log event entry → ticks ((event ⟼ entry) ∷ []) ≡ 0
    → place_of_life (life image log) ≡ Some place → IsBusy place
    → place_of_life (life image ((event ⟼ entry) ∷ log)) ≡ Some place
stays R image log event entry place l lives none stands busy =
    ap place_of_life (quiet R image log event entry place l lives none stands busy).life_is ∙ stands

not_none : (run : Option (List (ℕ × ℕ))) → run ≢ None → is_none run ≡ false
not_none None some = absurd (some refl)
not_none (Some words) some = refl

-- at a tick a run is open
abbrev FindsRun : Log → Happening → Shown → Type 0
FindsRun log event entry = event ≡ Tick → open_run log ≢ None

module _ (R image : List ℕ) (start : Log) where
  wait_step : (later : Log) (event : Happening) (entry : Shown)
      → IsLegal R image ((event ⟼ entry) ∷ later ++ start) → LivesOn later event entry
      → FindsRun (later ++ start) event entry → place_of_life (life image (later ++ start)) ≡ Some (Waiting false)
      → place_of_life (life image ((event ⟼ entry) ∷ later ++ start)) ≡ Some (Waiting false)
  wait_step later Tick entry l lives finds stands =
      (waits R image (later ++ start) entry false l stands).stands
      ∙ ap (λ halted. Some (if halted then Sending false else Waiting false))
      (not_none (open_run (later ++ start)) (finds refl))
  wait_step later event entry l lives finds stands =
      stays R image (later ++ start) event entry (Waiting false) l lives refl stands
      (waiting_busy false)

  -- while the driver finds a run open it waits
  wait_on : (later : Log) → IsLegal R image (later ++ start) → Throughout LivesOn later
      → Throughout (λ log. FindsRun (log ++ start)) later → place_of_life (life image start) ≡ Some (Waiting false)
      → place_of_life (life image (later ++ start)) ≡ Some (Waiting false)
  wait_on [] l lives finds stands = stands
  wait_on ((event ⟼ entry) ∷ later) l lives finds stands =
      wait_step later event entry l lives.0 finds.0 (wait_on later l.2 lives.1 finds.1 stands)

  rest_step : (later : Log) (event : Happening) (entry : Shown) (place : Place) → IsBusy place
      → IsLegal R image ((event ⟼ entry) ∷ later ++ start) → LivesOn later event entry
      → ticks ((event ⟼ entry) ∷ later) ≡ 0
      → (ticks later ≡ 0 → place_of_life (life image (later ++ start)) ≡ Some place)
      → place_of_life (life image ((event ⟼ entry) ∷ later ++ start)) ≡ Some place
  rest_step later Tick entry place busy l lives none stands = absurd (omega arith)
  rest_step later event entry place busy l lives none stands =
      stays R image (later ++ start) event entry place l lives refl (stands none) busy

  -- with no tick it stays
  rest_on : (later : Log) (place : Place) → IsBusy place → IsLegal R image (later ++ start)
      → Throughout LivesOn later → ticks later ≡ 0 → place_of_life (life image start) ≡ Some place
      → place_of_life (life image (later ++ start)) ≡ Some place
  rest_on [] place busy l lives none stands = stands
  rest_on ((event ⟼ entry) ∷ later) place busy l lives none stands =
      rest_step later event entry place busy l lives.0 none
      (λ fewer. rest_on later place busy l.2 lives.1 fewer stands)

pub legal_before : (R image : List ℕ) (later log : Log) → IsLegal R image (later ++ log) → IsLegal R image log
legal_before R image [] log l = l
legal_before R image ((event ⟼ entry) ∷ later) log l = legal_before R image later log l.2

pub sent_in_time : SentInTime
sent_in_time R image before wait rest b first next l finds none no_ticks lives =
    let flipped : Log = (Tick ⟼ Acted (Wrote 1 b)) ∷ before in
    let halted : Log = (Tick ⟼ first) ∷ wait ++ flipped in
    let halted_legal = legal_before R image rest halted l.2 in
    let at_flip = flip_place R image before b (legal_before R image wait flipped halted_legal.2) in
    let at_first = wait_on R image flipped wait halted_legal.2
    (lives_on wait (older (ResetCpu ∷ []) rest wait lives)) finds at_flip in
    let read = waits R image (wait ++ flipped) first false halted_legal at_first in
    let is_halted : is_none (open_run (wait ++ flipped)) ≡ true = ap is_none none in
    let at_halted : place_of_life (life image halted) ≡ Some (Sending false) = read.stands
    ∙ ap (λ h. Some (if h then Sending false else Waiting false)) is_halted in
    let at_next = rest_on R image halted rest (Sending false) (sending_busy false) l.2
    (lives_on rest (newer (ResetCpu ∷ []) rest wait lives)) no_ticks at_halted in (
      read.read ∙ ap (λ h. Acted (Read h)) is_halted,
      (sends R image (rest ++ halted) next false l at_next).sent,
    )
