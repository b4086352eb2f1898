-- A frame that was flipped stays the newest one while no other is accepted.
use Rattle.std.proofs.Common.{◌≡◌, ℕ, Bool, true, false, List, [], ◌∷◌, ◌++◌, Option, Some, None, refl, sym, ap, ◌∙◌, subst}
use Rattle.std.specs.Prelude.{◌≢◌, if◌then◌else◌, option_and_then, option_map}
use Rattle.std.proofs.lemmas.Option.{none-some, same_Some}
use Rattle.dvg_frame.specs.declared.op.OpKind.{OpKind}
use Rattle.dvg_driver.specs.declared.action.Action.{Action}
use Rattle.dvg_driver.specs.declared.action.Action.TheVariants.{Peek, Read, Sent, Idle}
use Rattle.dvg_driver.specs.Script
use Rattle.dvg_driver.specs.Script.{Did}
use Rattle.dvg_driver.specs.Place.{Place, Start, Booting, Resting, Writing, Waiting, Sending, next_place, place_of_life}
use Rattle.dvg_driver.proofs.Places.{whole_rests}
use Rattle.dvg_log.specs.Events.{Happening}
use Rattle.dvg_log.specs.declared.event.Event.TheVariants.{Offer, Redraw, Tick, Strobe, Fetch, ResetGen, ResetCpu, ResetAll}
use Rattle.dvg_log.specs.Entries.{Shown}
use Rattle.dvg_log.specs.declared.entry.Entry.TheVariants.{Offered, Refused, Busy, Asked, NothingPublished, Acted, Started, NoStrobe, Low, Fetched, Done, Broke, Still, Cleared}
use Rattle.dvg_log.specs.Log.{◌⟼◌, Log, Throughout, open_run, life, has_fetched, at_zero, published}
use Rattle.dvg_log.specs.Legal.{IsLegal}
use Rattle.dvg_log.specs.Headline.{IsShown}
use Rattle.dvg_theorem.proofs.Shows.{at_zero_fetched, at_zero_open}
use Rattle.dvg_progress.proofs.Lives.{ticked}

-- no byte is being written
abbrev pub NotWriting : Place → Type 0
NotWriting (Writing writes) = ⊥
NotWriting place = Unit {0}

-- no reset of the whole system
abbrev pub NotAll : Happening → Type 0
NotAll (ResetAll bytes) = ⊥
NotAll event = Unit {0}

abbrev pub NotStrobe : Happening → Type 0
NotStrobe Strobe = ⊥
NotStrobe event = Unit {0}

-- the frame is the newest one, and none is being written
pub record Newest (image : List ℕ) (F : List OpKind) (log : Log) : Type 0 where
  pub newest : published log ≡ Some F
  pub place : Place
  pub stands : place_of_life (life image log) ≡ Some place
  pub still : NotWriting place

tick_still : (log : Log) (place to : Place) (action : Action) → NotWriting place
    → next_place place (Did action) ≡ Some to
    → (published ((Tick ⟼ Acted action) ∷ log) ≡ published log) × NotWriting to
tick_still log Start to Peek still next = (refl, subst NotWriting (same_Some _ _ next) tt)
tick_still log Booting to (Read true) still next = (refl, subst NotWriting (same_Some _ _ next) tt)
tick_still log Booting to (Read false) still next = (refl, subst NotWriting (same_Some _ _ next) tt)
tick_still log (Resting first) to Idle still next = (refl, subst NotWriting (same_Some _ _ next) tt)
tick_still log (Waiting first) to (Read true) still next = (refl, subst NotWriting (same_Some _ _ next) tt)
tick_still log (Waiting first) to (Read false) still next = (refl, subst NotWriting (same_Some _ _ next) tt)
tick_still log (Sending first) to Sent still next = (refl, subst NotWriting (same_Some _ _ next) tt)
tick_still log (Writing writes) to action still next = absurd still
tick_still log _ to _ still next = absurd (cc)

module _ (R image : List ℕ) (F : List OpKind) where
  pub newest_step : (log : Log) (event : Happening) (entry : Shown)
      → IsLegal R image ((event ⟼ entry) ∷ log) → NotAll event → entry ≢ Offered
      → Newest image F log → Newest image F ((event ⟼ entry) ∷ log)
  newest_step log Tick (Acted action) l not_all none n =
      let t = ticked R image log (Acted action) n.place l n.stands in
      let same : t.action ≡ action = acted_is t.is in
      let still = tick_still log n.place t.to action n.still
      (subst (λ a. next_place n.place (Did a) ≡ Some t.to) same t.next) in
      record {
        newest = still.0 ∙ n.newest;
        place = t.to;
        stands = subst (λ a. place_of_life (Did a ∷ life image log) ≡ Some t.to) same t.stands;
        still = still.1;
      }
    where
      acted_is : {one other : Action} → ◌≡◌ {A = Shown} (Acted one) (Acted other) → other ≡ one
      acted_is e = cc
  newest_step log (Offer G) (Refused fault) l not_all none n =
      record { newest = n.newest; place = n.place; stands = n.stands; still = n.still }
  newest_step log (Offer G) Busy l not_all none n =
      record { newest = n.newest; place = n.place; stands = n.stands; still = n.still }
  newest_step log (Offer G) Offered l not_all none n = absurd (none refl)
  newest_step log Redraw NothingPublished l not_all none n =
      record { newest = n.newest; place = n.place; stands = n.stands; still = n.still }
  newest_step log Redraw Busy l not_all none n =
      record { newest = n.newest; place = n.place; stands = n.stands; still = n.still }
  newest_step log Redraw Asked l not_all none n =
      let rests = whole_rests (life image log) l.0.1 in
      record {
        newest = n.newest;
        place = Waiting rests.0;
        stands = ap (option_and_then (λ p. next_place p Script.Asked)) rests.1;
        still = tt;
      }
  newest_step log Strobe Started l not_all none n =
      record { newest = n.newest; place = n.place; stands = n.stands; still = n.still }
  newest_step log Strobe NoStrobe l not_all none n =
      record { newest = n.newest; place = n.place; stands = n.stands; still = n.still }
  newest_step log Fetch Still l not_all none n =
      record { newest = n.newest; place = n.place; stands = n.stands; still = n.still }
  newest_step log Fetch (Low a b) l not_all none n =
      record { newest = n.newest; place = n.place; stands = n.stands; still = n.still }
  newest_step log Fetch (Fetched a w) l not_all none n =
      record { newest = n.newest; place = n.place; stands = n.stands; still = n.still }
  newest_step log Fetch (Done a w drew) l not_all none n =
      record { newest = n.newest; place = n.place; stands = n.stands; still = n.still }
  newest_step log Fetch (Broke a fault) l not_all none n =
      record { newest = n.newest; place = n.place; stands = n.stands; still = n.still }
  newest_step log ResetGen Cleared l not_all none n =
      record { newest = n.newest; place = n.place; stands = n.stands; still = n.still }
  newest_step log ResetCpu Cleared l not_all none n =
      record { newest = n.newest; place = Start; stands = refl; still = tt }
  newest_step log (ResetAll bytes) entry l not_all none n = absurd not_all
  newest_step log event entry l not_all none n = absurd l.0

-- with no strobe no run begins
pub none_stays : (R image : List ℕ) (log : Log) (event : Happening) (entry : Shown)
    → IsLegal R image ((event ⟼ entry) ∷ log) → NotStrobe event → open_run log ≡ None
    → open_run ((event ⟼ entry) ∷ log) ≡ None
none_stays R image log Strobe entry l not_strobe none = absurd not_strobe
none_stays R image log Fetch (Fetched a w) l not_strobe none = ap (option_map (λ fetches. (a, w) ∷ fetches)) none
none_stays R image log event Started l not_strobe none = absurd l.0
none_stays R image log event (Fetched a w) l not_strobe none = absurd l.0
none_stays R image log ResetGen entry l not_strobe none = refl
none_stays R image log (ResetAll bytes) entry l not_strobe none = refl
none_stays R image log event (Done a w drew) l not_strobe none = refl
none_stays R image log event (Broke a fault) l not_strobe none = refl
none_stays R image log event entry l not_strobe none = none

-- and one that has fetched a word goes on, or is over
grows : (R image : List ℕ) (log : Log) (event : Happening) (entry : Shown) (v : ℕ × ℕ)
    (vs : List (ℕ × ℕ)) → IsLegal R image ((event ⟼ entry) ∷ log) → NotStrobe event
    → open_run log ≡ Some (v ∷ vs) → open_run ((event ⟼ entry) ∷ log) ≢ None → (u : ℕ × ℕ) × (us : List (ℕ × ℕ))
    × (open_run ((event ⟼ entry) ∷ log) ≡ Some (u ∷ us))
grows R image log Strobe entry v vs l not_strobe o is_open = absurd not_strobe
grows R image log Fetch (Fetched a w) v vs l not_strobe o is_open =
    ((a, w), v ∷ vs, ap (option_map (λ fetches. (a, w) ∷ fetches)) o)
grows R image log event Started v vs l not_strobe o is_open = absurd l.0
grows R image log event (Fetched a w) v vs l not_strobe o is_open = absurd l.0
grows R image log ResetGen entry v vs l not_strobe o is_open = absurd (is_open refl)
grows R image log (ResetAll bytes) entry v vs l not_strobe o is_open = absurd (is_open refl)
grows R image log event (Done a w drew) v vs l not_strobe o is_open = absurd (is_open refl)
grows R image log event (Broke a fault) v vs l not_strobe o is_open = absurd (is_open refl)
grows R image log event entry v vs l not_strobe o is_open = (v, vs, o)

-- what a run shows that has fetched nothing
zero_shown : (log : Log) (F G : List OpKind) → open_run log ≡ Some [] → published log ≡ Some F → IsShown log G → F ≡ G
zero_shown log F G o newest shown = same_Some _ _ (sym newest ∙ (sym (ap published (at_zero_open log o)) ∙ shown))

both_published : (event : Happening) (entry : Shown) (log : Log) (F : List OpKind)
    → published (at_zero log) ≡ Some F → published ((event ⟼ entry) ∷ log) ≡ Some F → IsShown ((event ⟼ entry) ∷ log) F
both_published event entry log F old new = by (has_fetched (open_run ((event ⟼ entry) ∷ log)))
  where
    by : (t : Bool) → published (if t then at_zero log else (event ⟼ entry) ∷ log) ≡ Some F
    by true = old
    by false = new

-- while a frame is the newest one, what the open run shows stays the same
pub shown_step : (R image : List ℕ) (log : Log) (event : Happening) (entry : Shown)
    (F G : List OpKind) → IsLegal R image ((event ⟼ entry) ∷ log) → NotStrobe event
    → published log ≡ Some F → published ((event ⟼ entry) ∷ log) ≡ Some F → (words : List (ℕ × ℕ))
    → open_run log ≡ Some words → open_run ((event ⟼ entry) ∷ log) ≢ None → IsShown log G
    → IsShown ((event ⟼ entry) ∷ log) G
shown_step R image log event entry F G l not_strobe old new [] o is_open shown =
    let same = zero_shown log F G o old shown in
    both_published event entry log G shown (new ∙ ap Some same)
shown_step R image log event entry F G l not_strobe old new (v ∷ vs) o is_open shown =
    let more = grows R image log event entry v vs l not_strobe o is_open in
    subst (λ zero. published zero ≡ Some G)
    (sym (at_zero_fetched (event ⟼ entry) log more.0 more.1 more.2)) shown

module _ (R image : List ℕ) (F : List OpKind) (start : Log) (begun : Newest image F start) where
  pub newest_on : (later : Log) → IsLegal R image (later ++ start) → Throughout (λ log event entry. NotAll event) later
      → Throughout (λ log event entry. entry ≢ Offered) later → Newest image F (later ++ start)
  newest_on [] l not_all none = begun
  newest_on ((event ⟼ entry) ∷ later) l not_all none =
      newest_step R image F (later ++ start) event entry l not_all.0 none.0
      (newest_on later l.2 not_all.1 none.1)

  -- an open run was open before, and shows what it showed
  pub record SameRun (later : Log) : Type 0 where
    pub was_open : open_run start ≢ None
    pub shows : (G : List OpKind) → IsShown start G → IsShown (later ++ start) G

  pub same_run : (later : Log) → IsLegal R image (later ++ start) → Throughout (λ log event entry. NotAll event) later
      → Throughout (λ log event entry. entry ≢ Offered) later
      → Throughout (λ log event entry. NotStrobe event) later → open_run (later ++ start) ≢ None → SameRun later
  same_run [] l not_all none not_strobe is_open = record { was_open = is_open; shows = λ G shown. shown }
  same_run ((event ⟼ entry) ∷ later) l not_all none not_strobe is_open =
      by (open_run (later ++ start)) refl (same_run later l.2 not_all.1 none.1 not_strobe.1)
    where
      by : (run : Option (List (ℕ × ℕ))) → open_run (later ++ start) ≡ run
          → (open_run (later ++ start) ≢ None → SameRun later) → SameRun ((event ⟼ entry) ∷ later)
      by None o same = absurd (is_open (none_stays R image (later ++ start) event entry l not_strobe.0 o))
      by (Some words) o same =
          let before = same (λ closed. none-some words (sym closed ∙ o)) in
          let old = newest_on later l.2 not_all.1 none.1 in
          let new = newest_step R image F (later ++ start) event entry l not_all.0 none.0 old in
          record {
            was_open = before.was_open;
            shows = λ G shown. shown_step R image (later ++ start) event entry F G l not_strobe.0
                old.newest new.newest words o is_open (before.shows G shown);
          }
