-- What a line of a legal log does to the driver's life.
use Rattle.std.proofs.Common.{◌≡◌, ℕ, suc, List, [], ◌∷◌, ◌++◌, Some, Bool, refl, ap, ◌∙◌}
use Rattle.std.specs.Prelude.{is_none}
use Rattle.dvg_driver.specs.declared.action.Action.{Action}
use Rattle.dvg_driver.specs.Script.{Did, IsWhole}
use Rattle.dvg_driver.specs.Place.{Place, Resting, next_place, place_of_life}
use Rattle.dvg_driver.specs.Stands.{ShowsFlag}
use Rattle.dvg_driver.proofs.Places.{whole_rests, life_place, place_before}
use Rattle.dvg_log.specs.Events.{Happening}
use Rattle.dvg_log.specs.declared.event.Event.TheVariants.{Offer, Redraw, Tick, Strobe, Fetch, ResetGen, ResetCpu, ResetAll}
use Rattle.dvg_log.specs.Entries.{Shown}
use Rattle.dvg_log.specs.declared.entry.Entry.TheVariants.{Offered, Refused, Busy, Asked, NothingPublished, Acted, Started, NoStrobe, Low, Fetched, Done, Broke, Still, Cleared}
use Rattle.dvg_log.specs.Log.{◌⟼◌, Log, Throughout, open_run, life, strobed, offered, before_flip}
use Rattle.dvg_log.specs.Legal.{IsLegal}
use Rattle.dvg_theorem.proofs.DrawnHalfSpared.{same_place}
use Rattle.dvg_progress.specs.Progress.{Without, ticks}

-- neither the processor nor the whole system is reset
abbrev pub LivesOn : Log → Happening → Shown → Type 0
LivesOn log ResetCpu entry = ⊥
LivesOn log (ResetAll bytes) entry = ⊥
LivesOn log event entry = Unit {0}

-- no strobe comes, and neither the generator nor the whole system is reset
abbrev pub RunsOn : Log → Happening → Shown → Type 0
RunsOn log Strobe entry = ⊥
RunsOn log ResetGen entry = ⊥
RunsOn log (ResetAll bytes) entry = ⊥
RunsOn log event entry = Unit {0}

-- no strobe comes
abbrev pub NotStrobe : Log → Happening → Shown → Type 0
NotStrobe log Strobe entry = ⊥
NotStrobe log event entry = Unit {0}

-- the newer lines, and the older ones
pub newer : (events : List Happening) (one other : Log) → Without events (one ++ other) → Without events one
newer events [] other without = tt
newer events ((ResetAll bytes ⟼ entry) ∷ one) other without = without
newer events ((event ⟼ entry) ∷ one) other without = (without.0, newer events one other without.1)

pub older : (events : List Happening) (one other : Log) → Without events (one ++ other) → Without events other
older events [] other without = without
older events ((ResetAll bytes ⟼ entry) ∷ one) other without = absurd without
older events ((event ⟼ entry) ∷ one) other without = older events one other without.1

pub lives_on : (later : Log) → Without (ResetCpu ∷ []) later → Throughout LivesOn later
lives_on [] without = tt
lives_on ((ResetCpu ⟼ entry) ∷ later) without = absurd (without.0.0 refl)
lives_on ((ResetAll bytes ⟼ entry) ∷ later) without = absurd without
lives_on ((event ⟼ entry) ∷ later) without = (tt, lives_on later without.1)

pub runs_on : (later : Log) → Without (Strobe ∷ ResetGen ∷ []) later → Throughout RunsOn later
runs_on [] without = tt
runs_on ((Strobe ⟼ entry) ∷ later) without = absurd (without.0.0 refl)
runs_on ((ResetGen ⟼ entry) ∷ later) without = absurd (without.0.1.0 refl)
runs_on ((ResetAll bytes ⟼ entry) ∷ later) without = absurd without
runs_on ((event ⟼ entry) ∷ later) without = (tt, runs_on later without.1)

-- the driver doesn't rest, so it accepts nothing
abbrev pub IsBusy : Place → Type 0
IsBusy place = (first : Bool) → place ≡ Resting first → ⊥

-- a line that changes nothing of these
pub record Leaves (image : List ℕ) (log : Log) (event : Happening) (entry : Shown) : Type 0 where
  pub life_is : life image ((event ⟼ entry) ∷ log) ≡ life image log
  pub offered_is : offered ((event ⟼ entry) ∷ log) ≡ offered log
  pub flip_is : before_flip ((event ⟼ entry) ∷ log) ≡ before_flip log
  pub strobed_is : strobed ((event ⟼ entry) ∷ log) ≡ strobed log

-- a driver that is busy isn't at rest
not_whole : (image : List ℕ) (log : Log) (place : Place)
    → place_of_life (life image log) ≡ Some place → IsBusy place → IsWhole (life image log) → ⊥
not_whole image log place stands busy whole = let rests = whole_rests (life image log) whole in
    busy rests.0 (same_place (life image log) place (Resting rests.0) stands rests.1)

no_tick : {n : ℕ} → suc n ≡ 0 → ⊥
no_tick e = cc

-- a line that is no tick, while the driver is busy
pub quiet : (R image : List ℕ) (log : Log) (event : Happening) (entry : Shown) (place : Place)
    → IsLegal R image ((event ⟼ entry) ∷ log) → LivesOn log event entry → ticks ((event ⟼ entry) ∷ []) ≡ 0
    → place_of_life (life image log) ≡ Some place → IsBusy place → Leaves image log event entry
quiet R image log Tick entry place l lives none stands busy = absurd (no_tick none)
quiet R image log (Offer F) (Refused fault) place l lives none stands busy =
    record { life_is = refl; offered_is = refl; flip_is = refl; strobed_is = refl }
quiet R image log (Offer F) Busy place l lives none stands busy =
    record { life_is = refl; offered_is = refl; flip_is = refl; strobed_is = refl }
quiet R image log (Offer F) Offered place l lives none stands busy =
    absurd (not_whole image log place stands busy l.0.1)
quiet R image log Redraw NothingPublished place l lives none stands busy =
    record { life_is = refl; offered_is = refl; flip_is = refl; strobed_is = refl }
quiet R image log Redraw Busy place l lives none stands busy =
    record { life_is = refl; offered_is = refl; flip_is = refl; strobed_is = refl }
quiet R image log Redraw Asked place l lives none stands busy = absurd (not_whole image log place stands busy l.0.1)
quiet R image log Strobe Started place l lives none stands busy =
    record { life_is = refl; offered_is = refl; flip_is = refl; strobed_is = refl }
quiet R image log Strobe NoStrobe place l lives none stands busy =
    record { life_is = refl; offered_is = refl; flip_is = refl; strobed_is = refl }
quiet R image log Fetch Still place l lives none stands busy =
    record { life_is = refl; offered_is = refl; flip_is = refl; strobed_is = refl }
quiet R image log Fetch (Low a b) place l lives none stands busy =
    record { life_is = refl; offered_is = refl; flip_is = refl; strobed_is = refl }
quiet R image log Fetch (Fetched a w) place l lives none stands busy =
    record { life_is = refl; offered_is = refl; flip_is = refl; strobed_is = refl }
quiet R image log Fetch (Done a w drew) place l lives none stands busy =
    record { life_is = refl; offered_is = refl; flip_is = refl; strobed_is = refl }
quiet R image log Fetch (Broke a fault) place l lives none stands busy =
    record { life_is = refl; offered_is = refl; flip_is = refl; strobed_is = refl }
quiet R image log ResetGen Cleared place l lives none stands busy =
    record { life_is = refl; offered_is = refl; flip_is = refl; strobed_is = refl }
quiet R image log ResetCpu entry place l lives none stands busy = absurd lives
quiet R image log (ResetAll bytes) entry place l lives none stands busy = absurd lives
quiet R image log event entry place l lives none stands busy = absurd l.0

-- what a tick does
pub record Ticked (image : List ℕ) (log : Log) (entry : Shown) (place : Place) : Type 0 where
  pub action : Action
  pub is : entry ≡ Acted action
  pub to : Place
  pub next : next_place place (Did action) ≡ Some to
  pub stands : place_of_life (Did action ∷ life image log) ≡ Some to
  pub tells : ShowsFlag action (is_none (open_run log))

pub ticked : (R image : List ℕ) (log : Log) (entry : Shown) (place : Place)
    → IsLegal R image ((Tick ⟼ entry) ∷ log) → place_of_life (life image log) ≡ Some place
    → Ticked image log entry place
ticked R image log (Acted action) place l stands =
    let after = life_place (Did action ∷ life image log) l.0.0 in
    let before = place_before (Did action) (life image log) after.0 after.1 in
    record {
      action = action;
      is = refl;
      to = after.0;
      next = ap (λ p. next_place p (Did action))
          (same_place (life image log) place before.0 stands before.1) ∙ before.2;
      stands = after.1;
      tells = l.0.1;
    }
ticked R image log entry place l stands = absurd l.0
