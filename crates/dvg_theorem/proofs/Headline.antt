-- What every legal log shows.
use Rattle.std.proofs.Common.{◌≡◌, ℕ, true, List, [], ◌∷◌, Option, Some, None, refl}
use Rattle.dvg_log.specs.Events.{Happening}
use Rattle.dvg_log.specs.Entries.{Shown}
use Rattle.dvg_log.specs.Log.{◌⟼◌, Log, Throughout, ram, open_run, has_fetched}
use Rattle.dvg_log.specs.Legal.{Always, IsLegal}
use Rattle.dvg_theorem.specs.Fetches.{WithinBound}
use Rattle.dvg_log.specs.Headline.{SparesDrawn, NoFault, DrewPublished, IsNoOlder, KeepsTime, DrewHeld, KeepsHeadline, DrawsAHalf}
use Rattle.dvg_theorem.proofs.DrawnHalf.{drawing}
use Rattle.dvg_theorem.proofs.DrawnHalfSpared.{kept}
use Rattle.dvg_theorem.proofs.Later.{IsRight, shows}
use Rattle.dvg_theorem.proofs.LeastMemory.{lies_word}
use Rattle.dvg_theorem.proofs.Untouched.{draws_held}
use Rattle.dvg_theorem.proofs.Words.{words_are_whole}
use Rattle.dvg_theorem.proofs.Paced.{KeepsPace}
use Rattle.dvg_theorem.proofs.Within.{bounded, has_bound, keeps_time}

through : (P Q : Log → Happening → Shown → Type 0) → ((log : Log) (event : Happening) (entry : Shown) → P log event entry → Q log event entry) → (log : Log) → Throughout P log → Throughout Q log
through P Q f [] t = tt
through P Q f ((event ⟼ entry) ∷ log) t = (f log event entry t.0, through P Q f log t.1)

pub never_torn : Always (λ R image. SparesDrawn)
never_torn R image log l = (kept R image log l (words_are_whole R image log l)).2

pub never_faults : Always (λ R image. NoFault)
never_faults R image log l = through (IsRight R image) NoFault (λ log event entry t. t.0) log (shows R image log l (words_are_whole R image log l)).1

pub draws_published : Always (λ R image. DrewPublished R)
draws_published R image log l = through (IsRight R image) (DrewPublished R) (λ log event entry t. t.1) log (shows R image log l (words_are_whole R image log l)).1

pub never_older : Always (λ R image. IsNoOlder)
never_older R image log l = through (IsRight R image) IsNoOlder (λ log event entry t. t.2) log (shows R image log l (words_are_whole R image log l)).1

pub always_in_time : Always (λ R image. KeepsTime R)
always_in_time R image log l =
    keeps_time R image log l (through (IsRight R image) (KeepsPace R) (λ log event entry t. t.3) log (shows R image log l (words_are_whole R image log l)).1)

pub always_bounded : Always (λ R image. WithinBound R)
always_bounded R image log l = bounded R image log l (always_in_time R image log l)

-- a run that has fetched a word, by that word
fetched_one : (run : Option (List (ℕ × ℕ))) → has_fetched run ≡ true → (fetch : ℕ × ℕ) × (fetches : List (ℕ × ℕ)) × (run ≡ Some (fetch ∷ fetches))
fetched_one None has = absurd (cc)
fetched_one (Some []) has = absurd (cc)
fetched_one (Some (fetch ∷ fetches)) has = (fetch, fetches, refl)

pub draws_a_half : DrawsAHalf
draws_a_half R image log l has =
    let one = fetched_one (open_run log) has in
    let run = (shows R image log l (words_are_whole R image log l)).0.running one.0 one.1 one.2 in
    record {
      half = run.half;
      drawn = drawing log run.half (one.0 ∷ one.1) one.2 run.drawn;
      draft = run.draft;
      shown = run.shown;
      accepts = run.checked.accepts;
      holds = λ k inside. lies_word run.half run.draft (ram image log) run.holds k _ inside refl;
    }

-- the parts of each line make the line's headline
together : (R image : List ℕ) (log : Log) → IsLegal R image log → Throughout SparesDrawn log → Throughout NoFault log → Throughout (DrewPublished R) log → Throughout IsNoOlder log → Throughout (KeepsTime R) log
    → Throughout (DrewHeld R image) log → Throughout (KeepsHeadline R image) log
together R image [] l torn faults drew older time held = tt
together R image ((event ⟼ entry) ∷ log) l torn faults drew older time held = (
  record {
    never_torn = torn.0;
    never_faults = faults.0;
    draws_published = drew.0;
    never_older = older.0;
    always_bounded = λ F shown. has_bound R image log F l.2 shown;
    always_in_time = time.0;
    draws_undisturbed = held.0;
    draws_a_half = draws_a_half R image ((event ⟼ entry) ∷ log) l;
  },
  together R image log l.2 torn.1 faults.1 drew.1 older.1 time.1 held.1,
)

pub headline : Always KeepsHeadline
headline R image log l =
    together R image log l (never_torn R image log l) (never_faults R image log l) (draws_published R image log l) (never_older R image log l) (always_in_time R image log l)
    (draws_held R image log l)
