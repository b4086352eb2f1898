-- The whole way of a frame: written, published, its strobe sent, its run begun and finished.
use Rattle.std.proofs.Common.{◌≡◌, ℕ, suc, ◌*◌, ◌≤◌, ⊎_elim, Bool, true, false, List, [], ◌∷◌, ◌++◌, length, drop, Option, Some, None, refl, sym, ap, ◌∙◌, subst, arith}
use Rattle.std.specs.Prelude.{◌≢◌, if◌then◌else◌}
use Rattle.std.proofs.lemmas.Bool.{cases_lt, true≢false}
use Rattle.std.proofs.lemmas.List.{drop_all}
use Rattle.std.proofs.lemmas.Option.{none-some, same_Some}
use Rattle.dvg_frame.specs.declared.op.OpKind.{OpKind}
use Rattle.dvg_frame.specs.Picture.{IsPicture, IsBound}
use Rattle.dvg_frame.proofs.Bounded.{some_picture}
use Rattle.dvg_frame.proofs.Pictures.{one_picture}
use Rattle.dvg_driver.specs.Script.{has_flip}
use Rattle.dvg_driver.specs.Place.{Waiting, with_left}
use Rattle.dvg_log.specs.Events.{Happening}
use Rattle.dvg_log.specs.declared.event.Event.TheVariants.{Tick, Strobe, Fetch, ResetCpu, ResetAll}
use Rattle.dvg_log.specs.Entries.{Shown}
use Rattle.dvg_log.specs.declared.entry.Entry.TheVariants.{Offered, Started, NoStrobe, Done}
use Rattle.dvg_log.specs.Log.{◌⟼◌, Log, Throughout, open_run, life, strobed, published}
use Rattle.dvg_log.specs.Legal.{IsLegal, Fits}
use Rattle.dvg_log.specs.Headline.{IsShown}
use Rattle.dvg_theorem.proofs.DrawnHalfSpared.{kept}
use Rattle.dvg_theorem.proofs.Later.{shows}
use Rattle.dvg_theorem.proofs.LeastMemory.{Checked}
use Rattle.dvg_theorem.proofs.Linked.{wanting}
use Rattle.dvg_theorem.proofs.Shows.{at_zero_open}
use Rattle.dvg_theorem.proofs.Words.{words_are_whole}
use Rattle.dvg_progress.specs.Progress.{Without, ticks, fetched_since, DrawsOnce, ShownInTime}
use Rattle.dvg_progress.proofs.FinishedOnce.{run_on, at_end}
use Rattle.dvg_progress.proofs.FetchesSoFar.{halts_in_time}
use Rattle.dvg_progress.proofs.Lives.{LivesOn, RunsOn, lives_on, runs_on, newer, older}
use Rattle.dvg_progress.proofs.Newest.{NotAll, NotStrobe, Newest, newest_step, newest_on, same_run}
use Rattle.dvg_progress.proofs.StrobeByTwoTicks.{Ready, waiting, ready_step, ready_on, send_on, is_sent}
use Rattle.dvg_progress.proofs.StrobeAfterFlip.{legal_before}
use Rattle.dvg_progress.proofs.WritesUntilFlip.{start, all, SoFar, so_far, time_is}

-- what these words leave out
pub lives_all : (later : Log) → Throughout LivesOn later → Throughout (λ log event entry. NotAll event) later
lives_all [] lives = tt
lives_all ((ResetAll bytes ⟼ entry) ∷ later) lives = absurd lives.0
lives_all ((event ⟼ entry) ∷ later) lives = (tt, lives_all later lives.1)

runs_all : (later : Log) → Throughout RunsOn later → Throughout (λ log event entry. NotAll event) later
runs_all [] runs = tt
runs_all ((ResetAll bytes ⟼ entry) ∷ later) runs = absurd runs.0
runs_all ((event ⟼ entry) ∷ later) runs = (tt, runs_all later runs.1)

runs_strobe : (later : Log) → Throughout RunsOn later → Throughout (λ log event entry. NotStrobe event) later
runs_strobe [] runs = tt
runs_strobe ((Strobe ⟼ entry) ∷ later) runs = absurd runs.0
runs_strobe ((event ⟼ entry) ∷ later) runs = (tt, runs_strobe later runs.1)

waits_lives : (later : Log) → Without (Strobe ∷ ResetCpu ∷ []) later → Throughout LivesOn later
waits_lives [] without = tt
waits_lives ((ResetCpu ⟼ entry) ∷ later) without = absurd (without.0.1.0 refl)
waits_lives ((ResetAll bytes ⟼ entry) ∷ later) without = absurd without
waits_lives ((event ⟼ entry) ∷ later) without = (tt, waits_lives later without.1)

waits_strobe : (later : Log) → Without (Strobe ∷ ResetCpu ∷ []) later
    → Throughout (λ log event entry. NotStrobe event) later
waits_strobe [] without = tt
waits_strobe ((Strobe ⟼ entry) ∷ later) without = absurd (without.0.0 refl)
waits_strobe ((ResetAll bytes ⟼ entry) ∷ later) without = absurd without
waits_strobe ((event ⟼ entry) ∷ later) without = (tt, waits_strobe later without.1)

-- no frame is accepted among the newer lines, or the older ones
abbrev pub NoFrame : Log → Type 0
NoFrame log = Throughout (λ _ _ entry. entry ≢ Offered) log

pub frames_newer : (one other : Log) → NoFrame (one ++ other) → NoFrame one
frames_newer [] other none = tt
frames_newer ((event ⟼ entry) ∷ one) other none = (none.0, frames_newer one other none.1)

pub frames_older : (one other : Log) → NoFrame (one ++ other) → NoFrame other
frames_older [] other none = none
frames_older ((event ⟼ entry) ∷ one) other none = frames_older one other none.1

-- what an open run shows has a bound
bound_of : (F : List OpKind) (R : List ℕ) → Checked F R → (n : ℕ) × IsBound F R n
bound_of F R checked = let it = some_picture F R checked.rom checked.accepts.closed
    checked.accepts.ends in (it.1, (it.0, it.2))

open_shows : (R image : List ℕ) (log : Log) → IsLegal R image log → open_run log ≢ None
    → (G : List OpKind) × (n : ℕ) × IsShown log G × IsBound G R n
open_shows R image log l is_open = by (open_run log) refl
  where
    by : (run : Option (List (ℕ × ℕ))) → open_run log ≡ run → (G : List OpKind) × (n : ℕ)
        × IsShown log G × IsBound G R n
    by None o = absurd (is_open o)
    by (Some []) o =
        let whole = words_are_whole R image log l in
        let k = (kept R image log l whole).1 in
        let now = (shows R image log l whole).0.now (k.flipped (k.started [] o)) in
        let bound = bound_of now.draft R now.checked in
        (now.draft, bound.0, ap published (at_zero_open log o) ∙ now.newest, bound.1)
    by (Some (v ∷ vs)) o =
        let running = (shows R image log l (words_are_whole R image log l)).0.running v vs o in
        let bound = bound_of running.draft R running.checked in
        (running.draft, bound.0, running.shown, bound.1)

one_tick : (event : Happening) (entry : Shown) (later : Log) → ticks ((event ⟼ entry) ∷ later) ≤ suc (ticks later)
one_tick Tick entry later = omega arith
one_tick event entry later = omega arith

some_run : (run : Option (List (ℕ × ℕ))) (words : List (ℕ × ℕ)) → run ≡ Some words → run ≢ None
some_run run words o none = none-some words (sym none ∙ o)

-- a strobe that comes after one was sent begins a run
pub starts : (R image : List ℕ) (log : Log) (entry : Shown) → Fits R image log Strobe entry
    → strobed log ≡ true → entry ≡ Started
starts R image log Started fits sent = refl
starts R image log NoStrobe fits sent = absurd (true≢false (sym sent ∙ fits))
starts R image log entry fits sent = absurd fits

module _ (R image : List ℕ) (F : List OpKind) where
  module _ (before : Log) where
    abbrev flipped : Log → Type 0
    flipped log = Newest image F log × Ready image log 0

    at_flip : (later : Log) → ticks later ≡ length (all R image before F)
        → SoFar R image before F later → flipped (later ++ start R image before F)
    at_flip later time so =
        let none : drop (ticks later) (all R image before F) ≡ [] =
        drop_all (ticks later) (all R image before F) (omega arith) in
        let stands = so.stands ∙ ap (λ left. Some (with_left left)) none in (
          record { newest = so.flipped time; place = Waiting false; stands = stands; still = tt },
          waiting false stands (omega arith),
        )

    -- this many ticks after the offer, or more
    pub reached : (later : Log) → IsLegal R image (later ++ start R image before F)
        → Throughout LivesOn later → NoFrame later → length (all R image before F) ≤ ticks later
        → flipped (later ++ start R image before F)
    reached [] l lives none time = at_flip [] (omega arith) (so_far R image before F [] l lives (omega arith))
    reached ((event ⟼ entry) ∷ later) l lives none time =
        let more = one_tick event entry later in
        ⊎_elim
        (λ fewer. at_flip ((event ⟼ entry) ∷ later) (omega arith)
        (so_far R image before F ((event ⟼ entry) ∷ later) l lives (omega arith)))
        (λ enough.
        let old = reached later l.2 lives.1 none.1 enough in (
          newest_step R image F (later ++ start R image before F) event entry l
              (lives_all ((event ⟼ entry) ∷ later) lives).0 none.0 old.0,
          ready_step R image (start R image before F) later event entry l lives.0 old.1,
        ))
        (cases_lt (ticks later) (length (all R image before F)))

  module _ (n : ℕ) (bound : IsBound F R n) (before draw : Log) where
    abbrev begun : Log
    begun = (Strobe ⟼ Started) ∷ before

    -- where the run is finished, it shows the frame
    abbrev ShowsIt : Log → Happening → Shown → Type 0
    ShowsIt log event (Done a w drew) = IsShown (log ++ begun) F
    ShowsIt log event entry = Unit {0}

    first_shown : Newest image F begun → IsShown begun F
    first_shown n = ap published (at_zero_open begun refl) ∙ n.newest

    stays_shown : (later : Log) → IsLegal R image (later ++ begun) → Newest image F begun
        → NoFrame later → Throughout RunsOn later → open_run (later ++ begun) ≢ None → IsShown (later ++ begun) F
    stays_shown later l newest none runs is_open =
        (same_run R image F begun newest later l (runs_all later runs) none (runs_strobe later runs)
        is_open).shows F (first_shown newest)

    line_shows : (later : Log) (event : Happening) (entry : Shown)
        → IsLegal R image ((event ⟼ entry) ∷ later ++ begun) → Newest image F begun → NoFrame later
        → Throughout RunsOn later → ShowsIt later event entry
    line_shows later Fetch (Done a w drew) l newest none runs =
        let t = wanting R image (later ++ begun) a l.2 l.0.1.asked in
        stays_shown later l.2 newest none runs
        (some_run (open_run (later ++ begun)) t.fetches t.open_now)
    line_shows later event (Done a w drew) l newest none runs = absurd l.0
    line_shows later event entry l newest none runs = tt

    all_show : (later : Log) → IsLegal R image (later ++ begun) → Newest image F begun
        → NoFrame later → Throughout RunsOn later → Throughout ShowsIt later
    all_show [] l newest none runs = tt
    all_show ((event ⟼ entry) ∷ later) l newest none runs = (
      line_shows later event entry l newest none.1 runs.1,
      all_show later l.2 newest none.1 runs.1,
    )

    over : IsLegal R image (draw ++ begun) → Newest image F begun → NoFrame draw
        → Throughout RunsOn draw → 2 * n ≤ fetched_since (draw ++ begun) → open_run (draw ++ begun) ≡ None
    over l newest none runs enough = by (open_run (draw ++ begun)) refl
      where
        by : (run : Option (List (ℕ × ℕ))) → open_run (draw ++ begun) ≡ run → open_run (draw ++ begun) ≡ None
        by None o = o
        by (Some words) o =
            let is_open = some_run (open_run (draw ++ begun)) words o in
            let few = halts_in_time R image (draw ++ begun) F n l is_open
            (stays_shown draw l newest none runs is_open) bound in
            absurd (omega arith)

    -- what is drawn once is the frame
    same_once : (G : List OpKind) (k : ℕ) (later : Log) → DrawsOnce G R k begun later
        → Throughout ShowsIt later → (G ≡ F) × (k ≡ n)
    same_once G k [] once shown = absurd once
    same_once G k ((event ⟼ Done a w drew) ∷ later) once shown =
        let same : G ≡ F = same_Some _ _ (sym once.0 ∙ shown.0) in (
          same,
          (one_picture F R bound.0 drew n k bound.1 (subst (λ H. IsPicture H R drew k) same once.1)).1,
        )
    same_once G k ((event ⟼ entry) ∷ later) once shown = same_once G k later once shown.1

    pub draws : IsLegal R image (draw ++ begun) → Newest image F begun → NoFrame draw
        → Throughout RunsOn draw → 2 * n ≤ fetched_since (draw ++ begun) → DrawsOnce F R n begun draw
    draws l newest none runs enough =
        let it = at_end R image begun draw (over l newest none runs enough)
        (run_on R image begun [] refl draw l runs) in
        let same = same_once it.0 it.1 draw it.2 (all_show draw l newest none runs) in
        subst (λ k. DrawsOnce F R k begun draw) same.1
        (subst (λ G. DrawsOnce G R it.1 begun draw) same.0 it.2)

  -- what is open when the frame is written is over in time
  halted : (written halt : Log) → IsLegal R image (halt ++ written) → Newest image F written
      → NoFrame halt → Throughout LivesOn halt → Throughout (λ log event entry. NotStrobe event) halt
      → ((G : List OpKind) (m : ℕ) → open_run written ≢ None → IsShown written G → IsBound G R m
      → 2 * m ≤ fetched_since (halt ++ written)) → open_run (halt ++ written) ≡ None
  halted written halt l newest none lives not_strobe enough = by (open_run (halt ++ written)) refl
    where
      by : (run : Option (List (ℕ × ℕ))) → open_run (halt ++ written) ≡ run → open_run (halt ++ written) ≡ None
      by None o = o
      by (Some words) o =
          let is_open = some_run (open_run (halt ++ written)) words o in
          let same = same_run R image F written newest halt l (lives_all halt lives) none not_strobe
          is_open in
          let it = open_shows R image written (legal_before R image halt written l) same.was_open in
          let few = halts_in_time R image (halt ++ written) it.0 it.1 l is_open
          (same.shows it.0 it.2) it.3 in
          let many = enough it.0 it.1 same.was_open it.2 it.3 in
          absurd (omega arith)

pub time_low : (flipped : Bool) → (if flipped then 1 else 2) ≤ 2
time_low true = omega arith
time_low false = omega arith

pub started_not : (entry : Shown) → entry ≡ Started → entry ≢ Offered
started_not entry is wrong = let clash = sym is ∙ wrong in cc

pub shown_in_time : ShownInTime
shown_in_time R image F n before write halt send draw entry l none write_lives enough halts quiet
    two bound runs fetched =
    let accepted : Log = start R image before F in
    let written : Log = write ++ accepted in
    let halted_log : Log = halt ++ written in
    let ready_log : Log = send ++ halted_log in
    let started_l = legal_before R image draw ((Strobe ⟼ entry) ∷ ready_log) l in
    let ready_l = started_l.2 in
    let halted_l = legal_before R image send halted_log ready_l in
    let written_l = legal_before R image halt written halted_l in
    let none_1 = frames_older draw (send ++ (halt ++ write)) none in
    let none_2 = frames_older send (halt ++ write) none_1 in
    let none_send = frames_newer send (halt ++ write) none_1 in
    let none_halt = frames_newer halt write none_2 in
    let none_draw = frames_newer draw (send ++ (halt ++ write)) none in
    let without_send = newer (Strobe ∷ ResetCpu ∷ []) send halt quiet in
    let without_halt = older (Strobe ∷ ResetCpu ∷ []) send halt quiet in
    let send_lives = waits_lives send without_send in
    let halt_lives = waits_lives halt without_halt in
    let time = time_is R image before F in
    let low = time_low (has_flip (life image before)) in
    let at_written = reached R image F before write written_l (lives_on write write_lives)
    (frames_older halt write none_2) (omega arith) in
    let at_halted = newest_on R image F written at_written.0 halt halted_l
    (lives_all halt halt_lives) none_halt in
    let at_ready = newest_on R image F halted_log at_halted send ready_l (lives_all send send_lives)
    none_send in
    let closed = halted R image F written halt halted_l at_written.0 none_halt halt_lives
    (waits_strobe halt without_halt) halts in
    let sends = send_on R image halted_log send ready_l send_lives (waits_strobe send without_send)
    closed (ready_on R image written halt halted_l halt_lives at_written.1) in
    let is : entry ≡ Started = starts R image ready_log entry started_l.0
    (is_sent image ready_log (ticks send) two sends.1) in
    let at_started = newest_step R image F ready_log Strobe entry started_l tt
    (started_not entry is) at_ready in
    let P : Shown → Type 0 = λ e. IsLegal R image (draw ++ (Strobe ⟼ e) ∷ ready_log)
    → Newest image F ((Strobe ⟼ e) ∷ ready_log) → 2 * n ≤ fetched_since (draw ++ (Strobe ⟼ e) ∷ ready_log)
    → DrawsOnce F R n ((Strobe ⟼ e) ∷ ready_log) draw in
    subst P (sym is) (λ l newest fetched. draws R image F n bound ready_log draw l newest none_draw
    (runs_on draw runs) fetched) l at_started fetched
