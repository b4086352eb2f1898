-- shown_in_time needs no halting of what is open, and strobes may come in between: a run is open
-- only where a strobe was sent, and then each one that comes begins a run.
use Rattle.std.proofs.Common.{◌≡◌, ℕ, suc, ◌+◌, ◌*◌, ◌≤◌, Bool, true, false, List, [], ◌∷◌, ◌++◌, None, refl, sym, ap, ◌∙◌, subst, arith}
use Rattle.std.specs.Prelude.{◌≢◌, is_none}
use Rattle.std.proofs.lemmas.Bool.{true≢false}
use Rattle.dvg_frame.specs.declared.op.OpKind.{OpKind}
use Rattle.dvg_frame.specs.Layout.{size}
use Rattle.dvg_frame.specs.Picture.{IsBound}
use Rattle.dvg_driver.specs.Script.{has_flip}
use Rattle.dvg_driver.specs.declared.action.Action.TheVariants.{Sent}
use Rattle.dvg_log.specs.declared.event.Event.TheVariants.{Offer, Tick, Strobe, ResetGen, ResetCpu, ResetAll}
use Rattle.dvg_log.specs.Entries.{Shown}
use Rattle.dvg_log.specs.declared.entry.Entry.TheVariants.{Offered, Acted, Started, NoStrobe, Cleared}
use Rattle.dvg_log.specs.Log.{◌⟼◌, Log, Throughout, open_run, life, strobed}
use Rattle.dvg_log.specs.Legal.{IsLegal}
use Rattle.dvg_progress.specs.Progress.{Without, ticks, fetched_since, DrawsOnce}
use Rattle.dvg_progress.proofs.Lives.{LivesOn, lives_on, runs_on}
use Rattle.dvg_progress.proofs.Newest.{Newest, newest_step, newest_on, none_stays}
use Rattle.dvg_progress.proofs.StrobeByTwoTicks.{Ready, sent, strobed_stays, ready_tick, ready_plain, is_sent}
use Rattle.dvg_progress.proofs.StrobeAfterFlip.{legal_before}
use Rattle.dvg_progress.proofs.WayOfFrame.{lives_all, frames_newer, frames_older, starts, started_not, time_low, reached, draws}
use Rattle.dvg_progress.proofs.WritesUntilFlip.{start, time_is}

-- F alone is accepted; 2W + 2 ticks, and 2 more; a strobe; 2n fetches: F is drawn
abbrev pub ShownSooner : Type 0
ShownSooner = (R image : List ℕ) (F : List OpKind) (n : ℕ) (before write send draw : Log)
    (entry : Shown) → let written = write ++ (Offer F ⟼ Offered) ∷ before in
    let started = (Strobe ⟼ entry) ∷ send ++ written in IsLegal R image (draw ++ started)
    → Throughout (λ _ _ e. e ≢ Offered) (draw ++ (send ++ write))
    → Without (ResetCpu ∷ []) write → 2 * size F + 2 ≤ ticks write
    → Without (ResetCpu ∷ []) send → 2 ≤ ticks send → IsBound F R n
    → Without (Strobe ∷ ResetGen ∷ []) draw → 2 * n ≤ fetched_since (draw ++ started) → DrawsOnce F R n started draw

-- while no strobe was sent no run is open
unstrobed : (R image : List ℕ) (log : Log) → IsLegal R image log → strobed log ≡ false → open_run log ≡ None
unstrobed R image [] l dark = refl
unstrobed R image ((ResetAll bytes ⟼ Cleared) ∷ log) l dark = refl
unstrobed R image ((ResetAll bytes ⟼ entry) ∷ log) l dark = absurd l.0
unstrobed R image ((Strobe ⟼ Started) ∷ log) l dark = absurd (true≢false (sym l.0 ∙ dark))
unstrobed R image ((Strobe ⟼ NoStrobe) ∷ log) l dark = unstrobed R image log l.2 dark
unstrobed R image ((Strobe ⟼ entry) ∷ log) l dark = absurd l.0
unstrobed R image ((event ⟼ Acted Sent) ∷ log) l dark = absurd (true≢false dark)
unstrobed R image ((event ⟼ entry) ∷ log) l dark =
    none_stays R image log event entry l tt (unstrobed R image log l.2 dark)

-- whatever comes but resets: two ticks send the strobe, where none was sent before
ready_soon : (R image : List ℕ) (start later : Log) → IsLegal R image (later ++ start)
    → Throughout LivesOn later → Ready image start 0 → Ready image (later ++ start) (ticks later)
ready_soon R image start [] l lives ready = ready
ready_soon R image start ((Tick ⟼ entry) ∷ later) l lives ready =
    by (strobed (later ++ start)) refl (ready_soon R image start later l.2 lives.1 ready)
  where
    by : (was_sent : Bool) → strobed (later ++ start) ≡ was_sent → Ready image (later ++ start) (ticks later)
        → Ready image ((Tick ⟼ entry) ∷ later ++ start) (suc (ticks later))
    by true s before = sent (strobed_stays (later ++ start) Tick entry tt s)
    by false dark before =
        let none = unstrobed R image (later ++ start) l.2 dark in
        ready_tick R image (later ++ start) entry (ticks later) (suc (ticks later)) l
        (λ few. omega arith) (λ few is_open. absurd
        (true≢false (sym (ap is_none none) ∙ is_open))) before
ready_soon R image start ((event ⟼ entry) ∷ later) l lives ready =
    ready_plain R image (later ++ start) event entry (ticks later) l lives.0 refl
    (ready_soon R image start later l.2 lives.1 ready)

pub shown_sooner : ShownSooner
shown_sooner R image F n before write send draw entry l none write_lives enough quiet two bound runs
    fetched =
    let accepted : Log = start R image before F in
    let written : Log = write ++ accepted in
    let ready_log : Log = send ++ written in
    let started_l = legal_before R image draw ((Strobe ⟼ entry) ∷ ready_log) l in
    let ready_l = started_l.2 in
    let written_l = legal_before R image send written ready_l in
    let none_1 = frames_older draw (send ++ write) none in
    let none_write = frames_older send write none_1 in
    let none_send = frames_newer send write none_1 in
    let none_draw = frames_newer draw (send ++ write) none in
    let send_lives = lives_on send quiet in
    let time = time_is R image before F in
    let low = time_low (has_flip (life image before)) in
    let at_written = reached R image F before write written_l (lives_on write write_lives)
    none_write (omega arith) in
    let at_ready = newest_on R image F written at_written.0 send ready_l (lives_all send send_lives)
    none_send in
    let sends = ready_soon R image written send ready_l send_lives at_written.1 in
    let is : entry ≡ Started = starts R image ready_log entry started_l.0
    (is_sent image ready_log (ticks send) two sends) in
    let at_started = newest_step R image F ready_log Strobe entry started_l tt
    (started_not entry is) at_ready in
    let P : Shown → Type 0 = λ e. IsLegal R image (draw ++ (Strobe ⟼ e) ∷ ready_log)
    → Newest image F ((Strobe ⟼ e) ∷ ready_log) → 2 * n ≤ fetched_since (draw ++ (Strobe ⟼ e) ∷ ready_log)
    → DrawsOnce F R n ((Strobe ⟼ e) ∷ ready_log) draw in
    subst P (sym is) (λ l newest fetched. draws R image F n bound ready_log draw l newest none_draw
    (runs_on draw runs) fetched) l at_started fetched
