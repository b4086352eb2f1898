-- A run that begins, and that nothing ends but itself, is finished once.
use Rattle.std.proofs.Common.{length, ◌≡◌, ℕ, suc, inl, inr, ◌⊎◌, List, [], ◌∷◌, ◌++◌, Some, None, refl, sym, ap, ◌∙◌}
use Rattle.std.specs.Prelude.{◌≢◌, option_map}
use Rattle.std.proofs.lemmas.Option.{none-some}
use Rattle.dvg_gen.specs.declared.stroke.Stroke.{Stroke}
use Rattle.dvg_frame.specs.declared.op.OpKind.{OpKind}
use Rattle.dvg_log.specs.Events.{Happening}
use Rattle.dvg_log.specs.declared.event.Event.TheVariants.{Offer, Redraw, Tick, Strobe, Fetch, ResetGen, ResetCpu, ResetAll}
use Rattle.dvg_log.specs.Entries.{Shown}
use Rattle.dvg_log.specs.declared.entry.Entry.TheVariants.{Offered, Refused, Busy, Asked, NothingPublished, Acted, Started, Low, Fetched, Done, Broke, Still, Cleared}
use Rattle.dvg_log.specs.Log.{◌⟼◌, Log, Throughout, history, open_run}
use Rattle.dvg_log.specs.Legal.{IsLegal, IsWanted}
use Rattle.dvg_theorem.proofs.Headline.{always_in_time, draws_published, never_faults}
use Rattle.dvg_theorem.proofs.Linked.{wanting}
use Rattle.dvg_progress.specs.Progress.{DrawsOnce, DrawnInTime}
use Rattle.dvg_progress.proofs.Lives.{RunsOn, runs_on}
use Rattle.dvg_progress.proofs.FetchesSoFar.{counted}

-- where no run is open no word is wanted
none_wanted : (R image : List ℕ) (log : Log) (a : ℕ) → IsLegal R image log → open_run log ≡ None
    → IsWanted (history R image log) a → ⊥
none_wanted R image log a l none wanted = let t = wanting R image log a l wanted in
    none-some t.fetches (sym none ∙ t.open_now)

-- this entry is no `done`
abbrev NotDone : Shown → Type 0
NotDone entry = (a w : ℕ) (drew : List Stroke) → entry ≢ Done a w drew

module _ (R image : List ℕ) (before : Log) where
  -- the run is open and not done, or it was done once
  abbrev pub IsOpen : Log → Type 0
  IsOpen later = (words : List (ℕ × ℕ)) × (open_run (later ++ before) ≡ Some words)
      × Throughout (λ log event entry. NotDone entry) later

  abbrev pub IsOver : Log → Type 0
  IsOver later = (open_run (later ++ before) ≡ None) × (F : List OpKind) × (n : ℕ) × DrawsOnce F R n before later

  -- the run is finished
  finished : (later : Log) (a w : ℕ) (drew : List Stroke)
      → IsLegal R image ((Fetch ⟼ Done a w drew) ∷ later ++ before) → IsOpen later
      → IsOver ((Fetch ⟼ Done a w drew) ∷ later)
  finished later a w drew l is_open =
      let line = (Fetch ⟼ Done a w drew) ∷ later ++ before in
      let drawn = (draws_published R image line l).0 in
      let n = suc (length drawn.1) in
      let time = (always_in_time R image line l).0 drawn.1 drawn.0 drew n drawn.4 drawn.2 drawn.5 in
      let count = counted R image (later ++ before) drawn.1 l.2 drawn.4 in
      (refl, drawn.0, n, (drawn.2, drawn.5, ap suc count ∙ time.0, is_open.2))

  open_step : (later : Log) (event : Happening) (entry : Shown)
      → IsLegal R image ((event ⟼ entry) ∷ later ++ before) → RunsOn later event entry
      → IsOpen later → IsOpen ((event ⟼ entry) ∷ later) ⊎ IsOver ((event ⟼ entry) ∷ later)
  open_step later Fetch (Done a w drew) l runs is = inr (finished later a w drew l is)
  open_step later Fetch (Broke a fault) l runs is =
      absurd (never_faults R image ((Fetch ⟼ Broke a fault) ∷ later ++ before) l).0
  open_step later Fetch (Fetched a w) l runs is =
      inl ((a, w) ∷ is.0, ap (option_map (λ fetches. (a, w) ∷ fetches)) is.1, (λ a w drew e. cc, is.2))
  open_step later Fetch (Low a b) l runs is = inl (is.0, is.1, (λ a w drew e. cc, is.2))
  open_step later Fetch Still l runs is = inl (is.0, is.1, (λ a w drew e. cc, is.2))
  open_step later (Offer F) (Refused fault) l runs is = inl (is.0, is.1, (λ a w drew e. cc, is.2))
  open_step later (Offer F) Busy l runs is = inl (is.0, is.1, (λ a w drew e. cc, is.2))
  open_step later (Offer F) Offered l runs is = inl (is.0, is.1, (λ a w drew e. cc, is.2))
  open_step later Redraw NothingPublished l runs is = inl (is.0, is.1, (λ a w drew e. cc, is.2))
  open_step later Redraw Busy l runs is = inl (is.0, is.1, (λ a w drew e. cc, is.2))
  open_step later Redraw Asked l runs is = inl (is.0, is.1, (λ a w drew e. cc, is.2))
  open_step later Tick (Acted action) l runs is = inl (is.0, is.1, (λ a w drew e. cc, is.2))
  open_step later ResetCpu Cleared l runs is = inl (is.0, is.1, (λ a w drew e. cc, is.2))
  open_step later Strobe entry l runs is = absurd runs
  open_step later ResetGen entry l runs is = absurd runs
  open_step later (ResetAll bytes) entry l runs is = absurd runs
  open_step later event entry l runs is = absurd l.0

  over_step : (later : Log) (event : Happening) (entry : Shown)
      → IsLegal R image ((event ⟼ entry) ∷ later ++ before) → RunsOn later event entry
      → IsOver later → IsOver ((event ⟼ entry) ∷ later)
  over_step later Fetch (Done a w drew) l runs is =
      absurd (none_wanted R image (later ++ before) a l.2 is.0 l.0.1.asked)
  over_step later Fetch (Broke a fault) l runs is =
      absurd (none_wanted R image (later ++ before) a l.2 is.0 l.0.2.asked)
  over_step later Fetch (Fetched a w) l runs is = absurd (none_wanted R image (later ++ before) a l.2 is.0 l.0.1.asked)
  over_step later Fetch (Low a b) l runs is = (is.0, is.1, is.2, is.3)
  over_step later Fetch Still l runs is = (is.0, is.1, is.2, is.3)
  over_step later (Offer F) (Refused fault) l runs is = (is.0, is.1, is.2, is.3)
  over_step later (Offer F) Busy l runs is = (is.0, is.1, is.2, is.3)
  over_step later (Offer F) Offered l runs is = (is.0, is.1, is.2, is.3)
  over_step later Redraw NothingPublished l runs is = (is.0, is.1, is.2, is.3)
  over_step later Redraw Busy l runs is = (is.0, is.1, is.2, is.3)
  over_step later Redraw Asked l runs is = (is.0, is.1, is.2, is.3)
  over_step later Tick (Acted action) l runs is = (is.0, is.1, is.2, is.3)
  over_step later ResetCpu Cleared l runs is = (is.0, is.1, is.2, is.3)
  over_step later Strobe entry l runs is = absurd runs
  over_step later ResetGen entry l runs is = absurd runs
  over_step later (ResetAll bytes) entry l runs is = absurd runs
  over_step later event entry l runs is = absurd l.0

  both : (later : Log) (event : Happening) (entry : Shown)
      → IsLegal R image ((event ⟼ entry) ∷ later ++ before) → RunsOn later event entry
      → IsOpen later ⊎ IsOver later → IsOpen ((event ⟼ entry) ∷ later)
      ⊎ IsOver ((event ⟼ entry) ∷ later)
  both later event entry l runs (inl is) = open_step later event entry l runs is
  both later event entry l runs (inr is) = inr (over_step later event entry l runs is)

  pub run_on : (words : List (ℕ × ℕ)) → open_run before ≡ Some words → (later : Log)
      → IsLegal R image (later ++ before) → Throughout RunsOn later → IsOpen later ⊎ IsOver later
  run_on words o [] l runs = inl (words, o, tt)
  run_on words o ((event ⟼ entry) ∷ later) l runs = both later event entry l runs.0 (run_on words o later l.2 runs.1)

pub at_end : (R image : List ℕ) (before later : Log) → open_run (later ++ before) ≡ None
    → IsOpen R image before later ⊎ IsOver R image before later → (F : List OpKind) × (n : ℕ)
    × DrawsOnce F R n before later
at_end R image before later none (inl is) = absurd (none-some is.0 (sym none ∙ is.1))
at_end R image before later none (inr is) = (is.1, is.2, is.3)

pub drawn_in_time : DrawnInTime
drawn_in_time R image before later l runs none =
    let start : Log = (Strobe ⟼ Started) ∷ before in
    at_end R image start later none (run_on R image start [] refl later l (runs_on later runs))
