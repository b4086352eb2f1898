-- The law of undisturbed runs, of the runs of a log.
use Rattle.std.proofs.Common.{◌≡◌, ℕ, suc, List, [], ◌∷◌, length, Option, Some, None, refl, sym, ap, ◌∙◌, subst}
use Rattle.std.specs.Prelude.{option_map}
use Rattle.std.proofs.lemmas.Option.{none-some, same_Some}
use Rattle.dvg_mem.specs.Memory.{fetched, IsRom}
use Rattle.dvg_gen.specs.Run.{wanted, fate, strokes, Runs, begins, fetches}
use Rattle.dvg_gen.specs.Told.{Newest, Leaves, starts, takes, More, Drew, reply}
use Rattle.dvg_gen.proofs.Replies.{drew_finished}
use Rattle.dvg_gen.proofs.OneRun.{leaves_same}
use Rattle.dvg_gen.proofs.GeneratorAfterHistory.{open_goes}
use Rattle.dvg_frame.specs.Picture.{IsPicture}
use Rattle.dvg_driver.specs.declared.action.Action.TheVariants.{Wrote}
use Rattle.dvg_log.specs.Events.{Happening}
use Rattle.dvg_log.specs.declared.event.Event.TheVariants.{Fetch, ResetGen, ResetAll}
use Rattle.dvg_log.specs.Entries.{Shown}
use Rattle.dvg_log.specs.declared.entry.Entry.TheVariants.{Acted, Started, Fetched, Done, Broke}
use Rattle.dvg_log.specs.Log.{◌⟼◌, Log, ram, history, open_run}
use Rattle.dvg_log.specs.Legal.{Always, Fits, IsLegal}
use Rattle.dvg_theorem.specs.Fetches.{IsInMemory}
use Rattle.dvg_theorem.proofs.Words.{words_are_whole}
use Rattle.dvg_log.specs.Headline.{IsUntouched, DrewHeld}
use Rattle.dvg_theorem.proofs.Law.{undisturbed}
use Rattle.dvg_theorem.proofs.LeastMemory.{finished_picture}
use Rattle.dvg_theorem.proofs.Linked.{added, fetching}

-- the ROM of a legal log
pub rom_of : (R image : List ℕ) (log : Log) → IsLegal R image log → IsRom R
rom_of R image [] legal = legal.0
rom_of R image ((event ⟼ entry) ∷ log) legal = rom_of R image log legal.2

-- a run with one more fetch had the others
before_fetch : (fetch : ℕ × ℕ) (run : Option (List (ℕ × ℕ))) (met : List (ℕ × ℕ)) → option_map (λ older. fetch ∷ older) run ≡ Some met → (older : List (ℕ × ℕ)) × (run ≡ Some older) × (fetch ∷ older ≡ met)
before_fetch fetch None met e = absurd (none-some met e)
before_fetch fetch (Some older) met e = (older, refl, same_Some _ _ e)

-- the open run is one over the RAM, to which nothing was written
runs_over : (R image : List ℕ) (log : Log) {run : Newest} → IsLegal R image log → IsUntouched log → Leaves (history R image log) run → (met : List (ℕ × ℕ)) → open_run log ≡ Some met
    → Runs (fetched (ram image log) R) (length met) run.visits run.held
runs_over R image [] legal same leaves met is_open = absurd (none-some met is_open)
runs_over R image ((event ⟼ Started) ∷ log) legal same (starts leaves) met is_open =
    subst (λ some. Runs (fetched (ram image ((event ⟼ Started) ∷ log)) R) (length some) [] None) (same_Some _ _ is_open) begins
runs_over R image ((ResetGen ⟼ entry) ∷ log) legal same leaves met is_open = absurd (none-some met is_open)
runs_over R image ((ResetAll bytes ⟼ entry) ∷ log) legal same leaves met is_open = absurd (none-some met is_open)
runs_over R image ((Fetch ⟼ Fetched a word) ∷ log) legal same (takes {run = run} {visits = visits} {held = held} leaves is_running adds) met is_open =
    let older = before_fetch (a, word) (open_run log) met is_open in
    let fetch = legal.0.1 in
    let fetching_run = fetching R image log a (Some word) More legal.2 fetch in
    let at : a ≡ wanted run.visits run.held = subst (λ r. a ≡ wanted r.visits r.held) (leaves_same fetch.asked.leaves leaves) fetching_run.at in
    let there : fetched (ram image log) R (wanted run.visits run.held) ≡ Some word = subst (λ b. fetched (ram image log) R b ≡ Some word) at (words_are_whole R image ((Fetch ⟼ Fetched a word) ∷ log) legal).0 in
    subst (λ some. Runs (fetched (ram image log) R) (length some) visits held) older.2
    (fetches (runs_over R image log legal.2 same leaves older.0 older.1) (open_goes leaves is_running) there adds)
runs_over R image ((event ⟼ Fetched a word) ∷ log) legal same leaves met is_open = absurd legal.0
runs_over R image ((event ⟼ Done a word drew) ∷ log) legal same leaves met is_open = absurd (none-some met is_open)
runs_over R image ((event ⟼ Broke a fault) ∷ log) legal same leaves met is_open = absurd (none-some met is_open)
runs_over R image ((event ⟼ Acted (Wrote a byte)) ∷ log) legal same leaves met is_open = absurd same
runs_over R image (line ∷ log) legal same leaves met is_open = runs_over R image log legal.2 same leaves met is_open

held_line : (R image : List ℕ) (log : Log) (event : Happening) (entry : Shown) → IsLegal R image log → IsInMemory R image log event entry → Fits R image log event entry → DrewHeld R image log event entry
held_line R image log Fetch (Done a word drew) legal is_there fits = λ half F met draft closed holds same is_open.
    let memory = fetched (ram image log) R in
    let fetch = fits.1 in
    let fetching_run = fetching R image log a (Some word) (Drew drew) legal fetch in
    let there : fetched (ram image log) R (wanted fetch.asked.run.visits fetch.asked.run.held) ≡ Some word = subst (λ b. fetched (ram image log) R b ≡ Some word) fetching_run.at is_there in
    let more = added fetch in
    let runs = fetches (runs_over R image log legal same fetch.asked.leaves met is_open) fetching_run.goes there more.2 in
    let end = drew_finished more.1 (fate more.0) (strokes fetch.asked.run.first more.0) drew (ap (λ run. reply (Some word) run) (sym more.3) ∙ fetch.replies) in
    let whole = subst (λ held. Runs memory (suc (length met)) more.0 held) end.0 runs in
    let drawn = undisturbed half F (ram image log) R draft (rom_of R image log legal) closed holds in
    subst (λ strokes. IsPicture F R strokes (suc (length met))) end.2 (finished_picture drawn fetch.asked.run.first whole end.1)
held_line R image log event (Done a word drew) legal there fits = absurd fits
held_line R image log event entry legal there fits = tt

pub draws_held : Always DrewHeld
draws_held R image [] legal = tt
draws_held R image ((event ⟼ entry) ∷ log) legal = (held_line R image log event entry legal.2 (words_are_whole R image ((event ⟼ entry) ∷ log) legal).0 legal.0, draws_held R image log legal.2)
