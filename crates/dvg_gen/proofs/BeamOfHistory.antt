-- The beam is that of all instructions that a history completed.
use Rattle.std.proofs.Common.{◌≡◌, ℕ, List, [], ◌∷◌, ◌++◌, Option, refl, sym, ap, ◌∙◌, subst}
use Rattle.dvg_gen.specs.declared.beam.Beam.{Beam}
use Rattle.dvg_gen.specs.Drawing.{moved}
use Rattle.dvg_gen.specs.Run.{Visit, next, beam_after, Adds, first, one, two}
use Rattle.dvg_gen.specs.Told.{Told, Newest, nothing, Leaves, new, starts, resets, meets_hole, takes}
use Rattle.dvg_gen.specs.Whole.{Completed}
use Rattle.dvg_gen.specs.Whole as whole
use Rattle.dvg_gen.proofs.OneRun.{adds_same, leaves_same}

-- a run's instructions with one more word are what the word completed, and then those before
added_by : {visits visits' : List Visit} {held held' : Option ℕ} {word : ℕ} → Adds visits held word visits' held' → (added : List Visit) × (visits' ≡ added ++ visits)
added_by (first p) = ([], refl)
added_by (one {visits = visits} {code = code} s) = (record { place = next visits; code = code } ∷ [], refl)
added_by (two {visits = visits} {code = code} s) = (record { place = next visits; code = code } ∷ [], refl)

-- a history that leaves a run has a list of all instructions that it completed
pub some_completed : {history : List Told} {run : Newest} → Leaves history run → (all : List Visit) × Completed history all
some_completed new = ([], whole.new)
some_completed (starts l) = let older = some_completed l in (older.0, whole.starts older.1)
some_completed (resets l) = let older = some_completed l in (older.0, whole.resets older.1)
some_completed (meets_hole l o) = let older = some_completed l in (older.0, whole.meets_hole older.1)
some_completed (takes {run = run} {word = word} {held = held} l o adds) =
    let older = some_completed l in
    let added = added_by adds in
    (added.0 ++ older.0, whole.takes added.0 older.1 l (subst (λ list. Adds run.visits run.held word list held) added.1 adds))

-- the beam after two lists of instructions
beam_after-append : (beam : Beam) (xs ys : List Visit) → beam_after beam (xs ++ ys) ≡ beam_after (beam_after beam ys) xs
beam_after-append beam [] ys = refl
beam_after-append beam (x ∷ xs) ys = ap (λ b. moved b x.code) (beam_after-append beam xs ys)

-- the beam at the newest run is that of all instructions
pub beam_of_completed : {history : List Told} {run : Newest} {all : List Visit} → Leaves history run → Completed history all → beam_after run.first run.visits ≡ beam_after nothing.first all
beam_of_completed new whole.new = refl
beam_of_completed (starts l) (whole.starts c) = beam_of_completed l c
beam_of_completed (resets l) (whole.resets c) = beam_of_completed l c
beam_of_completed (meets_hole l o) (whole.meets_hole c) = beam_of_completed l c
beam_of_completed (takes {run = run} {word = word} {visits = visits} {held = held} l o adds) (whole.takes {all = all} {run = run'} {held = held'} added c l' adds') =
    let same_run = leaves_same l l' in
    let at_run : Adds run.visits run.held word (added ++ run.visits) held' = subst (λ r. Adds r.visits r.held word (added ++ r.visits) held') (sym same_run) adds' in
    let same : visits ≡ added ++ run.visits = (adds_same adds at_run).0 in
    ap (λ list. beam_after run.first list) same
    ∙ beam_after-append run.first added run.visits
    ∙ ap (λ b. beam_after b added) (beam_of_completed l c)
    ∙ sym (beam_after-append nothing.first added all)
