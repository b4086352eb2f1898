-- The open run of a log is the run that the generator's history leaves.
use Rattle.std.proofs.Common.{◌≡◌, ℕ, true, List, [], ◌∷◌, Option, Some, None, refl, sym, ap, ◌∙◌, subst}
use Rattle.std.specs.Prelude.{is_some, option_map}
use Rattle.std.proofs.lemmas.Option.{none-some, same_Some}
use Rattle.dvg_gen.specs.Run.{Visit, wanted, Goes, fate, strokes, Adds}
use Rattle.dvg_gen.specs.Told.{Told, Fed, Newest, goes_on, grown, Leaves, new, starts, resets, takes, Reply, More, Drew, Fails, reply, wants}
use Rattle.dvg_gen.proofs.GeneratorAfterHistory.{open_goes}
use Rattle.dvg_gen.proofs.OneRun.{adds_same, leaves_same}
use Rattle.dvg_gen.proofs.Replies.{more_goes, drew_finished, fails_shut, wants_open}
use Rattle.dvg_log.specs.declared.event.Event.TheVariants.{Fetch, ResetGen, ResetAll}
use Rattle.dvg_log.specs.declared.entry.Entry.TheVariants.{Started, Fetched, Done, Broke}
use Rattle.dvg_gen.specs.Bytes.{word_of}
use Rattle.dvg_log.specs.Log.{◌⟼◌, Log, meets, history, open_run}
use Rattle.dvg_log.specs.Legal.{IsWanted, IsFetch, IsLegal}

-- the words of these fetches, newest first, are cut into these instructions, and perhaps a first word
pub data Cut : List (ℕ × ℕ) → List Visit → Option ℕ → Type 0 where
  none : Cut [] [] None
  word : {ws : List (ℕ × ℕ)} {w : ℕ × ℕ} {vs vs' : List Visit} {held held' : Option ℕ} → Cut ws vs held → Adds vs held w.1 vs' held' → Cut (w ∷ ws) vs' held'

pub cut_same : {ws : List (ℕ × ℕ)} {vs vs2 : List Visit} {held held2 : Option ℕ} → Cut ws vs held → Cut ws vs2 held2 → (vs ≡ vs2) × (held ≡ held2)
cut_same none none = (refl, refl)
cut_same (word {w = w} {vs = us} {vs' = vs} {held = k} {held' = held} c a) (word {vs = us2} {vs' = vs2} {held = k2} {held' = held2} d b) =
    let e = cut_same c d in
    let b2 : Adds us k w.1 vs2 held2 = subst (λ x. Adds us x w.1 vs2 held2) (sym e.1) (subst (λ x. Adds x k2 w.1 vs2 held2) (sym e.0) b) in
    adds_same a b2

-- a run with one more fetch had the others
more_parts : (w : ℕ × ℕ) (run : Option (List (ℕ × ℕ))) (ws : List (ℕ × ℕ)) → option_map (λ fetches. w ∷ fetches) run ≡ Some ws → (us : List (ℕ × ℕ)) × (run ≡ Some us) × (w ∷ us ≡ ws)
more_parts w None ws e = absurd (none-some ws e)
more_parts w (Some us) ws e = (us, refl, same_Some _ _ e)

-- the history's instructions are those of the open run's fetches
pub linked : (R image : List ℕ) (log : Log) {run : Newest} → Leaves (history R image log) run → (ws : List (ℕ × ℕ)) → open_run log ≡ Some ws → Cut ws run.visits run.held
linked R image [] l ws o = absurd (none-some ws o)
linked R image ((event ⟼ Started) ∷ log) (starts l) ws o = subst (λ x. Cut x [] None) (same_Some _ _ o) none
linked R image ((ResetGen ⟼ entry) ∷ log) l ws o = absurd (none-some ws o)
linked R image ((ResetAll bytes ⟼ entry) ∷ log) l ws o = absurd (none-some ws o)
linked R image ((event ⟼ Fetched a w) ∷ log) (takes {visits = vs} {held = held} l p x) ws o =
    let q = more_parts (a, w) (open_run log) ws o in
    subst (λ y. Cut y vs held) q.2 (word (linked R image log l q.0 q.1) x)
linked R image ((event ⟼ Done a w s) ∷ log) l ws o = absurd (none-some ws o)
linked R image ((event ⟼ Broke a fault) ∷ log) l ws o = absurd (none-some ws o)
linked R image (line ∷ log) l ws o = linked R image log l ws o

some_more : (w : ℕ × ℕ) (run : Option (List (ℕ × ℕ))) → is_some run ≡ is_some (option_map (λ fetches. w ∷ fetches) run)
some_more w None = refl
some_more w (Some ws) = refl

-- a legal log has an open run where its history leaves one
pub opened : (R image : List ℕ) (log : Log) {run : Newest} → IsLegal R image log → Leaves (history R image log) run → run.is_open ≡ is_some (open_run log)
opened R image [] g new = refl
opened R image ((event ⟼ Started) ∷ log) g (starts l) = refl
opened R image ((ResetGen ⟼ entry) ∷ log) g (resets l) = refl
opened R image ((ResetAll bytes ⟼ entry) ∷ log) g (resets l) = refl
opened R image ((Fetch ⟼ Fetched a w) ∷ log) g (takes {run = run} {visits = vs} {held = held} l p x) =
    let f = g.0.1 in
    let e = leaves_same (takes l p x) f.leaves_later in
    let rep : reply (Some w) (grown run vs held) ≡ More = ap (λ q. reply (Some w) q) e ∙ f.replies in
    let goes = more_goes x (open_goes l p) (strokes run.first vs) rep in
    ap goes_on goes ∙ (sym p ∙ (opened R image log g.2 l ∙ some_more (a, w) (open_run log)))
opened R image ((Fetch ⟼ Done a w s) ∷ log) g (takes {run = run} {visits = vs} {held = held} l p x) =
    let f = g.0.1 in
    let e = leaves_same (takes l p x) f.leaves_later in
    let rep : reply (Some w) (grown run vs held) ≡ Drew s = ap (λ q. reply (Some w) q) e ∙ f.replies in
    let fin = drew_finished held (fate vs) (strokes run.first vs) s rep in
    ap goes_on fin.1
opened R image ((Fetch ⟼ Broke a fault) ∷ log) g l =
    let found = word_of (meets R image log a) in
    let f : IsFetch (history R image log) a found (Fails fault) = subst (λ w. IsFetch (history R image log) a w (Fails fault)) (sym (ap word_of g.0.1)) g.0.2 in
    let e = leaves_same l f.leaves_later in
    fails_shut found fault l (ap (λ q. reply found q) e ∙ f.replies)
opened R image ((event ⟼ Fetched a w) ∷ log) g l = absurd g.0
opened R image ((event ⟼ Done a w s) ∷ log) g l = absurd g.0
opened R image ((event ⟼ Broke a fault) ∷ log) g l = absurd g.0
opened R image ((event ⟼ entry) ∷ log) g l = opened R image log g.2 l

-- the run that a fetch goes on with
pub record Fetching (R image : List ℕ) (log : Log) (run : Newest) (a : ℕ) : Type 0 where
  pub fetches : List (ℕ × ℕ)
  pub open_now : open_run log ≡ Some fetches
  pub is_open : run.is_open ≡ true
  pub at : a ≡ wanted run.visits run.held
  pub goes : fate run.visits ≡ Goes
  pub cut : Cut fetches run.visits run.held

pub wanting : (R image : List ℕ) (log : Log) (a : ℕ) → IsLegal R image log → (f : IsWanted (history R image log) a) → Fetching R image log f.run a
wanting R image log a g f =
    let w = wants_open f.run a f.wanted in
    let s = some_of (open_run log) (sym (opened R image log g f.leaves) ∙ w.0) in
    record { fetches = s.0; open_now = s.1; is_open = w.0; at = w.1; goes = open_goes f.leaves w.0; cut = linked R image log f.leaves s.0 s.1 }
  where
    some_of : (q : Option (List (ℕ × ℕ))) → is_some q ≡ true → (ws : List (ℕ × ℕ)) × (q ≡ Some ws)
    some_of None e = absurd (cc)
    some_of (Some ws) e = (ws, refl)

-- one address is wanted
pub same_wanted : {told : List Told} {a b : ℕ} → IsWanted told a → IsWanted told b → a ≡ b
same_wanted f g = same_Some _ _ (sym f.wanted ∙ (ap wants (leaves_same f.leaves g.leaves) ∙ g.wanted))

-- a fetch is of the address that is wanted
pub fetching : (R image : List ℕ) (log : Log) (a : ℕ) (found : Option ℕ) (answer : Reply) → IsLegal R image log → (f : IsFetch (history R image log) a found answer) → Fetching R image log f.asked.run a
fetching R image log a found answer g f = wanting R image log a g f.asked

-- how a fetched word is added
pub added : {told : List Told} {a w : ℕ} {answer : Reply} → (f : IsFetch told a (Some w) answer) → (vs : List Visit) × (held : Option ℕ) × Adds f.asked.run.visits f.asked.run.held w vs held × (f.later ≡ grown f.asked.run vs held)
added {w = w} f = by f.asked.leaves f.later f.leaves_later
  where
    by : {g : List Told} {r : Newest} → Leaves g r → (q : Newest) → Leaves (Fed (Some w) ∷ g) q → (vs : List Visit) × (held : Option ℕ) × Adds r.visits r.held w vs held × (q ≡ grown r vs held)
    by l q (takes {run = s} {visits = vs} {held = held} m o x) =
        let d = leaves_same m l in
        (vs, held, subst (λ y. Adds y.visits y.held w vs held) d x, ap (λ y. grown y vs held) d)
