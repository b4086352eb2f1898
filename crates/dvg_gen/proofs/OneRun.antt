-- A history leaves exactly one run, and a memory has at most one run of a given number of words.
use Rattle.std.proofs.Common.{◌≡◌, ℕ, ◌<◌, ◌≤◌, List, ◌∷◌, Option, Some, None, refl, sym, ap, ◌∙◌, subst, ⊎_elim, arith}
use Rattle.std.proofs.lemmas.Bool.{cases_lt}
use Rattle.std.specs.Prelude.{IfSome}
use Rattle.dvg_code.specs.Spelling.{IsFirst}
use Rattle.dvg_code.specs.Words.{IsWord}
use Rattle.dvg_code.proofs.Beginnings.{one_word, two_words}
use Rattle.dvg_code.proofs.Unique.{same_spelling}
use Rattle.dvg_gen.specs.Laws.{CanBeTold}
use Rattle.dvg_gen.specs.Run.{Visit, next, wanted, Goes, Finished, fate, Adds, first, one, two, Runs, begins, fetches}
use Rattle.dvg_gen.specs.Told.{Told, Start, Reset, Fed, Newest, grown, stopped, begun, Leaves, new, starts, resets, meets_hole, takes, wants}
use Rattle.dvg_gen.proofs.Words.{not_first}

-- one more word makes one run
pub adds_same : {visits visits1 visits2 : List Visit} {held held1 held2 : Option ℕ} {word : ℕ} → Adds visits held word visits1 held1 → Adds visits held word visits2 held2 → (visits1 ≡ visits2) × (held1 ≡ held2)
adds_same (first p) (first q) = (refl, refl)
adds_same (first p) (one s) = absurd (not_first _ _ p s)
adds_same (one s) (first p) = absurd (not_first _ _ p s)
adds_same (one {visits = visits} s) (one t) = (ap (λ code. record { place = next visits; code = code } ∷ visits) (same_spelling _ _ _ s t), refl)
adds_same (two {visits = visits} s) (two t) = (ap (λ code. record { place = next visits; code = code } ∷ visits) (same_spelling _ _ _ s t), refl)

-- a history leaves one run at most
pub leaves_same : {history : List Told} {run run' : Newest} → Leaves history run → Leaves history run' → run ≡ run'
leaves_same new new = refl
leaves_same (starts l) (starts m) = ap begun (leaves_same l m)
leaves_same (resets l) (resets m) = ap stopped (leaves_same l m)
leaves_same (meets_hole l o) (meets_hole m p) = ap stopped (leaves_same l m)
leaves_same (takes {run = run} {word = word} {visits = visits} {held = held} l o adds) (takes {run = run'} {visits = visits'} {held = held'} m p adds') =
    let e = leaves_same l m in
    let moved : Adds run.visits run.held word visits' held' = subst (λ r. Adds r.visits r.held word visits' held') (sym e) adds' in
    let same = adds_same adds moved in
    ap (λ r. grown r visits held) e ∙ (ap (λ list. grown run' list held) same.0 ∙ ap (λ h. grown run' visits' h) same.1)

-- what a run holds wants a second word
pub held_first : {history : List Told} {run : Newest} → Leaves history run → IfSome run.held IsFirst
held_first new = tt
held_first (starts l) = tt
held_first (resets l) = held_first l
held_first (meets_hole l o) = held_first l
held_first (takes l o (first p)) = p
held_first (takes l o (one s)) = tt
held_first (takes l o (two s)) = tt

-- each word can be added
some_adds : (visits : List Visit) (held : Option ℕ) (word : ℕ) → IfSome held IsFirst → IsWord word → (visits' : List Visit) × (held' : Option ℕ) × Adds visits held word visits' held'
some_adds visits None word wants fits =
    ⊎_elim
    (λ low. (visits, Some word, first low))
    (λ high. let read = one_word word high fits in (record { place = next visits; code = read.0 } ∷ visits, None, one read.1))
    (cases_lt word 45056)
some_adds visits (Some held) word wants fits =
    let read = two_words held word wants fits in (record { place = next visits; code = read.0 } ∷ visits, None, two read.1)

-- a history that leaves a run still leaves one with whatever can be told then
pub leaves_more : (history : List Told) (run : Newest) (told : Told) → Leaves history run → CanBeTold run told → (later : Newest) × Leaves (told ∷ history) later
leaves_more history run Start l can = (begun run, starts l)
leaves_more history run Reset l can = (stopped run, resets l)
leaves_more history run (Fed None) l can = (stopped run, meets_hole l can)
leaves_more history run (Fed (Some word)) l can =
    let adds = some_adds run.visits run.held word (held_first l) can.1 in
    (grown run adds.0 adds.1, takes l can.0 adds.2)

some_is : {x y : ℕ} → ◌≡◌ {A = Option ℕ} (Some x) (Some y) → x ≡ y
some_is e = cc

-- a memory has one run of this many words
pub runs_same : {memory : ℕ → Option ℕ} {count : ℕ} {visits visits' : List Visit} {held held' : Option ℕ} → Runs memory count visits held → Runs memory count visits' held' → (visits ≡ visits') × (held ≡ held')
runs_same begins begins = (refl, refl)
runs_same {memory} (fetches {word = w} {visits = us} {visits' = vs} {held = k} {held' = h} r g m a) (fetches {word = w2} {visits = us2} {visits' = vs2} {held = k2} {held' = h2} r2 g2 m2 a2) =
    let same = runs_same r r2 in
    let at : wanted us k ≡ wanted us2 k2 = ap (λ x. wanted x k) same.0 ∙ ap (λ x. wanted us2 x) same.1 in
    let e : w2 ≡ w = some_is (sym m2 ∙ (ap memory (sym at) ∙ m)) in
    let b : Adds us k w vs2 h2 = subst (λ x. Adds us k x vs2 h2) e (subst (λ x. Adds us x w2 vs2 h2) (sym same.1) (subst (λ x. Adds x k2 w2 vs2 h2) (sym same.0) a2)) in
    adds_same a b

-- a shorter run of it goes on
pub shorter : {memory : ℕ → Option ℕ} {m : ℕ} {visits : List Visit} {held : Option ℕ} → Runs memory m visits held → (n : ℕ) → n < m → (us : List Visit) × (k : Option ℕ) × Runs memory n us k × (fate us ≡ Goes)
shorter begins n below = absurd (omega arith)
shorter {memory} (fetches {count = m} {visits = us} {held = k} r g e a) n below =
    ⊎_elim
    (λ lt. shorter r n lt)
    (λ ge. let same : m ≡ n = omega arith in (us, k, subst (λ x. Runs memory x us k) same r, g))
    (cases_lt n m)

-- a run that goes on has fewer words than one that is finished
pub before_end : {memory : ℕ → Option ℕ} {m n : ℕ} {vs us : List Visit} {held k : Option ℕ} → Runs memory m vs held → fate vs ≡ Goes → Runs memory n us k → fate us ≡ Finished → m < n
before_end {memory} {m} {n} {vs} {us} {held} {k} r g q f =
    ⊎_elim
    (λ lt. lt)
    (λ ge. ⊎_elim
    (λ lt. let s = shorter r n lt in clash s.0 (runs_same s.2 q).0 s.3)
    (λ le. let e : m ≡ n = omega arith in clash vs (runs_same (subst (λ x. Runs memory x vs held) e r) q).0 g)
    (cases_lt n m))
    (cases_lt m n)
  where
    clash : (zs : List Visit) → zs ≡ us → fate zs ≡ Goes → m < n
    clash zs e h = let d : Finished ≡ Goes = sym f ∙ (ap fate (sym e) ∙ h) in cc

-- two finished runs are one
pub one_end : {memory : ℕ → Option ℕ} {m n : ℕ} {vs us : List Visit} {held k : Option ℕ} → Runs memory m vs held → fate vs ≡ Finished → Runs memory n us k → fate us ≡ Finished → (m ≡ n) × (vs ≡ us)
one_end {memory} {m} {n} {vs} {us} {held} {k} r g q f =
    let a : n ≤ m = ⊎_elim (λ lt. let s = shorter q m lt in clash vs s.0 g (runs_same r s.2).0 s.3) (λ ge. ge) (cases_lt m n) in
    let b : m ≤ n = ⊎_elim (λ lt. let s = shorter r n lt in clash us s.0 f (runs_same q s.2).0 s.3) (λ ge. ge) (cases_lt n m) in
    let e : m ≡ n = omega arith in
    (e, (runs_same (subst (λ x. Runs memory x vs held) e r) q).0)
  where
    clash : {A : Type 0} (xs zs : List Visit) → fate xs ≡ Finished → xs ≡ zs → fate zs ≡ Goes → A
    clash xs zs x e h = let d : Finished ≡ Goes = sym x ∙ (ap fate e ∙ h) in cc
