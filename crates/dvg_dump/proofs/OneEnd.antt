-- The run over a memory has exactly one end.
use Rattle.std.proofs.Common.{◌≡◌, ℕ, zero, suc, ◌<◌, ◌≤◌, List, [], ◌∷◌, Option, Some, None, true, refl, sym, ap, ◌∙◌, subst, ◌⊎◌, inl, inr, ⊎_elim, arith, rules, lit≤, if◌then◌else◌}
use Rattle.std.proofs.lemmas.Bool.{cases_lt}
use Rattle.std.specs.Prelude.{IfSome, nat_lt}
use Rattle.dvg_code.specs.Words.{IsWord}
use Rattle.dvg_gen.specs.declared.taken.GenFault.{GenFault}
use Rattle.dvg_gen.specs.declared.taken.GenFault.TheVariants.{Hole}
use Rattle.dvg_gen.specs.Run.{Visit, Fate, Goes, Finished, Breaks, fate, wanted, Adds, first, one, two, Runs, begins, fetches}
use Rattle.dvg_gen.specs.Told.{Told, Fed, Newest, nothing, goes_on as goes_by, grown, Leaves, new, starts, takes}
use Rattle.dvg_gen.proofs.OneRun.{leaves_more, leaves_same, runs_same}
use Rattle.dvg_dump.specs.Ends.{End, Complete, Broken, Endless, Ends, drawn_by, halts, breaks, meets_hole, goes_on}

-- a shorter run of it fetches one word more
fetches_more : {memory : ℕ → Option ℕ} {m : ℕ} {visits : List Visit} {held : Option ℕ} → Runs memory m visits held → (n : ℕ) → n < m
    → (us : List Visit) × (k : Option ℕ) × (w : ℕ) × Runs memory n us k × (fate us ≡ Goes) × (memory (wanted us k) ≡ Some w)
fetches_more begins n below = absurd (omega arith)
fetches_more {memory} (fetches {count = m} {word = w} {visits = us} {held = k} r g e a) n below =
    ⊎_elim
    (λ lt. fetches_more r n lt)
    (λ ge. let same : m ≡ n = omega arith in (us, k, w, subst (λ x. Runs memory x us k) same r, g, e))
    (cases_lt n m)

-- a run that can't go on has no longer one
no_longer : {memory : ℕ → Option ℕ} {m n : ℕ} {vs us : List Visit} {held k : Option ℕ} → Runs memory m vs held → (fate vs ≡ Goes → memory (wanted vs held) ≡ None)
    → Runs memory n us k → n ≤ m
no_longer {memory} {m} {n} {vs} {us} {held} {k} r over q = ⊎_elim
    (λ lt.
    let s = fetches_more q m lt in
    let same = runs_same r s.3 in
    let none = over (ap fate same.0 ∙ s.4) in
    let at : wanted vs held ≡ wanted s.0 s.1 = ap (λ x. wanted x held) same.0 ∙ ap (λ x. wanted s.0 x) same.1 in
    clash (sym none ∙ ap memory at ∙ s.5))
    (λ ge. ge)
    (cases_lt m n)
  where
    clash : {A : Type 0} {w : ℕ} → ◌≡◌ {A = Option ℕ} None (Some w) → A
    clash e = absurd (cc)

-- where the newest instruction stands
abbrev newest_place : List Visit → ℕ
newest_place [] = 0
newest_place (visit ∷ older) = visit.place

-- the end by what becomes of the run
abbrev end_by : Fate → ℕ → List Visit → Option ℕ → End
end_by Finished words visits held = Complete words (drawn_by visits)
end_by (Breaks fault) words visits held = Broken (newest_place visits) fault
end_by Goes words visits held = if nat_lt words 65536 then Broken (wanted visits held) Hole else Endless

-- a run that has come to an end: it can't go on, or has as many words as are followed
record Final (memory : ℕ → Option ℕ) (visits : List Visit) (end : End) : Type 0 where
  words : ℕ
  held : Option ℕ
  runs : Runs memory words visits held
  few : words ≤ 65536
  over : words < 65536 → fate visits ≡ Goes → memory (wanted visits held) ≡ None
  is : end ≡ end_by (fate visits) words visits held

never_goes : {A : Type 0} {f : Fate} → f ≡ Finished → f ≡ Goes → A
never_goes e g = let clash : Finished ≡ Goes = sym e ∙ g in absurd (cc)

breaks_never_goes : {A : Type 0} {f : Fate} {fault : GenFault} → f ≡ Breaks fault → f ≡ Goes → A
breaks_never_goes {fault = fault} e g = let clash : Breaks fault ≡ Goes = sym e ∙ g in absurd (cc)

below : (words : ℕ) (a b : End) → words < 65536 → (if nat_lt words 65536 then a else b) ≡ a
below words a b low = let test : nat_lt words 65536 ≡ true = search rules in ap (λ t. if t then a else b) test

final : {memory : ℕ → Option ℕ} {visits : List Visit} {end : End} → Ends memory visits end → Final memory visits end
final (halts {words = words} {visits = visits} r w f) = record {
  words = words;
  held = None;
  runs = r;
  few = w;
  over = λ low goes. never_goes f goes;
  is = sym (ap (λ x. end_by x words visits None) f);
}
final (breaks {words = words} {visit = visit} {older = older} r w f) = record {
  words = words;
  held = None;
  runs = r;
  few = w;
  over = λ low goes. breaks_never_goes f goes;
  is = sym (ap (λ x. end_by x words (visit ∷ older) None) f);
}
final (meets_hole {words = words} {visits = visits} {held = held} r low g none) = record {
  words = words;
  held = held;
  runs = r;
  few = omega arith;
  over = λ low goes. none;
  is = sym (ap (λ x. end_by x words visits held) g ∙ below words _ _ low);
}
final (goes_on {visits = visits} {held = held} r g) = record {
  words = 65536;
  held = held;
  runs = r;
  few = lit≤ tt;
  over = λ low goes. absurd (omega arith);
  is = sym (ap (λ x. end_by x 65536 visits held) g);
}

-- the run that has come to an end is as long as each run of as many words as are followed
pub as_far : {memory : ℕ → Option ℕ} {n : ℕ} {vs us : List Visit} {k : Option ℕ} {end : End} → Ends memory vs end → Runs memory n us k → n ≤ 65536
    → (m : ℕ) × (held : Option ℕ) × Runs memory m vs held × (n ≤ m)
as_far ends r few =
    let p = final ends in
    let short = p.few in
    (p.words, p.held, p.runs, ⊎_elim (λ low. no_longer p.runs (p.over low) r) (λ high. omega arith) (cases_lt p.words 65536))

-- two are one
one_final : {memory : ℕ → Option ℕ} {vs us : List Visit} {a b : End} → Final memory vs a → Final memory us b → (vs ≡ us) × (a ≡ b)
one_final {memory} {vs} {us} {a} {b} p q =
    let same : p.words ≡ q.words = as_long p q in
    let runs = runs_same (subst (λ x. Runs memory x vs p.held) same p.runs) q.runs in (
      runs.0,
      p.is ∙ ap (λ n. end_by (fate vs) n vs p.held) same ∙ ap (λ l. end_by (fate l) q.words l p.held) runs.0 ∙ ap (λ h. end_by (fate us) q.words us h) runs.1 ∙ sym q.is,
    )
  where
    no_more : {vs us : List Visit} {a b : End} → (p : Final memory vs a) → (q : Final memory us b) → q.words ≤ p.words
    no_more p q = ⊎_elim (λ low. no_longer p.runs (p.over low) q.runs) (λ high. let few = q.few in omega arith) (cases_lt p.words 65536)

    as_long : (p : Final memory vs a) → (q : Final memory us b) → p.words ≡ q.words
    as_long p q = let x = no_more p q in let y = no_more q p in omega arith

-- the run over a memory ends in one way at most
pub one_end : (memory : ℕ → Option ℕ) (visits visits' : List Visit) (end end' : End) → Ends memory visits end → Ends memory visits' end' → (visits ≡ visits') × (end ≡ end')
one_end memory visits visits' end end' p q = one_final (final p) (final q)

-- the run of a first start, by its newest instruction
abbrev pub left_by : List Visit → Option ℕ → Newest
left_by visits held = record { first = nothing.first; visits = visits; held = held; is_open = goes_by (fate visits) }

-- a run over a memory is one of a history
pub history_of : {memory : ℕ → Option ℕ} {words : ℕ} {visits : List Visit} {held : Option ℕ} → Runs memory words visits held → (history : List Told) × Leaves history (left_by visits held)
history_of begins = (_, starts new)
history_of (fetches r g m a) = let older = history_of r in (_, takes older.1 (ap goes_by g) a)

-- a word that was told was added
pub added : {history : List Told} {run later : Newest} {word : ℕ} → Leaves history run → Leaves (Fed (Some word) ∷ history) later
    → (visits : List Visit) × (held : Option ℕ) × Adds run.visits run.held word visits held × (later ≡ grown run visits held)
added {word = word} l (takes {run = other} {visits = visits} {held = held} m o a) =
    let same = leaves_same m l in
    (visits, held, subst (λ r. Adds r.visits r.held word visits held) same a, ap (λ r. grown r visits held) same)

-- the run ended, or goes on after so many words
abbrev EndsOr : (ℕ → Option ℕ) → ℕ → Type 0
EndsOr memory words = ((visits : List Visit) × (end : End) × Ends memory visits end) ⊎ ((visits : List Visit) × (held : Option ℕ) × Runs memory words visits held × (fate visits ≡ Goes))

-- after a whole instruction
whole : {memory : ℕ → Option ℕ} {words : ℕ} {visit : Visit} {older : List Visit} → Runs memory words (visit ∷ older) None → words ≤ 65536 → EndsOr memory words
whole {memory} {words} {visit} {older} r few = by (fate (visit ∷ older)) refl
  where
    by : (f : Fate) → fate (visit ∷ older) ≡ f → EndsOr memory words
    by Goes e = inr (visit ∷ older, None, r, e)
    by Finished e = inl (visit ∷ older, _, halts r few e)
    by (Breaks fault) e = inl (visit ∷ older, _, breaks r few e)

-- after a word
after_word : {memory : ℕ → Option ℕ} {words word : ℕ} {visits visits' : List Visit} {held held' : Option ℕ} → Runs memory words visits held → fate visits ≡ Goes
    → memory (wanted visits held) ≡ Some word → words < 65536 → Adds visits held word visits' held' → EndsOr memory (suc words)
after_word r g m low (first p) = inr (_, _, fetches r g m (first p), g)
after_word r g m low (one s) = whole (fetches r g m (one s)) (omega arith)
after_word r g m low (two s) = whole (fetches r g m (two s)) (omega arith)

-- at the next address
after_fetch : {memory : ℕ → Option ℕ} {words : ℕ} {visits : List Visit} {held : Option ℕ} → ((address : ℕ) → IfSome (memory address) IsWord) → Runs memory words visits held
    → fate visits ≡ Goes → words < 65536 → EndsOr memory (suc words)
after_fetch {memory} {words} {visits} {held} fits r g low = by (memory (wanted visits held)) refl (fits (wanted visits held))
  where
    by : (found : Option ℕ) → memory (wanted visits held) ≡ found → IfSome found IsWord → EndsOr memory (suc words)
    by None m is_word = inl (visits, _, meets_hole r low g m)
    by (Some word) m is_word =
        let past = history_of r in
        let more = leaves_more past.0 (left_by visits held) (Fed (Some word)) past.1 (ap goes_by g, is_word) in
        let adds = added past.1 more.1 in
        after_word r g m low adds.2

so_far : {memory : ℕ → Option ℕ} → ((address : ℕ) → IfSome (memory address) IsWord) → (words : ℕ) → words ≤ 65536 → EndsOr memory words
so_far fits zero few = inr ([], None, begins, refl)
so_far fits (suc words) few = ⊎_elim (λ ended. inl ended) (λ s. after_fetch fits s.2 s.3 (omega arith)) (so_far fits words (omega arith))

-- the run over a memory of words ends in one way at least
pub some_end : (memory : ℕ → Option ℕ) → ((address : ℕ) → IfSome (memory address) IsWord) → (visits : List Visit) × (end : End) × Ends memory visits end
some_end memory fits = ⊎_elim (λ ended. ended) (λ s. (s.0, Endless, goes_on s.2 s.3)) (so_far fits 65536 (lit≤ tt))
