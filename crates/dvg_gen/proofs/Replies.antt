-- What an answer tells of the run after it, for crates that follow a generator's answers.
use Rattle.std.proofs.Common.{◌≡◌, ℕ, Bool, true, false, List, ◌∷◌, Option, Some, None, refl, sym, ap, if◌then◌else◌}
use Rattle.dvg_gen.specs.declared.stroke.Stroke.{Stroke}
use Rattle.dvg_gen.specs.declared.taken.GenFault.{GenFault}
use Rattle.dvg_gen.specs.Run.{Visit, next, wanted, Fate, Goes, Finished, Breaks, fate, strokes, Adds, first, one, two}
use Rattle.dvg_gen.specs.Told.{Told, Fed, Newest, goes_on, Leaves, meets_hole, takes, More, Drew, Fails, reply, reply_by, wants}

-- only a run that goes wants more
goes_of : (f : Fate) (s : List Stroke) → reply_by None f s ≡ More → f ≡ Goes
goes_of Goes s e = refl
goes_of Finished s e = cc
goes_of (Breaks x) s e = cc

-- a run that wants more goes on
pub more_goes : {visits visits' : List Visit} {held held' : Option ℕ} {word : ℕ} → Adds visits held word visits' held' → fate visits ≡ Goes → (s : List Stroke) → reply_by held' (fate visits') s ≡ More → fate visits' ≡ Goes
more_goes (first f) g s e = g
more_goes (one {visits = visits} {code = code} sp) g s e = goes_of (fate (record { place = next visits; code = code } ∷ visits)) s e
more_goes (two {visits = visits} {code = code} sp) g s e = goes_of (fate (record { place = next visits; code = code } ∷ visits)) s e

-- a run that drew is finished
pub drew_finished : (held : Option ℕ) (f : Fate) (t s : List Stroke) → reply_by held f t ≡ Drew s → (held ≡ None) × (f ≡ Finished) × (t ≡ s)
drew_finished (Some v) f t s e = absurd (cc)
drew_finished None Goes t s e = absurd (cc)
drew_finished None Finished t s e = (refl, refl, drawn_is e)
  where
    drawn_is : {xs ys : List Stroke} → Drew xs ≡ Drew ys → xs ≡ ys
    drawn_is e = cc
drew_finished None (Breaks x) t s e = absurd (cc)

-- a run that fails breaks
pub fails_breaks : (held : Option ℕ) (f : Fate) (t : List Stroke) (x : GenFault) → reply_by held f t ≡ Fails x → f ≡ Breaks x
fails_breaks (Some v) f t x e = absurd (cc)
fails_breaks None Goes t x e = absurd (cc)
fails_breaks None Finished t x e = absurd (cc)
fails_breaks None (Breaks y) t x e = fault_is e
  where
    fault_is : {y z : GenFault} → Fails y ≡ Fails z → Breaks y ≡ Breaks z
    fault_is e = cc

-- after a fault no run is open
pub fails_shut : (o : Option ℕ) {history : List Told} {run : Newest} (x : GenFault) → Leaves (Fed o ∷ history) run → reply o run ≡ Fails x → run.is_open ≡ false
fails_shut None x (meets_hole l o) e = refl
fails_shut (Some w) x (takes {run = run} {visits = visits} {held = held} l o a) e = ap goes_on (fails_breaks held (fate visits) (strokes run.first visits) x e)

some_is : {x y : ℕ} → ◌≡◌ {A = Option ℕ} (Some x) (Some y) → x ≡ y
some_is e = cc

-- a wanted address is that of an open run
pub wants_open : (run : Newest) (a : ℕ) → wants run ≡ Some a → (run.is_open ≡ true) × (a ≡ wanted run.visits run.held)
wants_open run a e = by run.is_open refl e
  where
    by : (b : Bool) → run.is_open ≡ b → (if b then Some (wanted run.visits run.held) else None) ≡ Some a → (run.is_open ≡ true) × (a ≡ wanted run.visits run.held)
    by true o d = (o, sym (some_is d))
    by false o d = absurd (cc)
