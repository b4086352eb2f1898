-- How a judge's steps keep up with a log.
use Rattle.std.proofs.Common.{◌≡◌, ◌≢◌, ℕ, ◌<◌, ◌⊎◌, inl, inr, List, [], ◌∷◌, ◌++◌, length, refl, sym, ◌∙◌, ap, subst, Option, Some, None, Bool, true, false, nat_lt, ◌≤◌, get_or, arith}
use Rattle.std.specs.Prelude.{◌==◌, ◌||◌, if◌then◌else◌, IsTrue, ◌↔◌, slice_set}
use Rattle.std.specs.Option.{option_or}
use Rattle.std.proofs.lemmas.Bool.{cases_lt, lt-ltb, le-ltb, false≢true, true≢false}
use Rattle.std.proofs.lemmas.Bool.Decides.{eqb_tells}
use Rattle.std.proofs.lemmas.List.{length-set, get_or-set_same, get_or-set_other}
use Rattle.std.proofs.lemmas.Option.{none-some}
use Rattle.dvg_driver.specs.declared.action.Action.TheVariants.{Wrote}
use Rattle.dvg_log.specs.Events.{Happening}
use Rattle.dvg_log.specs.Entries.{Shown}
use Rattle.dvg_log.specs.declared.entry.Entry.TheVariants.{Acted, Started}
use Rattle.dvg_log.specs.Log.{◌⟼◌, Log}
use Rattle.dvg_moment.specs.declared.judge.Phase.{Phase}
use Rattle.dvg_moment.specs.declared.judge.Phase.TheVariants.{Closed, Whole, Past, Torn}
use Rattle.dvg_moment.specs.declared.judge.MomentJudge.{MomentJudge}
use Rattle.dvg_moment.specs.Moment.{told, reads, Changes, HasChanged}
use Rattle.dvg_moment.specs.Judging.{is_marked, StandsSo}
use Rattle.dvg_moment.specs.own.Steps.{phase_after, after_read}
use Rattle.dvg_moment.proofs.Latest.{whole_on, past_on, past_torn, torn_on}

abbrev pub IsSized : MomentJudge → Type 0
IsSized judge = (length judge.told ≡ 0x2000) × (length judge.read ≡ 0x800) × (length judge.changed ≡ 0x800)

-- a byte of a table, after one was written

pub set_here : {T : Type 0} (items : List T) (at a : ℕ) (item none : T) → a ≡ at → at < length items → get_or (slice_set items at item) a none ≡ item
set_here items at a item none e l = subst (λ b. get_or (slice_set items at item) b none ≡ item) (sym e) (get_or-set_same items at item none l)

pub set_there : {T : Type 0} (items : List T) (at a : ℕ) (item none : T) → a ≢ at → get_or (slice_set items at item) a none ≡ get_or items a none
set_there items at a item none n = get_or-set_other items at a item none n

pub mark_set : (marks : List Bool) (at a : ℕ) → at < length marks → IsTrue (is_marked (slice_set marks at true) a) ↔ (a ≡ at ⊎ IsTrue (is_marked marks a))
mark_set marks at a l = elim (eqb_tells a at) [
  | inl t ↦ ((λ m. inl t.1), λ m. set_here marks at a true false t.1 l)
  | inr t ↦ (
    (λ m. inr (sym (set_there marks at a true false t.1) ∙ m)),
    λ m. elim m [ inl e ↦ absurd (t.1 e) | inr f ↦ set_there marks at a true false t.1 ∙ f ],
  )
]

-- bytes were read: each as which, if at all, and those of the RAM are marked
pub record HasReadOf (old new : MomentJudge) (r : ℕ → Option ℕ) : Type 0 where
  pub sizes : IsSized new
  pub tells : (a : ℕ) → a < 0x2000 → get_or new.told a None ≡ option_or (r a) (get_or old.told a None)
  pub marks : (a : ℕ) → a < 0x800 → IsTrue (is_marked new.read a) ↔ ((r a ≢ None) ⊎ IsTrue (is_marked old.read a))
  pub changed : new.changed ≡ old.changed
  pub any : Bool
  pub phase : new.phase ≡ phase_after old.phase any
  pub found : any ≡ true → (a : ℕ) × (r a ≢ None) × (a < 0x800) × IsTrue (is_marked old.changed a)
  pub spared : any ≡ false → (a : ℕ) → a < 0x800 → r a ≢ None → ¬ IsTrue (is_marked old.changed a)

-- a byte alone
abbrev pub only : (at byte : ℕ) → ℕ → Option ℕ
only at byte a = if a == at then Some byte else None

only_here : (at byte a : ℕ) → a ≡ at → only at byte a ≡ Some byte
only_here at byte a e = elim (eqb_tells a at) [ inl t ↦ rw t.0 refl | inr t ↦ absurd (t.1 e) ]

only_there : (at byte a : ℕ) → a ≢ at → only at byte a ≡ None
only_there at byte a n = elim (eqb_tells a at) [ inl t ↦ absurd (n t.1) | inr t ↦ rw t.0 refl ]

only_at : (at byte a : ℕ) → only at byte a ≢ None → a ≡ at
only_at at byte a r = elim (eqb_tells a at) [ inl t ↦ t.1 | inr t ↦ absurd (r (only_there at byte a t.1)) ]

same_phase : (phase : Phase) → phase ≡ phase_after phase false
same_phase Closed = refl
same_phase Whole = refl
same_phase Past = refl
same_phase Torn = refl

-- nothing was read
pub none_read : (judge : MomentJudge) (r : ℕ → Option ℕ) → IsSized judge → ((a : ℕ) → a < 0x2000 → r a ≡ None) → HasReadOf judge judge r
none_read judge r s n = record {
  sizes = s;
  tells = λ a l. sym (ap (λ read. option_or read (get_or judge.told a None)) (n a l));
  marks = λ a l. ((λ m. inr m), λ m. elim m [ inl f ↦ absurd (f (n a (omega arith))) | inr f ↦ f ]);
  changed = refl;
  any = false;
  phase = same_phase judge.phase;
  found = λ e. absurd (false≢true e);
  spared = λ e a l f. absurd (f (n a (omega arith)));
}

pub one_read : (judge : MomentJudge) (at byte : ℕ) → IsSized judge → HasReadOf judge (after_read judge at byte) (only at byte)
one_read judge at byte s = elim (cases_lt at 0x2000) [
  | inl l ↦ elim (cases_lt at 0x800) [
    | inl k ↦ subst (λ new. HasReadOf judge new (only at byte)) (sym (taken (lt-ltb at 0x2000 l) (lt-ltb at 0x800 k))) (inside l k)
    | inr k ↦ subst (λ new. HasReadOf judge new (only at byte)) (sym (told_alone (lt-ltb at 0x2000 l) (le-ltb at 0x800 k))) (outside l k)
  ]
  | inr l ↦ subst (λ new. HasReadOf judge new (only at byte)) (sym (left (le-ltb at 0x2000 l))) (none_read judge (only at byte) s (λ a k. only_there at byte a (λ e. omega (arith, e))))
]
  where
    marked : MomentJudge
    marked = record judge {
      told = slice_set judge.told at (Some byte);
      read = slice_set judge.read at true;
      phase = phase_after judge.phase (is_marked judge.changed at);
    }

    unmarked : MomentJudge
    unmarked = record judge { told = slice_set judge.told at (Some byte) }

    taken : nat_lt at 0x2000 ≡ true → nat_lt at 0x800 ≡ true → after_read judge at byte ≡ marked
    taken t u = rw (t, u) refl

    told_alone : nat_lt at 0x2000 ≡ true → nat_lt at 0x800 ≡ false → after_read judge at byte ≡ unmarked
    told_alone t u = rw (t, u) refl

    left : nat_lt at 0x2000 ≡ false → after_read judge at byte ≡ judge
    left t = rw t refl

    set_tells : at < 0x2000 → (a : ℕ) → get_or (slice_set judge.told at (Some byte)) a None ≡ option_or (only at byte a) (get_or judge.told a None)
    set_tells l a = elim (eqb_tells a at) [
      | inl t ↦ set_here judge.told at a (Some byte) None t.1 (let n = s.0 in omega arith) ∙ sym (ap (λ read. option_or read (get_or judge.told a None)) (only_here at byte a t.1))
      | inr t ↦ set_there judge.told at a (Some byte) None t.1 ∙ sym (ap (λ read. option_or read (get_or judge.told a None)) (only_there at byte a t.1))
    ]

    outside : at < 0x2000 → 0x800 ≤ at → HasReadOf judge unmarked (only at byte)
    outside l b = record {
      sizes = (length-set judge.told at (Some byte) ∙ s.0, s.1, s.2);
      tells = λ a k. set_tells l a;
      marks = λ a k. ((λ m. inr m), λ m. elim m [ inl r ↦ absurd (let e = only_at at byte a r in omega arith) | inr f ↦ f ]);
      changed = refl;
      any = false;
      phase = same_phase judge.phase;
      found = λ e. absurd (false≢true e);
      spared = λ e a k r. absurd (let f = only_at at byte a r in omega arith);
    }

    inside : at < 0x2000 → at < 0x800 → HasReadOf judge marked (only at byte)
    inside m l = record {
      sizes = (length-set judge.told at (Some byte) ∙ s.0, length-set judge.read at true ∙ s.1, s.2);
      tells = λ a k. set_tells m a;
      marks = λ a k.
          let m = mark_set judge.read at a (let n = s.1 in omega arith) in (
            (λ f. elim (m.0 f) [ inl e ↦ inl (λ none. none-some byte (sym none ∙ only_here at byte a e)) | inr g ↦ inr g ]),
            λ f. elim f [ inl r ↦ m.1 (inl (only_at at byte a r)) | inr g ↦ m.1 (inr g) ],
          );
      changed = refl;
      any = is_marked judge.changed at;
      phase = refl;
      found = λ e. (at, (λ none. none-some byte (sym none ∙ only_here at byte at refl)), l, e);
      spared = λ e a k r m. false≢true (sym e ∙ subst (λ b. IsTrue (is_marked judge.changed b)) (only_at at byte a r) m);
    }

-- one reading after another
pub read_on : (old mid new : MomentJudge) (r s t : ℕ → Option ℕ) → HasReadOf old mid r → HasReadOf mid new s → ((a : ℕ) → t a ≡ option_or (s a) (r a)) → HasReadOf old new t
read_on old mid new r s t f g e = record {
  sizes = g.sizes;
  tells = λ a l. g.tells a l ∙ (ap (option_or (s a)) (f.tells a l) ∙ (after (s a) (r a) (get_or old.told a None) ∙ ap (λ read. option_or read (get_or old.told a None)) (sym (e a))));
  marks = λ a l. (
    (λ m. elim ((g.marks a l).0 m) [
      | inl read ↦ inl (λ none. read (none_first (s a) (r a) (sym (e a) ∙ none)).0)
      | inr old_mark ↦ elim ((f.marks a l).0 old_mark) [
        | inl read ↦ inl (λ none. read (none_first (s a) (r a) (sym (e a) ∙ none)).1)
        | inr k ↦ inr k
      ]
    ]),
    λ m. elim m [
      | inl read ↦ elim (some_of (s a) (r a) (λ none. read (e a ∙ none))) [
        | inl k ↦ (g.marks a l).1 (inl k)
        | inr k ↦ (g.marks a l).1 (inr ((f.marks a l).1 (inl k)))
      ]
      | inr k ↦ (g.marks a l).1 (inr ((f.marks a l).1 (inr k)))
    ],
  );
  changed = g.changed ∙ f.changed;
  any = f.any || g.any;
  phase = g.phase ∙ (ap (λ p. phase_after p g.any) f.phase ∙ both old.phase f.any g.any);
  found = λ found. elim (either f.any g.any found) [
    | inl k ↦ (let h = f.found k in (h.0, (λ none. h.1 (none_first (s h.0) (r h.0) (sym (e h.0) ∙ none)).1), h.2, h.3))
    | inr k ↦ (let h = g.found k in (h.0, (λ none. h.1 (none_first (s h.0) (r h.0) (sym (e h.0) ∙ none)).0), h.2, subst (λ marks. IsTrue (is_marked marks h.0)) f.changed h.3))
  ];
  spared = λ none a l read m.
      let n = neither f.any g.any none in
      elim (some_of (s a) (r a) (λ gone. read (e a ∙ gone))) [
        | inl k ↦ g.spared n.1 a l k (subst (λ marks. IsTrue (is_marked marks a)) (sym f.changed) m)
        | inr k ↦ f.spared n.0 a l k m
      ];
}
  where
    after : (s r old : Option ℕ) → option_or s (option_or r old) ≡ option_or (option_or s r) old
    after None r old = refl
    after (Some b) r old = refl

    none_first : (s r : Option ℕ) → option_or s r ≡ None → (s ≡ None) × (r ≡ None)
    none_first None r e = (refl, e)
    none_first (Some b) r e = absurd (none-some b (sym e))

    some_of : (s r : Option ℕ) → option_or s r ≢ None → (s ≢ None) ⊎ (r ≢ None)
    some_of None r n = inr n
    some_of (Some b) r n = inl (λ e. none-some b (sym e))

    both : (phase : Phase) (one two : Bool) → phase_after (phase_after phase one) two ≡ phase_after phase (one || two)
    both Closed one two = refl
    both Whole one two = refl
    both Past true true = refl
    both Past true false = refl
    both Past false two = refl
    both Torn one two = refl

    either : (one two : Bool) → (one || two) ≡ true → (one ≡ true) ⊎ (two ≡ true)
    either true two e = inl refl
    either false two e = inr e

    neither : (one two : Bool) → (one || two) ≡ false → (one ≡ false) × (two ≡ false)
    neither true two e = absurd (true≢false e)
    neither false two e = (refl, e)

-- the changed bytes are some of the RAM
in_ram : (part moment : Log) (a : ℕ) → HasChanged told a part moment → a < 0x800
in_ram [] moment a c = absurd c
in_ram ((event ⟼ Acted (Wrote b byte)) ∷ part) moment a (inl c) = c.1
in_ram ((event ⟼ entry) ∷ part) moment a (inl c) = absurd c
in_ram ((event ⟼ entry) ∷ part) moment a (inr c) = in_ram part moment a c

module _ (log : Log) (event : Happening) (entry : Shown) (goes : entry ≢ Started) where
  -- a line that changes nothing
  pub stands_on : (old new : MomentJudge) → ((a : ℕ) → ¬ Changes told a log entry) → HasReadOf old new (reads log entry) → StandsSo old.changed old.phase log → StandsSo new.changed new.phase ((event ⟼ entry) ∷ log)
  stands_on old new same f s =
      subst (λ phase. StandsSo new.changed phase ((event ⟼ entry) ∷ log)) (sym f.phase)
      (subst (λ marks. StandsSo marks (phase_after old.phase f.any) ((event ⟼ entry) ∷ log)) (sym f.changed) (by old.phase f.any refl s))
    where
      by : (phase : Phase) (any : Bool) → f.any ≡ any → StandsSo old.changed phase log → StandsSo old.changed (phase_after phase any) ((event ⟼ entry) ∷ log)
      by Closed any e s = tt
      by Whole any e s = whole_on told log event entry goes s (λ a h. same a)
      by Past true e s =
          let k = f.found e in
          past_torn told log event entry goes s.part s.line s.moment s.is_moment s.latest k.0 k.1 ((s.marks k.0 k.2).0 k.3)
      by Past false e s =
          let since = s.part ++ s.line ∷ [] in
          record {
            part = (event ⟼ entry) ∷ s.part;
            line = s.line;
            moment = s.moment;
            is_moment = past_on told log event entry goes since s.moment s.is_moment (λ a r c. let l = in_ram since s.moment a c in f.spared e a l r ((s.marks a l).1 c));
            latest = s.latest;
            marks = λ a l. ((λ m. inr ((s.marks a l).0 m)), λ c. elim c [ inl now ↦ absurd (none a (subst (λ rest. Changes told a rest entry) (sym s.is_moment.split) now)) | inr before ↦ (s.marks a l).1 before ]);
          }
        where
          none : (a : ℕ) → ¬ Changes told a log entry
          none a = same a
      by Torn any e s = torn_on told log event entry goes s
