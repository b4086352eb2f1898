-- A judge that was told one more line stands after it.
use Rattle.std.proofs.Common.{◌≡◌, ◌≢◌, ℕ, ◌+◌, ◌*◌, ◌/◌, ◌%◌, ◌<◌, ◌≤◌, ◌⊎◌, inl, inr, List, [], ◌∷◌, ◌++◌, length, refl, sym, ◌∙◌, ap, subst, Option, Some, None, Bool, true, false, get_or, replicate, arith}
use Rattle.std.specs.Prelude.{◌==◌, ◌&&◌, not, if◌then◌else◌, IsTrue, ◌↔◌, option_map, slice_set}
use Rattle.std.specs.Option.{option_or}
use Rattle.std.proofs.lemmas.Bool.{false≢true, true≢false, lt-ltb, le-ltb}
use Rattle.std.proofs.lemmas.Bool.Decides.{eqb_tells}
use Rattle.std.proofs.lemmas.List.{length-set, get_or-replicate, length-replicate}
use Rattle.std.proofs.lemmas.Option.{none-some, same_Some}
use Rattle.dvg_gen.specs.declared.stroke.Stroke.{Stroke}
use Rattle.dvg_driver.specs.declared.action.Action.TheVariants.{Wrote, Idle}
use Rattle.dvg_log.specs.Events.{Happening}
use Rattle.dvg_log.specs.declared.event.Event.TheVariants.{Tick, Strobe, Fetch, ResetAll}
use Rattle.dvg_log.specs.Entries.{Shown}
use Rattle.dvg_log.specs.declared.entry.Entry.TheVariants.{Acted, Started, Low, Fetched, Done, Cleared}
use Rattle.dvg_log.specs.Log.{Line, ◌⟼◌, Log, waiting, open_run}
use Rattle.dvg_moment.specs.declared.judge.Phase.{Phase}
use Rattle.dvg_moment.specs.declared.judge.Phase.TheVariants.{Closed, Whole, Past, Torn}
use Rattle.dvg_moment.specs.declared.judge.MomentJudge.{MomentJudge}
use Rattle.dvg_moment.specs.Moment.{waits, word_reads, told, reads, Changes, HasRead, StillStands, OfOneMoment, IsOfOneMoment}
use Rattle.dvg_moment.specs.Judging.{is_marked, IsPast, IsTorn, StandsSo, StandsAfter}
use Rattle.dvg_moment.specs.own.Steps.{is_some_of, phase_after, after_read, after_word, after_change, after_told, after_write, after_end}
use Rattle.dvg_moment.proofs.Latest.{whole_on, moment_before, is_latest, past_on, torn_on, still_of_one}
use Rattle.dvg_moment.proofs.Steps.{IsSized, set_here, set_there, mark_set, HasReadOf, only, none_read, one_read, read_on, stands_on}

-- before the first line
pub at_first : (judge : MomentJudge) → judge.told ≡ replicate 0x2000 None → judge.read ≡ replicate 0x800 false → judge.changed ≡ replicate 0x800 false
    → judge.low ≡ None → judge.phase ≡ Closed → StandsAfter judge []
at_first judge t r c l p = record {
  sizes = (ap length t ∙ length-replicate {A = Option ℕ} 0x2000 None, ap length r ∙ length-replicate 0x800 false, ap length c ∙ length-replicate 0x800 false);
  tells = λ a k. ap (λ items. get_or items a None) t ∙ get_or-replicate 0x2000 a None None k;
  marks = λ a k. ((λ m. false≢true (sym (get_or-replicate 0x800 a false false k) ∙ (sym (ap (λ items. get_or items a false) r) ∙ m))), λ h. absurd h);
  waits = l;
  closed = ((λ e. refl), λ e. p);
  stands = subst (λ phase. StandsSo judge.changed phase []) (sym p) tt;
}

-- reading leaves a run open or closed
phase_closed : (phase : Phase) (any : Bool) → (phase_after phase any ≡ Closed) ↔ (phase ≡ Closed)
phase_closed Closed any = ((λ e. refl), λ e. refl)
phase_closed Whole any = ((λ e. e), λ e. e)
phase_closed Past true = ((λ e. absurd (cc)), λ e. absurd (cc))
phase_closed Past false = ((λ e. e), λ e. e)
phase_closed Torn any = ((λ e. e), λ e. e)

module _ (log : Log) (event : Happening) (entry : Shown) (goes : entry ≢ Started) (same : (a : ℕ) → ¬ Changes told a log entry)
    (tells : (a : ℕ) → told ((event ⟼ entry) ∷ log) a ≡ option_or (reads log entry a) (told log a))
    (marks : (a : ℕ) → HasRead a ((event ⟼ entry) ∷ log) ↔ ((reads log entry a ≢ None) ⊎ HasRead a log))
    (old mid : MomentJudge) (f : HasReadOf old mid (reads log entry)) (s : StandsAfter old log) where
  mid_tells : (a : ℕ) → a < 0x2000 → get_or mid.told a None ≡ told ((event ⟼ entry) ∷ log) a
  mid_tells a l = f.tells a l ∙ (ap (option_or (reads log entry a)) (s.tells a l) ∙ sym (tells a))

  mid_marks : (a : ℕ) → a < 0x800 → IsTrue (is_marked mid.read a) ↔ HasRead a ((event ⟼ entry) ∷ log)
  mid_marks a l = (
    (λ m. (marks a).1 (elim ((f.marks a l).0 m) [ inl r ↦ inl r | inr k ↦ inr ((s.marks a l).0 k) ])),
    λ h. (f.marks a l).1 (elim ((marks a).0 h) [ inl r ↦ inl r | inr k ↦ inr ((s.marks a l).1 k) ]),
  )

  mid_stands : StandsSo mid.changed mid.phase ((event ⟼ entry) ∷ log)
  mid_stands = stands_on log event entry goes old mid same f s.stands

  mid_closed : (mid.phase ≡ Closed) ↔ (open_run log ≡ None)
  mid_closed = (
    (λ e. s.closed.0 ((phase_closed old.phase f.any).0 (sym f.phase ∙ e))),
    λ o. f.phase ∙ (phase_closed old.phase f.any).1 (s.closed.1 o),
  )

  -- the run stays as it is
  pub goes_on : (low : Option (ℕ × ℕ)) → (open_run ((event ⟼ entry) ∷ log) ≡ None) ↔ (open_run log ≡ None) → low ≡ waiting ((event ⟼ entry) ∷ log)
      → StandsAfter (record mid { low = low }) ((event ⟼ entry) ∷ log)
  goes_on low opened waits = record {
    sizes = f.sizes;
    tells = mid_tells;
    marks = mid_marks;
    waits = waits;
    closed = ((λ e. opened.1 (mid_closed.0 e)), λ o. mid_closed.1 (opened.0 o));
    stands = mid_stands;
  }

  -- the run ends
  pub ends : open_run ((event ⟼ entry) ∷ log) ≡ None → waiting ((event ⟼ entry) ∷ log) ≡ None → StandsAfter (after_end mid) ((event ⟼ entry) ∷ log)
  ends closed waits = record {
    sizes = f.sizes;
    tells = mid_tells;
    marks = mid_marks;
    waits = sym waits;
    closed = ((λ e. closed), λ o. refl);
    stands = tt;
  }

  -- whether it is torn then
  pub is_torn_then : (mid.phase ≡ Torn) ↔ ¬ (open_run log ≢ None → OfOneMoment told ((event ⟼ entry) ∷ log))
  is_torn_then = by mid.phase refl mid_stands
    where
      by : (phase : Phase) → mid.phase ≡ phase → StandsSo mid.changed phase ((event ⟼ entry) ∷ log) → (phase ≡ Torn) ↔ ¬ (open_run log ≢ None → OfOneMoment told ((event ⟼ entry) ∷ log))
      by Closed e t = ((λ p. absurd (cc)), λ n. absurd (n (λ o. absurd (o (mid_closed.0 e)))))
      by Whole e t = ((λ p. absurd (cc)), λ n. absurd (n (λ o. still_of_one told ((event ⟼ entry) ∷ log) t)))
      by Past e t = ((λ p. absurd (cc)), λ n. absurd (n (λ o. (t.part ++ t.line ∷ [], t.moment, t.is_moment))))
      by Torn e t = ((λ p g. t (g (λ o. torn_closed (sym e ∙ mid_closed.1 o)))), λ n. refl)
        where
          torn_closed : Torn ≡ Closed → ⊥
          torn_closed e = cc

-- whether the open run is torn now
pub torn_now : (judge : MomentJudge) (log : Log) → StandsAfter judge log → (judge.phase ≡ Torn) ↔ IsTorn log
torn_now judge log s = by judge.phase refl s.stands
  where
    by : (phase : Phase) → judge.phase ≡ phase → StandsSo judge.changed phase log → (phase ≡ Torn) ↔ IsTorn log
    by Closed e t = ((λ p. absurd (cc)), λ n. absurd (n.0 (s.closed.0 e)))
    by Whole e t = ((λ p. absurd (cc)), λ n. absurd (n.1 (still_of_one told log t)))
    by Past e t = ((λ p. absurd (cc)), λ n. absurd (n.1 (t.part ++ t.line ∷ [], t.moment, t.is_moment)))
    by Torn e t = ((λ p. ((λ o. torn_closed (sym e ∙ s.closed.1 o)), t)), λ n. refl)
      where
        torn_closed : Torn ≡ Closed → ⊥
        torn_closed e = cc

-- a run begins

pub started_stands : (judge : MomentJudge) (log : Log) → StandsAfter judge log
    → StandsAfter (record judge { read = replicate 0x800 false; low = None; phase = Whole }) ((Strobe ⟼ Started) ∷ log)
started_stands judge log s = record {
  sizes = (s.sizes.0, length-replicate 0x800 false, s.sizes.2);
  tells = s.tells;
  marks = λ a l. ((λ m. false≢true (sym (get_or-replicate 0x800 a false false l) ∙ m)), λ h. absurd h);
  waits = refl;
  closed = ((λ e. absurd (cc)), λ o. absurd (some_none [] o));
  stands = tt;
}
  where
    some_none : (run : List (ℕ × ℕ)) → Some run ≡ None → ⊥
    some_none run o = none-some run (sym o)

-- bytes are read

pub low_stands : (judge : MomentJudge) (log : Log) (address byte : ℕ) → StandsAfter judge log
    → StandsAfter (record (after_read judge (2 * address) byte) { low = Some (address, byte) }) ((Fetch ⟼ Low address byte) ∷ log)
low_stands judge log address byte s =
    goes_on log Fetch (Low address byte) (λ e. cc) (λ a c. c) (λ a. refl) (λ a. ((λ h. h), λ h. h)) judge (after_read judge (2 * address) byte)
    (one_read judge (2 * address) byte s.sizes) s (Some (address, byte)) ((λ o. o), λ o. o) refl

or_none : (read : Option ℕ) → option_or read None ≡ read
or_none None = refl
or_none (Some byte) = refl

high_only : (address word a : ℕ) → word_reads true address word a ≡ option_or (only (2 * address + 1) (word / 256) a) None
high_only address word a = elim (eqb_tells a (2 * address + 1)) [
  | inl t ↦ rw t.0 refl
  | inr t ↦ rw t.0 (last (a == 2 * address))
]
  where
    last : (t : Bool) → (if t && false then Some (word % 256) else None) ≡ None
    last true = refl
    last false = refl

both_read : (address word a : ℕ) → word_reads false address word a ≡ option_or (only (2 * address + 1) (word / 256) a) (only (2 * address) (word % 256) a)
both_read address word a = elim (eqb_tells a (2 * address + 1)) [
  | inl t ↦ rw t.0 refl
  | inr t ↦ rw t.0 (last (a == 2 * address))
]
  where
    last : (t : Bool) → (if t && true then Some (word % 256) else None) ≡ (if t then Some (word % 256) else None)
    last true = refl
    last false = refl

word_read : (judge : MomentJudge) (waits : Bool) (address word : ℕ) → IsSized judge → HasReadOf judge (after_word waits judge address word) (word_reads waits address word)
word_read judge true address word s =
    read_on judge judge (after_read judge (2 * address + 1) (word / 256)) (λ a. None) (only (2 * address + 1) (word / 256)) (word_reads true address word)
    (none_read judge (λ a. None) s (λ a l. refl)) (one_read judge (2 * address + 1) (word / 256) s) (high_only address word)
word_read judge false address word s =
    let mid = after_read judge (2 * address) (word % 256) in
    let first = one_read judge (2 * address) (word % 256) s in
    read_on judge mid (after_read mid (2 * address + 1) (word / 256)) (only (2 * address) (word % 256)) (only (2 * address + 1) (word / 256)) (word_reads false address word)
    first (one_read mid (2 * address + 1) (word / 256) first.sizes) (both_read address word)

pub low_waits : (judge : MomentJudge) (log : Log) (address : ℕ) → StandsAfter judge log → waits judge.low address ≡ waits (waiting log) address
low_waits judge log address s = ap (λ low. waits low address) s.waits

word_reads_of : (judge : MomentJudge) (log : Log) (address word : ℕ) → StandsAfter judge log
    → HasReadOf judge (after_word (waits judge.low address) judge address word) (word_reads (waits (waiting log) address) address word)
word_reads_of judge log address word s =
    subst (λ low. HasReadOf judge (after_word (waits judge.low address) judge address word) (word_reads low address word)) (low_waits judge log address s)
    (word_read judge (waits judge.low address) address word s.sizes)

pub fetched_stands : (judge : MomentJudge) (log : Log) (address word : ℕ) → StandsAfter judge log
    → StandsAfter (record (after_word (waits judge.low address) judge address word) { low = None }) ((Fetch ⟼ Fetched address word) ∷ log)
fetched_stands judge log address word s =
    goes_on log Fetch (Fetched address word) (λ e. cc) (λ a c. c) (λ a. refl) (λ a. ((λ h. h), λ h. h)) judge (after_word (waits judge.low address) judge address word)
    (word_reads_of judge log address word s) s None (opened (open_run log)) refl
  where
    opened : (run : Option (List (ℕ × ℕ))) → (option_map (λ fetches. (address, word) ∷ fetches) run ≡ None) ↔ (run ≡ None)
    opened None = ((λ o. refl), λ o. refl)
    opened (Some fetches) = ((λ o. absurd (none-some _ (sym o))), λ o. absurd (none-some _ (sym o)))

module _ (judge : MomentJudge) (log : Log) (address word : ℕ) (strokes : List Stroke) (s : StandsAfter judge log) where
  pub done_stands : StandsAfter (after_end (after_word (waits judge.low address) judge address word)) ((Fetch ⟼ Done address word strokes) ∷ log)
  done_stands =
      ends log Fetch (Done address word strokes) (λ e. cc) (λ a c. c) (λ a. refl) (λ a. ((λ h. h), λ h. h)) judge (after_word (waits judge.low address) judge address word)
      (word_reads_of judge log address word s) s refl refl

  pub done_torn : ((after_word (waits judge.low address) judge address word).phase ≡ Torn) ↔ ¬ IsOfOneMoment told log Fetch (Done address word strokes)
  done_torn =
      is_torn_then log Fetch (Done address word strokes) (λ e. cc) (λ a c. c) (λ a. refl) (λ a. ((λ h. h), λ h. h)) judge (after_word (waits judge.low address) judge address word)
      (word_reads_of judge log address word s) s

-- nothing is read

module _ (judge : MomentJudge) (log : Log) (s : StandsAfter judge log) where
  pub passed_stands : StandsAfter judge ((Tick ⟼ Acted Idle) ∷ log)
  passed_stands =
      goes_on log Tick (Acted Idle) (λ e. cc) (λ a c. c) (λ a. refl) (λ a. ((λ h. h), λ h. h)) judge judge (none_read judge (λ a. None) s.sizes (λ a l. refl)) s judge.low ((λ o. o), λ o. o) s.waits

  pub reset_stands : (bytes : List ℕ) → StandsAfter (after_end (record judge { told = replicate 0x2000 None })) ((ResetAll bytes ⟼ Cleared) ∷ log)
  reset_stands bytes = record {
    sizes = (length-replicate {A = Option ℕ} 0x2000 None, s.sizes.1, s.sizes.2);
    tells = λ a l. get_or-replicate 0x2000 a None None l;
    marks = λ a l. ((λ m. inr ((s.marks a l).0 m)), λ h. elim h [ inl r ↦ absurd (r refl) | inr k ↦ (s.marks a l).1 k ]);
    waits = refl;
    closed = ((λ e. refl), λ o. refl);
    stands = tt;
  }

-- a byte is written

module _ (judge : MomentJudge) (log : Log) (at byte : ℕ) (s : StandsAfter judge log) where
  abbrev line : Line
  line = Tick ⟼ Acted (Wrote at byte)

  written_tells : at < 0x800 → (a : ℕ) → a < 0x2000 → get_or (slice_set judge.told at (Some byte)) a None ≡ told (line ∷ log) a
  written_tells l a k = elim (eqb_tells a at) [
    | inl t ↦ rw (t.0, lt-ltb a 0x800 (let e = t.1 in omega arith)) (set_here judge.told at a (Some byte) None t.1 (let n = s.sizes.0 in omega arith))
    | inr t ↦ rw t.0 (set_there judge.told at a (Some byte) None t.1 ∙ s.tells a k)
  ]

  written_marks : (a : ℕ) → a < 0x800 → IsTrue (is_marked judge.read a) ↔ HasRead a (line ∷ log)
  written_marks a l = ((λ m. inr ((s.marks a l).0 m)), λ h. elim h [ inl r ↦ absurd (r refl) | inr k ↦ (s.marks a l).1 k ])

  -- what a write leaves, if the run stands so then
  written : at < 0x800 → (phase : Phase) (changed : List Bool) → length changed ≡ 0x800 → (phase ≡ Closed) ↔ (judge.phase ≡ Closed) → StandsSo changed phase (line ∷ log)
      → StandsAfter (record judge { told = slice_set judge.told at (Some byte); changed = changed; phase = phase }) (line ∷ log)
  written l phase changed n closed stands = record {
    sizes = (length-set judge.told at (Some byte) ∙ s.sizes.0, s.sizes.1, n);
    tells = written_tells l;
    marks = written_marks;
    waits = s.waits;
    closed = ((λ e. s.closed.0 (closed.0 e)), λ o. closed.1 (s.closed.1 o));
    stands = stands;
  }

  quiet : ((a : ℕ) → ¬ Changes told a log (Acted (Wrote at byte))) → StandsSo judge.changed judge.phase (line ∷ log)
  quiet same = stands_on log Tick (Acted (Wrote at byte)) (λ e. cc) judge judge same (none_read judge (λ a. None) s.sizes (λ a l. refl)) s.stands

  -- outside the RAM
  pub beyond_stands : 0x800 ≤ at → StandsAfter judge (line ∷ log)
  beyond_stands b = record {
    sizes = s.sizes;
    tells = λ a l. elim (eqb_tells a at) [ inl t ↦ rw (t.0, le-ltb a 0x800 (let e = t.1 in omega arith)) (s.tells a l) | inr t ↦ rw t.0 (s.tells a l) ];
    marks = written_marks;
    waits = s.waits;
    closed = s.closed;
    stands = quiet (λ a c. let e = c.0 in let l = c.1 in omega arith);
  }

  -- what was told is written again
  again : at < 0x800 → told log at ≡ Some byte → StandsAfter (after_write true judge at byte) (line ∷ log)
  again l e = written l judge.phase judge.changed s.sizes.2 ((λ p. p), λ p. p) (quiet (λ a c. c.2 (subst (λ b. told log b ≡ Some byte) (sym c.0) e)))

  module _ (l : at < 0x800) (n : told log at ≢ Some byte) where
    breaks : StillStands told log → HasRead at log → IsPast (slice_set (replicate 0x800 false) at true) (line ∷ log)
    breaks t h = record {
      part = [];
      line = line;
      moment = log;
      is_moment = moment_before told log Tick (Acted (Wrote at byte)) (λ e. cc) t;
      latest = is_latest told log Tick (Acted (Wrote at byte)) (λ e. cc) at h (refl, l, n);
      marks = λ a k.
          let m = mark_set (replicate 0x800 false) at a (let z = length-replicate 0x800 false in omega arith) in (
            (λ f. elim (m.0 f) [ inl e ↦ inl (e, k, subst (λ b. told log b ≢ Some byte) (sym e) n) | inr g ↦ absurd (false≢true (sym (get_or-replicate 0x800 a false false k) ∙ g)) ]),
            λ f. elim f [ inl c ↦ m.1 (inl c.0) | inr c ↦ absurd c ],
          );
    }

    goes_past : IsPast judge.changed log → IsPast (slice_set judge.changed at true) (line ∷ log)
    goes_past t =
        let since = t.part ++ t.line ∷ [] in
        record {
          part = line ∷ t.part;
          line = t.line;
          moment = t.moment;
          is_moment = past_on told log Tick (Acted (Wrote at byte)) (λ e. cc) since t.moment t.is_moment (λ a r c. r refl);
          latest = t.latest;
          marks = λ a k.
              let m = mark_set judge.changed at a (let z = s.sizes.2 in omega arith) in (
                (λ f. elim (m.0 f) [ inl e ↦ inl (subst (λ rest. Changes told a rest (Acted (Wrote at byte))) t.is_moment.split (e, k, subst (λ b. told log b ≢ Some byte) (sym e) n)) | inr g ↦ inr ((t.marks a k).0 g) ]),
                λ f. elim f [ inl c ↦ m.1 (inl c.0) | inr c ↦ m.1 (inr ((t.marks a k).1 c)) ],
              );
        }

    apart : is_marked judge.read at ≡ false → (a : ℕ) → HasRead a log → ¬ Changes told a log (Acted (Wrote at byte))
    apart f a h c = true≢false (sym ((s.marks at l).1 (subst (λ b. HasRead b log) c.0 h)) ∙ f)

    changes : (phase : Phase) (read : Bool) → judge.phase ≡ phase → is_marked judge.read at ≡ read → StandsSo judge.changed phase log → StandsAfter (after_told (after_change phase read judge at) at byte) (line ∷ log)
    changes Closed read e f t = written l judge.phase judge.changed s.sizes.2 ((λ p. p), λ p. p) (subst (λ p. StandsSo judge.changed p (line ∷ log)) (sym e) tt)
    changes Whole true e f t =
        written l Past (slice_set (replicate 0x800 false) at true) (length-set (replicate 0x800 false) at true ∙ length-replicate 0x800 false)
        ((λ p. absurd (cc)), λ p. absurd (whole_closed (sym e ∙ p))) (breaks t ((s.marks at l).0 f))
      where
        whole_closed : Whole ≡ Closed → ⊥
        whole_closed p = cc
    changes Whole false e f t =
        written l judge.phase judge.changed s.sizes.2 ((λ p. p), λ p. p) (subst (λ p. StandsSo judge.changed p (line ∷ log)) (sym e) (whole_on told log Tick (Acted (Wrote at byte)) (λ e. cc) t (apart f)))
    changes Past read e f t =
        written l judge.phase (slice_set judge.changed at true) (length-set judge.changed at true ∙ s.sizes.2) ((λ p. p), λ p. p)
        (subst (λ p. StandsSo (slice_set judge.changed at true) p (line ∷ log)) (sym e) (goes_past t))
    changes Torn read e f t =
        written l judge.phase judge.changed s.sizes.2 ((λ p. p), λ p. p) (subst (λ p. StandsSo judge.changed p (line ∷ log)) (sym e) (torn_on told log Tick (Acted (Wrote at byte)) (λ e. cc) t))

  pub write_stands : at < 0x800 → StandsAfter (after_write (is_some_of (get_or judge.told at None) byte) judge at byte) (line ∷ log)
  write_stands l = by (get_or judge.told at None) refl
    where
      tells : get_or judge.told at None ≡ told log at
      tells = s.tells at (omega arith)

      other : told log at ≢ Some byte → StandsAfter (after_write false judge at byte) (line ∷ log)
      other n = changes l n judge.phase (is_marked judge.read at) refl refl s.stands

      by : (known : Option ℕ) → get_or judge.told at None ≡ known → StandsAfter (after_write (is_some_of known byte) judge at byte) (line ∷ log)
      by None e = other (λ t. none-some byte (sym e ∙ (tells ∙ t)))
      by (Some known) e = elim (eqb_tells known byte) [
        | inl t ↦ rw t.0 (again l (sym tells ∙ (e ∙ ap Some t.1)))
        | inr t ↦ rw t.0 (other (λ g. t.1 (same_Some _ _ (sym e ∙ (tells ∙ g)))))
      ]

-- what was left by the judge's calls

pub low_left : (judge new : MomentJudge) (log : Log) (address a byte : ℕ) → StandsAfter judge log → a ≡ address → new ≡ after_read judge (2 * a) byte
    → StandsAfter (record new { low = Some (address, byte) }) ((Fetch ⟼ Low address byte) ∷ log)
low_left judge new log address a byte s e f =
    subst (λ left. StandsAfter (record left { low = Some (address, byte) }) ((Fetch ⟼ Low address byte) ∷ log)) (sym (f ∙ ap (λ b. after_read judge (2 * b) byte) e)) (low_stands judge log address byte s)

pub fetched_left : (judge new : MomentJudge) (log : Log) (address word : ℕ) → StandsAfter judge log → new ≡ after_word (waits judge.low address) judge address word
    → StandsAfter (record new { low = None }) ((Fetch ⟼ Fetched address word) ∷ log)
fetched_left judge new log address word s e = subst (λ left. StandsAfter (record left { low = None }) ((Fetch ⟼ Fetched address word) ∷ log)) (sym e) (fetched_stands judge log address word s)

pub done_left : (judge mid new : MomentJudge) (log : Log) (address word : ℕ) (strokes : List Stroke) → StandsAfter judge log → mid ≡ after_word (waits judge.low address) judge address word
    → new ≡ after_end mid → StandsAfter new ((Fetch ⟼ Done address word strokes) ∷ log)
done_left judge mid new log address word strokes s e f =
    subst (λ left. StandsAfter left ((Fetch ⟼ Done address word strokes) ∷ log)) (sym (f ∙ ap after_end e)) (done_stands judge log address word strokes s)

pub done_answer : (judge mid : MomentJudge) (log : Log) (address word : ℕ) (strokes : List Stroke) (answer : Bool) → StandsAfter judge log → mid ≡ after_word (waits judge.low address) judge address word
    → IsTrue answer ↔ (mid.phase ≡ Torn) → IsTrue answer ↔ ¬ IsOfOneMoment told log Fetch (Done address word strokes)
done_answer judge mid log address word strokes answer s e a =
    let t = done_torn judge log address word strokes s in
    ((λ y. t.0 (sym (ap (λ left. left.phase) e) ∙ a.0 y)), λ n. a.1 (ap (λ left. left.phase) e ∙ t.1 n))

pub torn_answer : (judge : MomentJudge) (log : Log) (answer : Bool) → StandsAfter judge log → IsTrue answer ↔ (judge.phase ≡ Torn) → IsTrue answer ↔ IsTorn log
torn_answer judge log answer s a = let t = torn_now judge log s in ((λ y. t.0 (a.0 y)), λ n. a.1 (t.1 n))

pub open_answer : (judge : MomentJudge) (log : Log) (answer : Bool) → StandsAfter judge log → IsTrue answer ↔ (judge.phase ≡ Closed) → IsTrue (not answer) ↔ (open_run log ≢ None)
open_answer judge log true s a = ((λ f. absurd (false≢true f)), λ n. absurd (n (s.closed.0 (a.0 refl))))
open_answer judge log false s a = ((λ t none. false≢true (a.1 (s.closed.1 none))), λ n. refl)

pub written_left : (judge new : MomentJudge) (log : Log) (address at byte : ℕ) → StandsAfter judge log → at ≡ address → at < 0x800 → new ≡ after_write (is_some_of (get_or judge.told at None) byte) judge at byte
    → StandsAfter new ((Tick ⟼ Acted (Wrote address byte)) ∷ log)
written_left judge new log address at byte s e l f =
    subst (λ a. StandsAfter new ((Tick ⟼ Acted (Wrote a byte)) ∷ log)) e (subst (λ left. StandsAfter left ((Tick ⟼ Acted (Wrote at byte)) ∷ log)) (sym f) (write_stands judge log at byte s l))
