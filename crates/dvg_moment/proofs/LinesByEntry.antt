-- A line is read by its entry, whatever the event; but a reset ends a run, and one of the whole system voids what was told.
use Rattle.std.proofs.Common.{◌≡◌, ◌≢◌, ℕ, ◌<◌, List, [], ◌∷◌, ◌++◌, refl, sym, ap, subst, Option, None, Bool, true, false, ◌∙◌}
use Rattle.std.specs.Prelude.{IsTrue, ◌↔◌, Vec}
use Rattle.std.proofs.lemmas.Bool.{false≢true}
use Rattle.std.proofs.lemmas.List.{get_or-replicate, length-replicate}
use Rattle.dvg_gen.specs.declared.stroke.Stroke.{Stroke}
use Rattle.dvg_gen.specs.declared.taken.GenFault.{GenFault}
use Rattle.dvg_driver.specs.declared.action.Action.{Action}
use Rattle.dvg_driver.specs.declared.action.Action.TheVariants.{Wrote}
use Rattle.dvg_log.specs.Events.{Happening}
use Rattle.dvg_log.specs.declared.event.Event.TheVariants.{Tick, ResetGen, ResetAll}
use Rattle.dvg_log.specs.Entries.{Shown, shown_of}
use Rattle.dvg_log.specs.declared.entry.Entry.{Entry}
use Rattle.dvg_log.specs.declared.entry.Entry.TheVariants.{Acted, Started, Low, Fetched, Done, Broke}
use Rattle.dvg_log.specs.Log.{Line, ◌⟼◌, Log, Throughout, waiting, open_run}
use Rattle.dvg_moment.specs.declared.judge.Phase.{Phase}
use Rattle.dvg_moment.specs.declared.judge.Phase.TheVariants.{Closed, Whole, Past, Torn}
use Rattle.dvg_moment.specs.declared.judge.MomentJudge.{MomentJudge}
use Rattle.dvg_moment.specs.Moment.{told, HasChanged, StillStands, ReadsThen, IsMoment, OfOneMoment, IsOfOneMoment}
use Rattle.dvg_moment.specs.Judging.{is_marked, IsPast, StandsSo, StandsAfter}
use Rattle.dvg_moment.specs.own.Steps.{after_end, after_event, void}
use Rattle.dvg_moment.proofs.Steps.{none_read}
use Rattle.dvg_moment.proofs.JudgeAfterLog.{goes_on, ends}

tails : {k l : Line} {ks ls : Log} → k ∷ ks ≡ l ∷ ls → (k ≡ l) × (ks ≡ ls)
tails e = (cc, cc)

module _ (one two : Happening) (entry : Shown) (log : Log) where
  still_same : StillStands told ((one ⟼ entry) ∷ log) → StillStands told ((two ⟼ entry) ∷ log)
  still_same s = by entry s
    where
      by : (entry : Shown) → StillStands told ((one ⟼ entry) ∷ log) → StillStands told ((two ⟼ entry) ∷ log)
      by Started s = tt
      by entry s = s

  moment_same : (since moment : Log) → IsMoment told ((one ⟼ entry) ∷ log) since moment → OfOneMoment told ((two ⟼ entry) ∷ log)
  moment_same since moment m = by since m.split m.read_since
    where
      by : (since : Log) → (one ⟼ entry) ∷ log ≡ since ++ moment → Throughout (ReadsThen told moment) since → OfOneMoment told ((two ⟼ entry) ∷ log)
      by [] e r = ([], (two ⟼ entry) ∷ log, record { split = refl; read_before = still_same (subst (StillStands told) (sym e) m.read_before); read_since = tt })
      by (l ∷ rest) e r =
          let d = tails e in
          let all : Throughout (ReadsThen told moment) ((one ⟼ entry) ∷ rest) = subst (λ k. Throughout (ReadsThen told moment) (k ∷ rest)) (sym d.0) r in
          ((two ⟼ entry) ∷ rest, moment, record { split = ap (λ more. (two ⟼ entry) ∷ more) d.1; read_before = m.read_before; read_since = all })

module _ (one two : Happening) (entry : Shown) (log : Log) (changed : List Bool) where
  past_same : IsPast changed ((one ⟼ entry) ∷ log) → IsPast changed ((two ⟼ entry) ∷ log)
  past_same p = by p.part p.is_moment.split p.is_moment.read_since p.marks
    where
      by : (part : Log) → (one ⟼ entry) ∷ log ≡ (part ++ p.line ∷ []) ++ p.moment → Throughout (ReadsThen told p.moment) (part ++ p.line ∷ [])
          → ((a : ℕ) → a < 0x800 → IsTrue (is_marked changed a) ↔ HasChanged told a (part ++ p.line ∷ []) p.moment) → IsPast changed ((two ⟼ entry) ∷ log)
      by [] e r m =
          let d = tails e in
          let all : Throughout (ReadsThen told p.moment) ((one ⟼ entry) ∷ []) = subst (λ k. Throughout (ReadsThen told p.moment) (k ∷ [])) (sym d.0) r in
          record {
            part = [];
            line = two ⟼ entry;
            moment = p.moment;
            is_moment = record { split = ap (λ more. (two ⟼ entry) ∷ more) d.1; read_before = p.is_moment.read_before; read_since = all };
            latest = λ s. p.latest (subst (λ k. StillStands told (k ∷ p.moment)) d.0 (still_same two one entry p.moment s));
            marks = λ a l. subst (λ k. IsTrue (is_marked changed a) ↔ HasChanged told a (k ∷ []) p.moment) (sym d.0) (m a l);
          }
      by (q ∷ part) e r m =
          let d = tails e in
          let all : Throughout (ReadsThen told p.moment) ((one ⟼ entry) ∷ part ++ p.line ∷ []) = subst (λ k. Throughout (ReadsThen told p.moment) (k ∷ part ++ p.line ∷ [])) (sym d.0) r in
          record {
            part = (two ⟼ entry) ∷ part;
            line = p.line;
            moment = p.moment;
            is_moment = record { split = ap (λ more. (two ⟼ entry) ∷ more) d.1; read_before = p.is_moment.read_before; read_since = all };
            latest = p.latest;
            marks = λ a l. subst (λ k. IsTrue (is_marked changed a) ↔ HasChanged told a (k ∷ part ++ p.line ∷ []) p.moment) (sym d.0) (m a l);
          }

  so_same : (phase : Phase) → StandsSo changed phase ((one ⟼ entry) ∷ log) → StandsSo changed phase ((two ⟼ entry) ∷ log)
  so_same Closed s = tt
  so_same Whole s = still_same one two entry log s
  so_same Past s = past_same s
  so_same Torn s = λ other. s (moment_same two one entry log other.0 other.1 other.2)

-- a run that comes to HALT by another event
pub done_same : (one two : Happening) (log : Log) (address word : ℕ) (strokes : List Stroke) → IsOfOneMoment told log one (Done address word strokes) → IsOfOneMoment told log two (Done address word strokes)
done_same one two log address word strokes f = λ o. let m = f o in moment_same one two (Done address word strokes) log m.0 m.1 m.2

-- what a reset leaves

none_waits : (entry : Shown) (log : Log) → waiting ((ResetGen ⟼ entry) ∷ log) ≡ None
none_waits Started log = refl
none_waits entry log = refl

none_open : (entry : Shown) (log : Log) → entry ≢ Started → open_run ((ResetGen ⟼ entry) ∷ log) ≡ None
none_open Started log n = absurd (n refl)
none_open entry log n = refl

all_waits : (entry : Shown) (bytes : List ℕ) (log : Log) → waiting ((ResetAll bytes ⟼ entry) ∷ log) ≡ None
all_waits Started bytes log = refl
all_waits entry bytes log = refl

all_open : (entry : Shown) (bytes : List ℕ) (log : Log) → entry ≢ Started → open_run ((ResetAll bytes ⟼ entry) ∷ log) ≡ None
all_open Started bytes log n = absurd (n refl)
all_open entry bytes log n = refl

module _ (judge : MomentJudge) (entry : Shown) (log : Log) (s : StandsAfter judge ((Tick ⟼ entry) ∷ log)) where
  reset_ends : entry ≢ Started → StandsAfter (after_end judge) ((ResetGen ⟼ entry) ∷ log)
  reset_ends n = record {
    sizes = s.sizes;
    tells = s.tells;
    marks = s.marks;
    waits = sym (none_waits entry log);
    closed = ((λ e. none_open entry log n), λ o. refl);
    stands = tt;
  }

  all_ends : (bytes : List ℕ) → entry ≢ Started → StandsAfter (after_end (void judge)) ((ResetAll bytes ⟼ entry) ∷ log)
  all_ends bytes n = record {
    sizes = (length-replicate {A = Option ℕ} 0x2000 None, s.sizes.1, s.sizes.2);
    tells = λ a l. get_or-replicate 0x2000 a None None l;
    marks = s.marks;
    waits = sym (all_waits entry bytes log);
    closed = ((λ e. all_open entry bytes log n), λ o. refl);
    stands = tt;
  }

module _ (judge : MomentJudge) (log : Log) (s : StandsAfter judge ((Tick ⟼ Started) ∷ log)) where
  reset_starts : StandsAfter judge ((ResetGen ⟼ Started) ∷ log)
  reset_starts = record { sizes = s.sizes; tells = s.tells; marks = s.marks; waits = s.waits; closed = s.closed; stands = so_same Tick ResetGen Started log judge.changed judge.phase s.stands }

  all_starts : (bytes : List ℕ) → StandsAfter (void judge) ((ResetAll bytes ⟼ Started) ∷ log)
  all_starts bytes = record {
    sizes = (length-replicate {A = Option ℕ} 0x2000 None, s.sizes.1, s.sizes.2);
    tells = λ a l. get_or-replicate 0x2000 a None None l;
    marks = s.marks;
    waits = s.waits;
    closed = s.closed;
    stands = so_same Tick (ResetAll bytes) Started log judge.changed judge.phase s.stands;
  }

-- a judge that was told a line as of a tick, and then its event
pub event_stands : (judge : MomentJudge) (entry : Shown) (log : Log) (event : Happening) (starts : Bool) → IsTrue starts ↔ (entry ≡ Started) → StandsAfter judge ((Tick ⟼ entry) ∷ log)
    → StandsAfter (after_event event starts judge) ((event ⟼ entry) ∷ log)
event_stands judge entry log ResetGen true b s =
    subst (λ n. StandsAfter judge ((ResetGen ⟼ n) ∷ log)) (sym (b.0 refl)) (reset_starts judge log (subst (λ n. StandsAfter judge ((Tick ⟼ n) ∷ log)) (b.0 refl) s))
event_stands judge entry log ResetGen false b s = reset_ends judge entry log s (λ e. false≢true (b.1 e))
event_stands judge entry log (ResetAll bytes) true b s =
    subst (λ n. StandsAfter (void judge) ((ResetAll bytes ⟼ n) ∷ log)) (sym (b.0 refl)) (all_starts judge log (subst (λ n. StandsAfter judge ((Tick ⟼ n) ∷ log)) (b.0 refl) s) bytes)
event_stands judge entry log (ResetAll bytes) false b s = all_ends judge entry log s bytes (λ e. false≢true (b.1 e))
event_stands judge entry log event starts b s =
    record { sizes = s.sizes; tells = s.tells; marks = s.marks; waits = s.waits; closed = s.closed; stands = so_same Tick event entry log judge.changed judge.phase s.stands }

-- no reset of the generator
abbrev pub IsOrdinary : Happening → Type 0
IsOrdinary ResetGen = ⊥
IsOrdinary (ResetAll bytes) = ⊥
IsOrdinary event = Unit {0}

-- a judge that was told a line by its own event, as of a tick
pub as_tick : (judge : MomentJudge) (entry : Shown) (log : Log) (event : Happening) → IsOrdinary event → StandsAfter judge ((event ⟼ entry) ∷ log) → StandsAfter judge ((Tick ⟼ entry) ∷ log)
as_tick judge entry log ResetGen p s = absurd p
as_tick judge entry log (ResetAll bytes) p s = absurd p
as_tick judge entry log event p s =
    record { sizes = s.sizes; tells = s.tells; marks = s.marks; waits = s.waits; closed = s.closed; stands = so_same event Tick entry log judge.changed judge.phase s.stands }

-- a line that says nothing of memory or of a run

abbrev IsSilent : Shown → Type 0
IsSilent Started = ⊥
IsSilent (Low address byte) = ⊥
IsSilent (Fetched address word) = ⊥
IsSilent (Done address word strokes) = ⊥
IsSilent (Broke address fault) = ⊥
IsSilent (Acted (Wrote address byte)) = ⊥
IsSilent entry = Unit {0}

silent_stands : (judge : MomentJudge) (entry : Shown) (log : Log) → IsSilent entry → StandsAfter judge log → StandsAfter judge ((Tick ⟼ entry) ∷ log)
silent_stands judge Started log q s = absurd q
silent_stands judge (Low address byte) log q s = absurd q
silent_stands judge (Fetched address word) log q s = absurd q
silent_stands judge (Done address word strokes) log q s = absurd q
silent_stands judge (Broke address fault) log q s = absurd q
silent_stands judge (Acted (Wrote address byte)) log q s = absurd q
silent_stands judge entry log q s =
    goes_on log Tick entry (λ e. cc) (λ a c. c) (λ a. refl) (λ a. ((λ h. h), λ h. h)) judge judge (none_read judge (λ a. None) s.sizes (λ a l. refl)) s judge.low ((λ o. o), λ o. o) s.waits

pub action_stands : (judge : MomentJudge) (action : Action) (log : Log) → ((a b : ℕ) → action ≡ Wrote a b → ⊥) → StandsAfter judge log → StandsAfter judge ((Tick ⟼ Acted action) ∷ log)
action_stands judge (Wrote a b) log n s = absurd (n a b refl)
action_stands judge action log n s = silent_stands judge (Acted action) log tt s

pub rest_stands : {A : Type 0} (judge : MomentJudge) (entry : Entry (Vec Stroke A)) (log : Log) → (entry ≡ Started → ⊥) → ((a b : ℕ) → entry ≡ Low a b → ⊥) → ((a w : ℕ) → entry ≡ Fetched a w → ⊥)
    → ((a w : ℕ) (drew : Vec Stroke A) → entry ≡ Done a w drew → ⊥) → ((a : ℕ) (fault : GenFault) → entry ≡ Broke a fault → ⊥) → ((action : Action) → entry ≡ Acted action → ⊥)
    → StandsAfter judge log → StandsAfter judge ((Tick ⟼ shown_of entry) ∷ log)
rest_stands judge Started log a b c d e f s = absurd (a refl)
rest_stands judge (Low x y) log a b c d e f s = absurd (b x y refl)
rest_stands judge (Fetched x y) log a b c d e f s = absurd (c x y refl)
rest_stands judge (Done x y drew) log a b c d e f s = absurd (d x y drew refl)
rest_stands judge (Broke x fault) log a b c d e f s = absurd (e x fault refl)
rest_stands judge (Acted action) log a b c d e f s = absurd (f action refl)
rest_stands judge entry log a b c d e f s = silent_stands judge (shown_of entry) log tt s

-- whether the entry says that a run began

not_started : {A : Type 0} (entry : Entry (Vec Stroke A)) → (entry ≡ Started → ⊥) → shown_of entry ≡ Started → ⊥
not_started Started n e = n refl
not_started entry n e = cc

pub begins : {A : Type 0} (entry : Entry (Vec Stroke A)) (starts : Bool) → starts ≡ true → entry ≡ Started → IsTrue starts ↔ (shown_of entry ≡ Started)
begins entry starts s e = ((λ t. subst (λ n. shown_of n ≡ Started) (sym e) refl), λ n. s)

pub begins_not : {A : Type 0} (entry : Entry (Vec Stroke A)) (starts : Bool) → starts ≡ false → (entry ≡ Started → ⊥) → IsTrue starts ↔ (shown_of entry ≡ Started)
begins_not entry starts s n = ((λ t. absurd (false≢true (sym s ∙ t))), λ e. absurd (not_started entry n e))

-- only a HALT is judged
pub not_judged : {A : Type 0} (entry : Entry (Vec Stroke A)) (log : Log) (event : Happening) → ((a w : ℕ) (drew : Vec Stroke A) → entry ≡ Done a w drew → ⊥) → IsTrue false ↔ ¬ IsOfOneMoment told log event (shown_of entry)
not_judged (Done x y drew) log event d = absurd (d x y drew refl)
not_judged entry log event d = ((λ t. absurd (false≢true t)), λ n. absurd (n tt))

pub broke_stands : (judge : MomentJudge) (address : ℕ) (fault : GenFault) (log : Log) → StandsAfter judge log → StandsAfter (after_end judge) ((Tick ⟼ Broke address fault) ∷ log)
broke_stands judge address fault log s =
    ends log Tick (Broke address fault) (λ e. cc) (λ a c. c) (λ a. refl) (λ a. ((λ h. h), λ h. h)) judge judge (none_read judge (λ a. None) s.sizes (λ a l. refl)) s refl refl
