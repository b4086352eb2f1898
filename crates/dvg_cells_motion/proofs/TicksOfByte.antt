-- How many ticks a byte takes.
use Rattle.std.proofs.Common.{◌≡◌, ℕ, zero, suc, ◌+◌, ◌-◌, ◌<◌, ◌≤◌, Bool, true, false, List, [], ◌∷◌, ◌++◌, refl, sym, ap, ◌∙◌, subst, arith, leb, inl, inr}
use Rattle.std.specs.Prelude.{nat_le, if◌then◌else◌, All, ◌⊎◌}
use Rattle.std.proofs.lemmas.Bool.{cases_lt, le-leb, lt-leb, ne_eqb, eq-eqb}
use Rattle.std.proofs.lemmas.List.Elements.{All-head, All-tail, All-cons}
use Rattle.dvg_cells_core.specs.Cells.{both, none, bit, mux, ne, add, sub, shl}
use Rattle.dvg_cells_core.specs.Core.{Core, labs, vec, jsrl, ends}
use Rattle.dvg_cells_core.specs.Core as core
use Rattle.dvg_gen.specs.declared.moving.Move.{Move}
use Rattle.dvg_cells_core.specs.Refines.{ArePins}
use Rattle.dvg_cells_core.specs.Tells.{TellsMove, TellsMoves}
use Rattle.dvg_cells_core.proofs.Tells.{pins_tell_law}
use Rattle.dvg_cells_motion.specs.Motion.{Motion, going}
use Rattle.dvg_cells_motion.specs.Motion as motion
use Rattle.dvg_cells_motion.specs.Pace.{hold, places}
use Rattle.dvg_cells_motion.specs.Pace as pace
use Rattle.dvg_cells_motion.specs.Pulses.{time}
use Rattle.dvg_cells_motion.proofs.Tied.{Bus, Beside, paced, driven, cores, core_after, after, AtRest, AreServed, IsIdle, ticks_of, TakesTime}
use Rattle.dvg_cells_motion.specs.Machine.{own_ticks, vector_ticks}
use Rattle.dvg_cells_motion.proofs.Moves.{last_is, time_small}
use Rattle.dvg_cells_motion.proofs.Machine.{unserved, both_none, mux_same, stays, held_rests}

-- the count of a vector that began at this one, of which so many ticks are to come
abbrev pub gone : ℕ → ℕ → ℕ
gone t k = if nat_le k t then k else t

-- where all is after so many ticks
pub record Times (beside : Beside) (own t base k : ℕ) : Type 0 where
  pub left : beside.pace.left ≡ own - k
  pub ready : none beside.pace.ready ≡ bit (leb k (own + t))
  pub last : beside.motion.last ≡ base + t
  pub count : beside.motion.count ≡ base + gone t (k - own)
  pub kind : (t ≡ 0) ⊎ ((beside.pace.placing ≡ 0) × (base + t ≤ 1024))

pub gone_le : (t k : ℕ) → k ≤ t → gone t k ≡ k
gone_le t k h = rw (le-leb k t h) refl

gone_gt : (t k : ℕ) → t < k → gone t k ≡ t
gone_gt t k h = rw (lt-leb k t h) refl

pub gone_ge : (t k : ℕ) → t ≤ k → gone t k ≡ t
gone_ge t k h = choose (cases_lt t k)
  where
    choose : (t < k) ⊎ (k ≤ t) → gone t k ≡ t
    choose (inl less) = gone_gt t k less
    choose (inr more) = gone_le t k more ∙ (omega arith)

-- a clock of the counter without an event
pub counted_on : (m : Motion) (pins : motion.Pins) → pins.vec ≡ 0 → (m.count ≡ m.last) ⊎ (pins.places ≡ 0)
    → ((motion.clock m pins).last ≡ m.last) × ((motion.clock m pins).count ≡ mux (both (ne m.count m.last) pins.tick) (add 11 m.count 1) m.count)
counted_on m pins vec (inl over) = (rw vec (mux_same pins.places m.last), rw vec (rw (eq-eqb m.count m.last over) (mux_same pins.places m.count)))
counted_on m pins vec (inr labs) = (rw vec (rw labs refl), rw vec (rw labs refl))

pub down : (l : ℕ) → l ≤ 2 → mux (none l) l (sub 2 l 1) ≡ l - 1
down zero h = refl
down (suc zero) h = refl
down (suc (suc zero)) h = refl
down (suc (suc (suc n))) h = absurd (omega arith)

pub none_more : (l : ℕ) → 0 < l → none l ≡ 0
none_more l h = rw (ne_eqb l 0 (λ e. absurd (omega arith))) refl

pub ne_more : (a b : ℕ) → a < b → ne a b ≡ 1
ne_more a b h = rw (ne_eqb a b (λ e. absurd (omega arith))) refl

pub ne_same : (a b : ℕ) → a ≡ b → ne a b ≡ 0
ne_same a b e = rw (eq-eqb a b e) refl

module _ (c : Core) (beside : Beside) (bus : Bus) (idle : IsIdle bus) (own t base k : ℕ) (few : own ≤ 2) (at : Times beside own t base k) where
  abbrev next : Beside
  next = record {
    pace = pace.clock beside.pace (paced c beside bus);
    motion = motion.clock beside.motion (driven c beside bus);
  }

  abbrev left_now : ℕ
  left_now = beside.pace.left

  left_next : next.pace.left ≡ mux bus.tick (mux (none left_now) left_now (sub 2 left_now 1)) left_now
  left_next = rw idle.valid (rw idle.start refl)

  ready_next : next.pace.ready ≡ mux bus.tick (both (none left_now) (none (going beside.motion))) beside.pace.ready
  ready_next = rw idle.valid (rw idle.start refl)

  placing_next : next.pace.placing ≡ mux bus.tick 0 beside.pace.placing
  placing_next = let quiet = (unserved c bus.pins idle.valid).1 in rw quiet refl

  free : (beside.motion.count ≡ beside.motion.last) ⊎ ((driven c beside bus).places ≡ 0)
  free = by at.kind
    where
      by : (t ≡ 0) ⊎ ((beside.pace.placing ≡ 0) × (base + t ≤ 1024)) → (beside.motion.count ≡ beside.motion.last) ⊎ ((driven c beside bus).places ≡ 0)
      by (inl none_left) = inl (at.count ∙ ap (λ n. base + n) (gone_ge t (k - own) (omega arith)) ∙ sym at.last)
      by (inr rest) = let off = rest.0 in inr (rw off (both_none bus.tick))

  kind_next : (t ≡ 0) ⊎ ((next.pace.placing ≡ 0) × (base + t ≤ 1024))
  kind_next = by at.kind
    where
      by : (t ≡ 0) ⊎ ((beside.pace.placing ≡ 0) × (base + t ≤ 1024)) → (t ≡ 0) ⊎ ((next.pace.placing ≡ 0) × (base + t ≤ 1024))
      by (inl none_left) = inl none_left
      by (inr rest) = inr (placing_next ∙ ap (mux bus.tick 0) rest.0 ∙ mux_same bus.tick 0, rest.1)

  mover_next : ((motion.clock beside.motion (driven c beside bus)).last ≡ beside.motion.last)
      × ((motion.clock beside.motion (driven c beside bus)).count ≡ mux (both (going beside.motion) (both bus.tick (none left_now))) (add 11 beside.motion.count 1) beside.motion.count)
  mover_next = counted_on beside.motion (driven c beside bus) (unserved c bus.pins idle.valid).0 free

  without : bus.tick ≡ 0 → Times next own t base k
  without none_now = record {
    left = left_next ∙ ap (λ n. mux n (mux (none left_now) left_now (sub 2 left_now 1)) left_now) none_now ∙ at.left;
    ready = ap none (ready_next ∙ ap (λ n. mux n (both (none left_now) (none (going beside.motion))) beside.pace.ready) none_now) ∙ at.ready;
    last = mover_next.0 ∙ at.last;
    count = mover_next.1 ∙ ap (λ n. mux (both (going beside.motion) (both n (none left_now))) (add 11 beside.motion.count 1) beside.motion.count) none_now
        ∙ ap (λ n. mux n (add 11 beside.motion.count 1) beside.motion.count) (both_none (going beside.motion)) ∙ at.count;
    kind = kind_next;
  }

  abbrev step : ℕ → ℕ → ℕ
  step g l = mux (both g (both 1 (none l))) (add 11 beside.motion.count 1) beside.motion.count

  with_one : bus.tick ≡ 1 → Times next own t base (suc k)
  with_one one = choose (cases_lt k own) (cases_lt k (own + t))
    where
      left_is : next.pace.left ≡ own - suc k
      left_is =
          let short : left_now ≤ 2 = subst (λ n. n ≤ 2) (sym at.left) (omega arith) in
          let less : own - k - 1 ≡ own - suc k = omega arith in
          left_next ∙ ap (λ n. mux n (mux (none left_now) left_now (sub 2 left_now 1)) left_now) one ∙ down left_now short ∙ ap (λ n. n - 1) at.left ∙ less

      ready_is : next.pace.ready ≡ both (none left_now) (none (going beside.motion))
      ready_is = ready_next ∙ ap (λ n. mux n (both (none left_now) (none (going beside.motion))) beside.pace.ready) one

      count_is : next.motion.count ≡ step (going beside.motion) left_now
      count_is = mover_next.1 ∙ ap (λ n. mux (both (going beside.motion) (both n (none left_now))) (add 11 beside.motion.count 1) beside.motion.count) one

      end : none next.pace.ready ≡ bit (leb (suc k) (own + t)) → next.motion.count ≡ base + gone t (suc k - own) → Times next own t base (suc k)
      end r n = record { left = left_is; ready = r; last = mover_next.0 ∙ at.last; count = n; kind = kind_next }

      choose : (k < own) ⊎ (own ≤ k) → (k < own + t) ⊎ (own + t ≤ k) → Times next own t base (suc k)
      choose (inl early) _ =
          let some_left : none left_now ≡ 0 = none_more left_now (subst (λ n. 0 < n) (sym at.left) (omega arith)) in
          let same : k - own ≡ suc k - own = omega arith in
          end (ap none (ready_is ∙ ap (λ n. both n (none (going beside.motion))) some_left) ∙ ap bit (sym (le-leb (suc k) (own + t) (omega arith))))
          (count_is ∙ ap (λ n. mux (both (going beside.motion) (both 1 n)) (add 11 beside.motion.count 1) beside.motion.count) some_left
          ∙ ap (λ n. mux n (add 11 beside.motion.count 1) beside.motion.count) (both_none (going beside.motion)) ∙ at.count ∙ ap (λ n. base + gone t n) same)
      choose (inr now) (inl less) =
          let none_left : left_now ≡ 0 = at.left ∙ (omega arith) in
          let here : beside.motion.count ≡ base + (k - own) = at.count ∙ ap (λ n. base + n) (gone_le t (k - own) (omega arith)) in
          let goes_on : going beside.motion ≡ 1 = ne_more beside.motion.count beside.motion.last (subst (λ n. n < beside.motion.last) (sym here) (subst (λ n. base + (k - own) < n) (sym at.last) (omega arith))) in
          let fits : base + t ≤ 1024 = fits_by at.kind in
          let added : add 11 (base + (k - own)) 1 ≡ base + (suc k - own) = omega arith in
          end (ap none (ready_is ∙ ap (λ n. both (none left_now) (none n)) goes_on ∙ both_none (none left_now)) ∙ ap bit (sym (le-leb (suc k) (own + t) less)))
          (count_is ∙ ap (λ n. step n left_now) goes_on ∙ ap (λ n. step 1 n) none_left ∙ ap (λ n. add 11 n 1) here ∙ added
          ∙ ap (λ n. base + n) (sym (gone_le t (suc k - own) (omega arith))))
        where
          fits_by : (t ≡ 0) ⊎ ((beside.pace.placing ≡ 0) × (base + t ≤ 1024)) → base + t ≤ 1024
          fits_by (inl none_at_all) = absurd (omega arith)
          fits_by (inr rest) = rest.1
      choose (inr now) (inr over) =
          let none_left : left_now ≡ 0 = at.left ∙ (omega arith) in
          let ended : beside.motion.count ≡ beside.motion.last = at.count ∙ ap (λ n. base + n) (gone_ge t (k - own) (omega arith)) ∙ sym at.last in
          let goes_off : going beside.motion ≡ 0 = ne_same beside.motion.count beside.motion.last ended in
          end (ap none (ready_is ∙ ap (λ n. both (none left_now) (none n)) goes_off ∙ ap (λ n. both (none n) 1) none_left) ∙ ap bit (sym (lt-leb (suc k) (own + t) (omega arith))))
          (count_is ∙ ap (λ n. step n left_now) goes_off ∙ ended ∙ at.last ∙ ap (λ n. base + n) (sym (gone_ge t (suc k - own) (omega arith))))

  onward : Times next own t base (k + bus.tick)
  onward = by bus.tick refl
    where
      by : (n : ℕ) → bus.tick ≡ n → Times next own t base (k + n)
      by zero e = let same : k ≡ k + 0 = omega arith in subst (Times next own t base) same (without e)
      by (suc zero) e = let same : suc k ≡ k + 1 = omega arith in subst (Times next own t base) same (with_one e)
      by (suc (suc n)) e = let small = idle.tick in absurd (omega arith)

pub own_few : (jsrl ends : ℕ) → own_ticks jsrl ends ≤ 2
own_few zero zero = omega arith
own_few zero (suc e) = rw (ne_eqb (suc e) 0 (λ e. absurd (omega arith))) (omega arith)
own_few (suc c) ends = rw (ne_eqb (suc c) 0 (λ e. absurd (omega arith))) (omega arith)

less_none : (n : ℕ) → n ≡ n - 0
less_none n = omega arith

nothing : (n : ℕ) → 0 ≡ 0 + (0 - n)
nothing n = omega arith

pub mux_more : (s a b : ℕ) → mux (suc s) a b ≡ a
mux_more s a b = rw (ne_eqb (suc s) 0 (λ e. absurd (omega arith))) refl

pub all_pins : (clocks : List Bus) → AreServed clocks → All ArePins (cores clocks)
all_pins [] are = λ k d less. absurd (omega arith)
all_pins (bus ∷ clocks) are = All-cons ArePins bus.pins (cores clocks) are.0.pins (all_pins clocks are.1)

exclusive : (c : Core) (pins : core.Pins) (added : List Move) → TellsMoves c pins added → (n : ℕ) → vec c pins ≡ suc n → labs c pins ≡ 0
exclusive c pins [] tells n e = tells.1
exclusive c pins (move ∷ []) tells n e = by move.placed tells
  where
    by : (b : Bool) → TellsMove b c pins move → labs c pins ≡ 0
    by true told = let never : ◌≡◌ {A = ℕ} (suc n) 0 = sym e ∙ told.0 in absurd (omega arith)
    by false told = told.1
exclusive c pins (move ∷ (other ∷ more)) tells n e = absurd tells

-- the clock in which a byte is taken
module _ (clocks : List Bus) (bus : Bus) (are : AreServed (bus ∷ clocks)) (valid : bus.pins.valid ≡ 1) (reset : bus.pins.reset ≡ 0) (start : bus.pins.start ≡ 0) where
  abbrev c0 : Core
  c0 = core_after clocks

  abbrev own0 : ℕ
  own0 = own_ticks (jsrl c0 bus.pins) (ends c0 bus.pins)

  abbrev taken : Beside
  taken = after (bus ∷ clocks)

  rest : AtRest (after clocks)
  rest = held_rests clocks are.1 (are.0.valid valid)

  left_first : taken.pace.left ≡ own0
  left_first = rw valid (rw reset (rw start refl))

  ready_first : none taken.pace.ready ≡ 1
  ready_first = rw valid (rw reset (rw start refl))

  no_place : (driven c0 (after clocks) bus).places ≡ 0
  no_place = let off = rest.1 in rw off (both_none bus.tick)

  abbrev Begun : ℕ → Type 0
  Begun t = (base : ℕ) × Times taken own0 t base 0

  pub by_goes : (g : ℕ) → vec c0 bus.pins ≡ g → Begun (vector_ticks g (core.sum c0 bus.pins))
  by_goes zero e =
      let same = stays (after clocks).motion (driven c0 (after clocks) bus) no_place e rest.0 in
      let none_more_left : gone 0 (0 - own0) ≡ 0 = gone_ge 0 (0 - own0) (omega arith) in
      let base_is : (after clocks).motion.last ≡ (after clocks).motion.last + 0 = omega arith in (
        (after clocks).motion.last,
        record {
          left = left_first ∙ less_none own0;
          ready = ready_first ∙ ap bit (sym (le-leb 0 (own0 + 0) (omega arith)));
          last = ap (λ m. m.last) same ∙ base_is;
          count = ap (λ m. m.count) same ∙ rest.0 ∙ base_is ∙ ap (λ n. (after clocks).motion.last + n) (sym none_more_left);
          kind = inl refl;
        },
      )
  by_goes (suc n) e =
      let told = pins_tell_law (cores clocks) bus.pins (all_pins (bus ∷ clocks) are) reset start in
      let no_labs = exclusive c0 bus.pins told.2 told.4 n e in
      let off = rest.1 in
      let placing : taken.pace.placing ≡ 0 = rw no_labs (rw off (mux_same bus.tick 0)) in
      let sum_in : core.sum c0 bus.pins < 16 = omega arith in
      let t_is : vector_ticks (suc n) (core.sum c0 bus.pins) ≡ time (core.sum c0 bus.pins) = rw (ne_eqb (suc n) 0 (λ e. absurd (omega arith))) refl in
      let t = time (core.sum c0 bus.pins) in
      let few = time_small (core.sum c0 bus.pins) sum_in in
      let few_more : 0 + t ≤ 1024 = omega arith in
      let place = no_place in
      let last_first : taken.motion.last ≡ 0 + t = rw place (rw e (mux_more n (shl 11 2 (core.sum c0 bus.pins)) (after clocks).motion.last ∙ last_is (core.sum c0 bus.pins) sum_in ∙ (omega arith))) in
      let count_first : taken.motion.count ≡ 0 = rw place (rw e (mux_more n 0 _)) in
      subst Begun (sym t_is) (
        0,
        record {
          left = left_first ∙ less_none own0;
          ready = ready_first ∙ ap bit (sym (le-leb 0 (own0 + t) (omega arith)));
          last = last_first;
          count = count_first ∙ nothing own0 ∙ ap (λ n. 0 + n) (sym (gone_le t (0 - own0) (omega arith)));
          kind = inr (placing, few_more);
        },
      )

pub later_times : (older : List Bus) (own t base : ℕ) → own ≤ 2 → Times (after older) own t base 0 → (later : List Bus) → All IsIdle later
    → Times (after (later ++ older)) own t base (ticks_of later)
later_times older own t base few at [] idle = at
later_times older own t base few at (b ∷ later) idle =
    onward (core_after (later ++ older)) (after (later ++ older)) b (All-head IsIdle b later idle) own t base (ticks_of later)
    few (later_times older own t base few at later (All-tail IsIdle b later idle))

rests_by : (left own k : ℕ) → left ≡ own - k → none left ≡ bit (leb own k)
rests_by left own k is = by (cases_lt k own)
  where
    by : (k < own) ⊎ (own ≤ k) → none left ≡ bit (leb own k)
    by (inl less) = none_more left (omega arith) ∙ ap bit (sym (lt-leb own k less))
    by (inr over) = let none_left : left ≡ 0 = omega arith in ap none none_left ∙ ap bit (sym (le-leb own k over))

pub takes_time_tied : TakesTime
takes_time_tied clocks bus later are valid reset start idle =
    let begun = by_goes clocks bus are valid reset start (vec (core_after clocks) bus.pins) refl in
    let own = own_ticks (jsrl (core_after clocks) bus.pins) (ends (core_after clocks) bus.pins) in
    let times = later_times (bus ∷ clocks) own (vector_ticks (vec (core_after clocks) bus.pins) (core.sum (core_after clocks) bus.pins)) begun.0
    (own_few (jsrl (core_after clocks) bus.pins) (ends (core_after clocks) bus.pins)) begun.1 later idle in
    (times.ready, rests_by _ own (ticks_of later) times.left)
