-- The whole machine, clock by clock.
use Rattle.std.proofs.Common.{◌≡◌, ℕ, zero, suc, ◌+◌, ◌*◌, ◌<◌, ◌≤◌, Bool, true, false}
use Rattle.std.proofs.Common.{List, [], ◌∷◌, ◌++◌, Option, None, refl, sym, ap, ◌∙◌, subst, arith, ltb, inl, inr, eqb-true}
use Rattle.std.specs.Prelude.{nat_eq, not, ◌⊎◌}
use Rattle.std.proofs.lemmas.Bool.{cases_lt, lt-ltb, ne_eqb, eq-eqb}
use Rattle.dvg_gen.specs.declared.counters.Counters.{Counters}
use Rattle.dvg_gen.specs.declared.moving.Move.{Move}
use Rattle.dvg_gen.specs.Counting
use Rattle.dvg_gen.specs.Counting.{followed, followed_all}
use Rattle.dvg_gen.specs.Drawing.{unit}
use Rattle.dvg_gen.specs.Told.{Told, Newest, Leaves, Start, Reset, starts, resets}
use Rattle.dvg_gen.specs.Told as told
use Rattle.dvg_gen.proofs.OneRun.{leaves_same}
use Rattle.dvg_cells_core.specs.Cells.{part, both, none, bit, mux, eq, lt}
use Rattle.dvg_cells_core.specs.Core.{Core, labs, vec}
use Rattle.dvg_cells_core.specs.Core as core
use Rattle.dvg_cells_core.specs.Refines.{Tells, idles, ignores, fetches, drew}
use Rattle.dvg_gen.specs.Bytes.{Met}
use Rattle.dvg_cells_core.specs.Refines as refines
use Rattle.dvg_cells_core.proofs.Machines.{machine_of}
use Rattle.dvg_cells_core.proofs.CoreSincePowerUp.{Stands, stand_next, agrees_of, one}
use Rattle.dvg_gen.proofs.GeneratorAfterHistory.{stands_new}
use Rattle.dvg_cells_motion.specs.Motion.{Motion, going}
use Rattle.dvg_cells_motion.specs.Motion as motion
use Rattle.dvg_cells_motion.specs.Pace.{hold, places}
use Rattle.dvg_cells_motion.specs.Pace as pace
use Rattle.dvg_cells_motion.specs.Pulses
use Rattle.dvg_cells_motion.specs.Pulses.{led, pulses, counters_of, time, within}
use Rattle.dvg_cells_core.specs.Tells.{moves_of, TellsMove, TellsMoves}
use Rattle.dvg_cells_motion.specs.Machine.{BeganAt, CountersFollow}
use Rattle.dvg_cells_motion.specs.Machine as machine
use Rattle.dvg_cells_motion.proofs.Tied.{Bus, Beside, paced, driven, cores, core_after, after, AtRest, IsServed, AreServed}
use Rattle.dvg_cells_motion.proofs.Moves.{state, both_at, begins, on_by, within_less, within_over, all_pulses, stepped_at, time_small}
use Rattle.dvg_cells_core.proofs.Tells.{gains}

-- where the motion leads the counters to
pub data Phase (core : Core) (beside : Beside) (want : Counters) : Type 0 where
  rests : beside.pace.placing ≡ 0 → beside.motion.count ≡ beside.motion.last → beside.motion.x < 4096 → beside.motion.y < 4096
      → counters_of beside.motion ≡ want → Phase core beside want
  runs : (from_x from_y last rate_x rate_y back_x back_y bright n : ℕ) → beside.pace.placing ≡ 0 → beside.pace.ready ≡ 0
      → beside.motion ≡ state from_x from_y last rate_x rate_y back_x back_y bright n → n < last → last ≤ 1024 → back_x < 2 → back_y < 2
      → both_at (led from_x back_x (pulses rate_x last)) (led from_y back_y (pulses rate_y last)) ≡ want → Phase core beside want
  waits : beside.pace.placing ≡ 1 → beside.pace.ready ≡ 0 → beside.pace.left ≡ 1 → beside.motion.count ≡ beside.motion.last
      → both_at (part 9 12 core.x) (part 9 12 core.y) ≡ want → Phase core beside want

-- a motion at rest stays as it is
pub stays : (m : Motion) (pins : motion.Pins) → pins.places ≡ 0 → pins.vec ≡ 0 → m.count ≡ m.last → motion.clock m pins ≡ m
stays m pins labs vec over = rw labs (rw vec (rw (eq-eqb m.count m.last over) refl))

-- a LABS sets it
placed : (m : Motion) (pins : motion.Pins) → pins.places ≡ 1 → m.count ≡ m.last
    → (counters_of (motion.clock m pins) ≡ both_at pins.to_x pins.to_y) × ((motion.clock m pins).count ≡ (motion.clock m pins).last)
placed m pins labs over = (rw labs refl, rw labs over)

-- two lists of moves
followed_two : (old : Counters) (xs ys : List Move) → followed_all old (xs ++ ys) ≡ followed_all (followed_all old xs) ys
followed_two old [] ys = refl
followed_two old (x ∷ xs) ys = followed_two (followed old x) xs ys

led_small : (from s n : ℕ) → led from s n < 4096
led_small from zero n = omega arith
led_small from (suc s) n = omega arith

-- a vector that is at a count, with what it leads to
settle : (core : Core) (beside : Beside) (want : Counters) (from_x from_y last rate_x rate_y back_x back_y bright n : ℕ)
    → beside.pace.placing ≡ 0 → beside.pace.ready ≡ 0
    → beside.motion ≡ state from_x from_y last rate_x rate_y back_x back_y bright n → n ≤ last → last ≤ 1024 → back_x < 2 → back_y < 2
    → both_at (led from_x back_x (pulses rate_x last)) (led from_y back_y (pulses rate_y last)) ≡ want → Phase core beside want
settle core beside want fx fy last rx ry bx by z n placing ready is within small bx_in by_in leads = choose (cases_lt n last)
  where
    choose : (n < last) ⊎ (last ≤ n) → Phase core beside want
    choose (inl less) = runs fx fy last rx ry bx by z n placing ready is less small bx_in by_in leads
    choose (inr more) =
        let same : n ≡ last = omega arith in
        let there = is ∙ ap (state fx fy last rx ry bx by z) same in
        rests placing (ap (λ m. m.count) there ∙ sym (ap (λ m. m.last) there))
        (subst (λ k. k < 4096) (sym (ap (λ m. m.x) there)) (led_small fx bx (pulses rx last)))
        (subst (λ k. k < 4096) (sym (ap (λ m. m.y) there)) (led_small fy by (pulses ry last)))
        (ap counters_of there ∙ leads)

pub both_none : (a : ℕ) → both a 0 ≡ 0
both_none zero = refl
both_none (suc a) = rw (ne_eqb (suc a) 0 (λ e. absurd (omega arith))) refl

pub both_one : (a : ℕ) → both a 1 ≡ 0 → a ≡ 0
both_one zero is = refl
both_one (suc a) is = let never : both (suc a) 1 ≡ 1 = rw (ne_eqb (suc a) 0 (λ e. absurd (omega arith))) refl in absurd (omega arith)

pub zero_or : (a : ℕ) → (a ≡ 0) ⊎ (0 < a)
zero_or zero = inl refl
zero_or (suc a) = inr (omega arith)

pub mux_same : (s a : ℕ) → mux s a a ≡ a
mux_same zero a = refl
mux_same (suc s) a = rw (ne_eqb (suc s) 0 (λ e. absurd (omega arith))) refl

pub stays_dark_law : Pulses.StaysDark
stays_dark_law motion pins still = (
  rw still refl,
  rw still refl,
  refl,
  λ vec. rw vec (rw still (rw (mux_same pins.places motion.count) (rw (mux_same pins.places motion.last) still))),
)

pub both_small : (a b : ℕ) → both a b < 2
both_small zero b = omega arith
both_small (suc a) zero = rw (ne_eqb (suc a) 0 (λ e. absurd (omega arith))) (omega arith)
both_small (suc a) (suc b) = rw (ne_eqb (suc a) 0 (λ e. absurd (omega arith))) (rw (ne_eqb (suc b) 0 (λ e. absurd (omega arith))) (omega arith))

within_le : (last n : ℕ) → within last n ≤ last
within_le last n = choose (cases_lt n last)
  where
    choose : (n < last) ⊎ (last ≤ n) → within last n ≤ last
    choose (inl less) = subst (λ k. k ≤ last) (sym (within_less last n less)) (omega arith)
    choose (inr more) = subst (λ k. k ≤ last) (sym (within_over last n more)) (omega arith)

-- a clock that tells of no move
module _ (c c' : Core) (beside : Beside) (bus : Bus) (want : Counters) (no_move : vec c bus.pins ≡ 0) (no_labs : labs c bus.pins ≡ 0) (tick_in : bus.tick < 2) where
  abbrev next : Beside
  next = record {
    pace = pace.clock beside.pace (paced c beside bus);
    motion = motion.clock beside.motion (driven c beside bus);
  }

  placing_off : beside.pace.placing ≡ 0 → next.pace.placing ≡ 0
  placing_off off = rw no_labs (rw off (mux_same bus.tick 0))

  places_off : beside.pace.placing ≡ 0 → (driven c beside bus).places ≡ 0
  places_off off = rw off (both_none bus.tick)

  ready_off : beside.pace.ready ≡ 0 → both (none beside.pace.left) (none (going beside.motion)) ≡ 0 → next.pace.ready ≡ 0
  ready_off off on =
      rw off (rw on (ap (λ k. mux (both bus.pins.start (none bus.pins.reset)) 0 (mux (both (both bus.pins.valid (none bus.pins.reset)) (none bus.pins.start)) 0 k)) (mux_same bus.tick 0)
      ∙ ap (λ k. mux (both bus.pins.start (none bus.pins.reset)) 0 k) (mux_same (both (both bus.pins.valid (none bus.pins.reset)) (none bus.pins.start)) 0)
      ∙ mux_same (both bus.pins.start (none bus.pins.reset)) 0))

  going_on : (n last : ℕ) → n < last → beside.motion.count ≡ n → beside.motion.last ≡ last → going beside.motion ≡ 1
  going_on n last less count ends = rw count (rw ends (rw (ne_eqb n last (λ e. absurd (omega arith))) refl))

  quiet_rest : beside.pace.placing ≡ 0 → beside.motion.count ≡ beside.motion.last → beside.motion.x < 4096 → beside.motion.y < 4096
      → counters_of beside.motion ≡ want → Phase c' next want
  quiet_rest off over fx fy is =
      let same = stays beside.motion (driven c beside bus) (places_off off) no_move over in
      rests (placing_off off) (ap (λ m. m.count) same ∙ over ∙ sym (ap (λ m. m.last) same))
      (subst (λ k. k < 4096) (sym (ap (λ m. m.x) same)) fx) (subst (λ k. k < 4096) (sym (ap (λ m. m.y) same)) fy)
      (ap counters_of same ∙ is)

  quiet_run : (from_x from_y last rate_x rate_y back_x back_y bright n : ℕ) → beside.pace.placing ≡ 0 → beside.pace.ready ≡ 0
      → beside.motion ≡ state from_x from_y last rate_x rate_y back_x back_y bright n → n < last → last ≤ 1024 → back_x < 2 → back_y < 2
      → both_at (led from_x back_x (pulses rate_x last)) (led from_y back_y (pulses rate_y last)) ≡ want → Phase c' next want
  quiet_run fx fy last rx ry bx by z n off ready is less small bx_in by_in leads =
      let quiet : Pulses.IsQuiet (driven c beside bus) = record { tick = both_small bus.tick (none beside.pace.left); places = places_off off; vec = no_move } in
      let went = on_by fx fy last rx ry bx by z true n (driven c beside bus) quiet bx_in by_in small (lt_is n last less) in
      let goes_on = going_on n last less (ap (λ m. m.count) is) (ap (λ m. m.last) is) in
      settle c' next want fx fy last rx ry bx by z (within last (n + (driven c beside bus).tick)) (placing_off off)
      (ready_off ready (ap (λ g. both (none beside.pace.left) (none g)) goes_on ∙ both_none (none beside.pace.left)))
      (ap (λ m. motion.clock m (driven c beside bus)) is ∙ went) (within_le last (n + (driven c beside bus).tick)) small bx_in by_in leads
    where
      lt_is : (n last : ℕ) → n < last → ltb n last ≡ true
      lt_is n last less = lt-ltb n last less

  quiet_wait : beside.pace.placing ≡ 1 → beside.pace.ready ≡ 0 → beside.pace.left ≡ 1 → beside.motion.count ≡ beside.motion.last
      → both_at (part 9 12 c.x) (part 9 12 c.y) ≡ want → c'.x ≡ c.x → c'.y ≡ c.y → bus.pins.valid ≡ 0 → Phase c' next want
  quiet_wait on ready left over is same_x same_y not_valid = by bus.tick refl
    where
      by : (t : ℕ) → bus.tick ≡ t → Phase c' next want
      by zero none_now =
          let off : (driven c beside bus).places ≡ 0 = rw none_now refl in
          let same = stays beside.motion (driven c beside bus) off no_move over in
          let still : next.pace.ready ≡ 0 = rw none_now (rw ready (ap (λ k. mux (both bus.pins.start (none bus.pins.reset)) 0 k) (mux_same (both (both bus.pins.valid (none bus.pins.reset)) (none bus.pins.start)) 0)
          ∙ mux_same (both bus.pins.start (none bus.pins.reset)) 0)) in
          let own : next.pace.left ≡ 1 = rw none_now (rw not_valid (rw left (mux_same (both bus.pins.start (none bus.pins.reset)) 1))) in
          waits (rw no_labs (rw none_now on)) still own (ap (λ m. m.count) same ∙ over ∙ sym (ap (λ m. m.last) same))
          (ap (λ k. both_at (part 9 12 k) (part 9 12 c'.y)) same_x ∙ ap (λ k. both_at (part 9 12 c.x) (part 9 12 k)) same_y ∙ is)
      by (suc zero) now =
          let loads_now : (driven c beside bus).places ≡ 1 = rw now (rw on refl) in
          let set = placed beside.motion (driven c beside bus) loads_now over in
          rests (rw no_labs (rw now refl)) set.1
          (subst (λ k. k < 4096) (sym (ap (λ k. k.x) set.0)) (omega arith)) (subst (λ k. k < 4096) (sym (ap (λ k. k.y) set.0)) (omega arith))
          (set.0 ∙ is)
      by (suc (suc t)) now = absurd (omega arith)

labs_is : (o s x y z : ℕ) → both o (both s x) ≡ 1 → (both o (both (none s) y) ≡ 0) × (both o (none (both (none s) z)) ≡ 1)
labs_is zero s x y z is = absurd (omega arith)
labs_is (suc o) zero x y z is = let never : both (suc o) 0 ≡ 0 = both_none (suc o) in absurd (omega arith)
labs_is (suc o) (suc s) x y z is =
    rw (ne_eqb (suc s) 0 (λ e. absurd (omega arith))) (both_none (suc o), rw (ne_eqb (suc o) 0 (λ e. absurd (omega arith))) refl)

-- a clock that serves: the pace holds from then on
module _ (c c' : Core) (beside : Beside) (bus : Bus) (want : Counters) (valid : bus.pins.valid ≡ 1) (reset : bus.pins.reset ≡ 0) (start : bus.pins.start ≡ 0)
    (off : beside.pace.placing ≡ 0) (over : beside.motion.count ≡ beside.motion.last) where
  abbrev served : Beside
  served = record {
    pace = pace.clock beside.pace (paced c beside bus);
    motion = motion.clock beside.motion (driven c beside bus);
  }

  held_now : served.pace.ready ≡ 0
  held_now = rw valid (rw reset (rw start refl))

  -- a LABS is no JSRL, and ends
  labs_left : labs c bus.pins ≡ 1 → served.pace.left ≡ 1
  labs_left is =
      let obeys = both (both (both (both (both c.is_open bus.pins.valid) (none bus.pins.hole)) c.high) (none bus.pins.reset)) (none bus.pins.start) in
      let op = mux c.second (part 12 4 c.first) (part 4 4 bus.pins.din) in
      let told = labs_is obeys c.second (none (lt op 10)) (eq op 12) (lt op 11) is in
      let jsrl_off : core.jsrl c bus.pins ≡ 0 = told.0 in
      let ends_on : core.ends c bus.pins ≡ 1 = told.1 in
      let own : served.pace.left ≡ mux (core.jsrl c bus.pins) 2 (mux (core.ends c bus.pins) 1 0) = rw valid (rw reset (rw start refl)) in
      own ∙ ap (λ n. mux n 2 (mux (core.ends c bus.pins) 1 0)) jsrl_off ∙ ap (λ n. mux 0 2 (mux n 1 0)) ends_on

  -- it told of a LABS
  told_labs : vec c bus.pins ≡ 0 → labs c bus.pins ≡ 1 → both_at (part 9 12 c'.x) (part 9 12 c'.y) ≡ want → Phase c' served want
  told_labs no_move labs leads =
      let same = stays beside.motion (driven c beside bus) (rw off (both_none bus.tick)) no_move over in
      waits (rw labs refl) held_now (labs_left labs) (ap (λ m. m.count) same ∙ over ∙ sym (ap (λ m. m.last) same)) leads

  -- or of a vector
  told_vector : (old : Counters) → counters_of beside.motion ≡ old → beside.motion.x < 4096 → beside.motion.y < 4096 → (move : Move)
      → TellsMove false c bus.pins move → followed old move ≡ want → Phase c' served want
  told_vector old is fx fy move tells leads =
      let no_labs : labs c bus.pins ≡ 0 = tells.1 in
      let no_place : (driven c beside bus).places ≡ 0 = rw off (both_none bus.tick) in
      let told : Pulses.IsVector (driven c beside bus) = record {
        places = no_place;
        vec = tells.0;
        sum = tells.2;
        dx_sign = tells.3;
        dy_sign = tells.4;
        dx = tells.5;
        dy = tells.6;
      } in
      let d = driven c beside bus in
      let begun = begins beside.motion d (fx, fy) told in
      let placing : served.pace.placing ≡ 0 = rw no_labs (rw off (mux_same bus.tick 0)) in
      let far = stepped_at beside.motion d.dx_sign d.dy_sign d.dx d.dy (unit d.sum) (fx, fy) tells.3 tells.4 in
      let all_x = all_pulses d.dx d.sum tells.5 in
      let all_y = all_pulses d.dy d.sum tells.6 in
      let where_to : both_at (led beside.motion.x d.dx_sign (pulses d.dx (time d.sum))) (led beside.motion.y d.dy_sign (pulses d.dy (time d.sum))) ≡ want =
      ap (λ n. both_at (led beside.motion.x d.dx_sign n) (led beside.motion.y d.dy_sign (pulses d.dy (time d.sum)))) all_x
      ∙ ap (λ n. both_at (led beside.motion.x d.dx_sign (Counting.whole (d.dx * unit d.sum))) (led beside.motion.y d.dy_sign n)) all_y
      ∙ far ∙ sym (tells.8 (counters_of beside.motion)) ∙ ap (λ k. followed k move) is ∙ leads in
      settle c' served want beside.motion.x beside.motion.y (time d.sum) d.dx d.dy d.dx_sign d.dy_sign d.z 0 placing held_now begun (omega arith) (time_small d.sum tells.2)
      tells.3 tells.4 where_to

-- a core that isn't served stands still
same_x : (c : Core) (pins : core.Pins) → pins.valid ≡ 0 → (core.clock c pins).x ≡ c.x
same_x c pins valid = rw valid (rw (both_none c.is_open) (ap (λ k. mux pins.reset c.x k) (mux_same pins.start c.x) ∙ mux_same pins.reset c.x))

same_y : (c : Core) (pins : core.Pins) → pins.valid ≡ 0 → (core.clock c pins).y ≡ c.y
same_y c pins valid = rw valid (rw (both_none c.is_open) (ap (λ k. mux pins.reset c.y k) (mux_same pins.start c.y) ∙ mux_same pins.reset c.y))

-- and tells of nothing; nor does a reset or a start
pub unserved : (c : Core) (pins : core.Pins) → pins.valid ≡ 0 → (vec c pins ≡ 0) × (labs c pins ≡ 0)
unserved c pins valid = rw valid (rw (both_none c.is_open) (refl, refl))

in_reset : (c : Core) (pins : core.Pins) → pins.reset ≡ 1 → (vec c pins ≡ 0) × (labs c pins ≡ 0)
in_reset c pins reset =
    let whole : ℕ = both (both (both c.is_open pins.valid) (none pins.hole)) c.high in
    rw reset (rw (both_none (both (both (both c.is_open pins.valid) (none pins.hole)) c.high)) (refl, refl))

pub in_start : (c : Core) (pins : core.Pins) → pins.start ≡ 1 → (vec c pins ≡ 0) × (labs c pins ≡ 0)
in_start c pins start =
    rw start (rw (both_none (both (both (both (both c.is_open pins.valid) (none pins.hole)) c.high) (none pins.reset))) (refl, refl))

-- the moves of a run after a reset and after a start
reset_moves : {history : List Told} {old new : Newest} → Leaves history old → Leaves (Reset ∷ history) new → moves_of new ≡ moves_of old
reset_moves l (resets m) = ap moves_of (leaves_same m l)

start_moves : {history : List Told} {new : Newest} → Leaves (Start ∷ history) new → moves_of new ≡ []
start_moves (starts m) = refl

-- where no own tick is left, no LABS waits
no_labs_waits : (c : Core) (beside : Beside) (want : Counters) → Phase c beside want → beside.pace.left ≡ 0 → beside.pace.placing ≡ 0
no_labs_waits c beside want (rests off over fx fy is) none_left = off
no_labs_waits c beside want (runs fx fy last rx ry bx by z n off ready is less small bx_in by_in leads) none_left = off
no_labs_waits c beside want (waits on ready left over is) none_left = let never : ◌≡◌ {A = ℕ} 1 0 = sym left ∙ none_left in absurd (omega arith)

-- a machine at rest has the counters that are wanted
record Rested (beside : Beside) (want : Counters) : Type 0 where
  x_in : beside.motion.x < 4096
  y_in : beside.motion.y < 4096
  is : counters_of beside.motion ≡ want

rested : (c : Core) (beside : Beside) (want : Counters) → Phase c beside want → AtRest beside → Rested beside want
rested c beside want (rests off over fx fy is) rest = record { x_in = fx; y_in = fy; is = is }
rested c beside want (runs fx fy last rx ry bx by z n off ready is less small bx_in by_in leads) rest =
    let same : n ≡ last = sym (ap (λ m. m.count) is) ∙ rest.0 ∙ ap (λ m. m.last) is in
    absurd (omega arith)
rested c beside want (waits on ready left over is) rest = let never : ◌≡◌ {A = ℕ} 1 0 = sym on ∙ rest.1 in absurd (omega arith)

-- where `hold` is low, it is at rest
not_held : (c : Core) (beside : Beside) (want : Counters) → Phase c beside want → hold beside.pace ≡ 0 → AtRest beside
not_held c beside want (rests off over fx fy is) low = (over, off)
not_held c beside want (runs fx fy last rx ry bx by z n off ready is less small bx_in by_in leads) low =
    let never : ◌≡◌ {A = ℕ} 1 0 = sym (ap none ready) ∙ low in absurd (omega arith)
not_held c beside want (waits on ready left over is) low = let never : ◌≡◌ {A = ℕ} 1 0 = sym (ap none ready) ∙ low in absurd (omega arith)

-- a clock that tells of no move, in any phase
quiet_any : (c c' : Core) (beside : Beside) (bus : Bus) (want : Counters) → vec c bus.pins ≡ 0 → labs c bus.pins ≡ 0 → bus.tick < 2
    → (beside.pace.ready ≡ 0 → (c'.x ≡ c.x) × (c'.y ≡ c.y) × (bus.pins.valid ≡ 0)) → Phase c beside want
    → Phase c' (record { pace = pace.clock beside.pace (paced c beside bus); motion = motion.clock beside.motion (driven c beside bus) }) want
quiet_any c c' beside bus want no_move no_labs tick still (rests off over fx fy is) =
    quiet_rest c c' beside bus want no_move no_labs tick off over fx fy is
quiet_any c c' beside bus want no_move no_labs tick still (runs fx fy last rx ry bx by z n off ready is less small bx_in by_in leads) =
    quiet_run c c' beside bus want no_move no_labs tick fx fy last rx ry bx by z n off ready is less small bx_in by_in leads
quiet_any c c' beside bus want no_move no_labs tick still (waits on ready left over is) =
    quiet_wait c c' beside bus want no_move no_labs tick on ready left over is (still ready).0 (still ready).1 (still ready).2

-- the counters from which the newest run began, and where the moves since then lead
pub record Led (clocks : List Bus) (run : Newest) : Type 0 where
  pub began : Counters
  pub begins : BeganAt (cores clocks) began
  pub phase : Phase (core_after clocks) (after clocks) (followed_all began (moves_of run))

pub record Runs (clocks : List Bus) : Type 0 where
  pub stands : Stands (cores clocks)
  pub led : Led clocks stands.stands.run

module _ (clocks : List Bus) (bus : Bus) (serves : IsServed clocks bus) (was : Runs clocks) where
  abbrev c : Core
  c = core_after clocks

  abbrev old_moves : List Move
  old_moves = moves_of was.stands.stands.run

  abbrev old_want : Counters
  old_want = followed_all was.led.began old_moves

  abbrev grown_stands : Stands (cores (bus ∷ clocks))
  grown_stands = stand_next bus.pins (cores clocks) serves.pins was.stands

  abbrev Onward : Counters → Type 0
  Onward want = Phase (core_after (bus ∷ clocks)) (after (bus ∷ clocks)) want

  not_valid : (after clocks).pace.ready ≡ 0 → bus.pins.valid ≡ 0
  not_valid ready = by bus.pins.valid refl
    where
      by : (v : ℕ) → bus.pins.valid ≡ v → v ≡ 0
      by zero e = refl
      by (suc zero) e = let never : ◌≡◌ {A = ℕ} 1 0 = sym (ap none ready) ∙ serves.valid e in absurd (omega arith)
      by (suc (suc n)) e = let small = serves.pins.valid in absurd (omega arith)

  still : (after clocks).pace.ready ≡ 0
      → ((core_after (bus ∷ clocks)).x ≡ c.x) × ((core_after (bus ∷ clocks)).y ≡ c.y) × (bus.pins.valid ≡ 0)
  still ready = (same_x c bus.pins (not_valid ready), same_y c bus.pins (not_valid ready), not_valid ready)

  quiet_now : vec c bus.pins ≡ 0 → labs c bus.pins ≡ 0 → Onward old_want
  quiet_now no_move no_labs = quiet_any c (core_after (bus ∷ clocks)) (after clocks) bus old_want no_move no_labs serves.tick still was.led.phase

  -- a reset
  on_reset : bus.pins.reset ≡ 1 → {history' : List Told} {low' : Option ℕ} {found : Option Met}
      → Tells bus.pins was.stands.history was.stands.low history' low' found → (new : Newest) → Leaves history' new
      → Led (bus ∷ clocks) new
  on_reset reset (refines.resets r) new m =
      let quiet = in_reset c bus.pins reset in
      record {
        began = was.led.began;
        begins = machine.stays (inl reset) was.led.begins;
        phase = subst Onward (ap (followed_all was.led.began) (sym (reset_moves was.stands.stands.leaves m))) (quiet_now quiet.0 quiet.1);
      }
  on_reset reset (refines.starts r s) new m = absurd (omega arith)
  on_reset reset (idles r s v) new m = absurd (omega arith)
  on_reset reset (ignores r s v l o) new m = absurd (omega arith)
  on_reset reset (fetches r s v l o) new m = absurd (omega arith)

  -- a start: the new run begins where the moves of the old one lead
  on_start : bus.pins.reset ≡ 0 → bus.pins.start ≡ 1 → {history' : List Told} {low' : Option ℕ} {found : Option Met}
      → Tells bus.pins was.stands.history was.stands.low history' low' found → (new : Newest) → Leaves history' new
      → Led (bus ∷ clocks) new
  on_start reset start (refines.starts r s) new m =
      let quiet = in_start c bus.pins start in
      record {
        began = old_want;
        begins = machine.starts reset start (agrees_of (cores clocks) was.stands) was.led.begins;
        phase = subst Onward (ap (followed_all old_want) (sym (start_moves m))) (quiet_now quiet.0 quiet.1);
      }
  on_start reset start (refines.resets r) new m = absurd (omega arith)
  on_start reset start (idles r s v) new m = absurd (omega arith)
  on_start reset start (ignores r s v l o) new m = absurd (omega arith)
  on_start reset start (fetches r s v l o) new m = absurd (omega arith)

  -- a move that the pins tell of
  on_move : bus.pins.reset ≡ 0 → bus.pins.start ≡ 0 → (move : Move) → TellsMove move.placed c bus.pins move → Onward (followed old_want move)
  on_move reset start move tells = by_valid bus.pins.valid refl
    where
      lit : (b : Bool) → TellsMove b c bus.pins move → bus.pins.valid ≡ 1 → AtRest (after clocks) → Onward (followed old_want move)
      lit true told valid rest =
          told_labs c (core_after (bus ∷ clocks)) (after clocks) bus (followed old_want move) valid reset start rest.1 rest.0 told.0 told.1 (sym (told.2 old_want))
      lit false told valid rest =
          let there = rested c (after clocks) old_want was.led.phase rest in
          told_vector c (core_after (bus ∷ clocks)) (after clocks) bus (followed old_want move) valid reset start rest.1 rest.0 old_want there.is there.x_in there.y_in move told refl

      dark : (b : Bool) → TellsMove b c bus.pins move → bus.pins.valid ≡ 0 → ◌≡◌ {A = ℕ} 0 1
      dark true told valid = sym (unserved c bus.pins valid).1 ∙ told.1
      dark false told valid = sym (unserved c bus.pins valid).0 ∙ told.0

      by_valid : (v : ℕ) → bus.pins.valid ≡ v → Onward (followed old_want move)
      by_valid zero e = let never = dark move.placed tells e in absurd (omega arith)
      by_valid (suc zero) e = lit move.placed tells e (not_held c (after clocks) old_want was.led.phase (serves.valid e))
      by_valid (suc (suc n)) e = let small = serves.pins.valid in absurd (omega arith)

  -- neither
  on_told : bus.pins.reset ≡ 0 → bus.pins.start ≡ 0 → (added : List Move) → TellsMoves c bus.pins added → Onward (followed_all old_want added)
  on_told reset start [] tells = quiet_now tells.0 tells.1
  on_told reset start (move ∷ []) tells = on_move reset start move tells
  on_told reset start (move ∷ (other ∷ more)) tells = absurd tells

  on_other : bus.pins.reset ≡ 0 → bus.pins.start ≡ 0 → {history' : List Told} {low' : Option ℕ} {found : Option Met}
      → Tells bus.pins was.stands.history was.stands.low history' low' found → (new : Newest) → Leaves history' new
      → Led (bus ∷ clocks) new
  on_other reset start tells new m =
      let gain = gains (cores clocks) bus.pins serves.pins was.stands reset start tells new m in
      record {
        began = was.led.began;
        begins = machine.stays (inr start) was.led.begins;
        phase = subst Onward (sym (followed_two was.led.began old_moves gain.0) ∙ ap (followed_all was.led.began) (sym gain.1)) (on_told reset start gain.0 gain.2);
      }

  onward : {history' : List Told} {low' : Option ℕ} {found : Option Met}
      → Tells bus.pins was.stands.history was.stands.low history' low' found → (new : Newest) → Leaves history' new
      → Led (bus ∷ clocks) new
  onward tells new m = by bus.pins.reset bus.pins.start refl refl
    where
      by : (r s : ℕ) → bus.pins.reset ≡ r → bus.pins.start ≡ s → Led (bus ∷ clocks) new
      by zero zero e f = on_other e f tells new m
      by zero (suc zero) e f = on_start e f tells new m
      by (suc zero) s e f = on_reset e tells new m
      by zero (suc (suc n)) e f = let small = serves.pins.start in absurd (omega arith)
      by (suc (suc n)) s e f = let small = serves.pins.reset in absurd (omega arith)

  run_on : Runs (bus ∷ clocks)
  run_on =
      let did = one (core_after clocks) bus.pins (drew (cores clocks)) was.stands.history was.stands.low was.stands.fits serves.pins was.stands.stands in
      record { stands = grown_stands; led = onward did.tells grown_stands.stands.run grown_stands.stands.leaves }

new_moves : {run : Newest} → Leaves [] run → moves_of run ≡ []
new_moves told.new = refl

abbrev power_up : Stands []
power_up = record {
  history = [];
  low = None;
  found = None;
  hears = refines.powers;
  stands = stands_new (machine_of core.zeros []) refl refl refl;
  fits = record { opened = omega arith; high = omega arith; second = omega arith; low = omega arith; first = λ is. absurd (omega arith); depth = omega arith; x = omega arith; y = omega arith; scale = omega arith };
  said = (refl, refl, refl);
}

powered : Runs []
powered = record {
  stands = power_up;
  led = record {
    began = both_at 0 0;
    begins = machine.powers;
    phase = rests refl refl (omega arith) (omega arith) (ap (followed_all (both_at 0 0)) (sym (new_moves power_up.stands.leaves)));
  };
}

pub all_run : (clocks : List Bus) → AreServed clocks → Runs clocks
all_run [] are = powered
all_run (bus ∷ clocks) are = run_on clocks bus are.0 (all_run clocks are.1)

-- where `hold` is low, all is at rest
pub held_rests : (clocks : List Bus) → AreServed clocks → hold (after clocks).pace ≡ 0 → AtRest (after clocks)
held_rests clocks are =
    let is = all_run clocks are in
    not_held (core_after clocks) (after clocks) (followed_all is.led.began (moves_of is.stands.stands.run)) is.led.phase

-- a motion that doesn't go is at its last count
pub over_of : (m : Motion) → going m ≡ 0 → m.count ≡ m.last
over_of m is = by (nat_eq m.count m.last) refl is
  where
    by : (b : Bool) → nat_eq m.count m.last ≡ b → bit (not b) ≡ 0 → m.count ≡ m.last
    by true e f = eqb-true m.count m.last e
    by false e f = absurd (omega arith)

pub going_of : (m : Motion) → m.count ≡ m.last → going m ≡ 0
going_of m over = rw (eq-eqb m.count m.last over) refl

pub none_is : (n : ℕ) → none n ≡ 1 → n ≡ 0
none_is zero is = refl
none_is (suc n) is = let never : none (suc n) ≡ 0 = rw (ne_eqb (suc n) 0 (λ e. absurd (omega arith))) refl in absurd (omega arith)

pub follows_tied : (clocks : List Bus) → AreServed clocks → CountersFollow (cores clocks) (after clocks).pace (after clocks).motion
follows_tied clocks are =
    let is = all_run clocks are in
    let want = followed_all is.led.began (moves_of is.stands.stands.run) in
    record {
      agrees = agrees_of (cores clocks) is.stands;
      began = is.led.began;
      begins = is.led.begins;
      counters = λ rest. (rested (core_after clocks) (after clocks) want is.led.phase (over_of (after clocks).motion rest.0, rest.1)).is;
      held = λ low. let rest = held_rests clocks are low in (going_of (after clocks).motion rest.0, rest.1);
      placed = λ is_over. no_labs_waits (core_after clocks) (after clocks) want is.led.phase (none_is (after clocks).pace.left is_over);
    }
