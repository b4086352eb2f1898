-- From a start to the next clock in which `halted` is high: each tick is one of the run's, or late.
use Rattle.std.proofs.Common.{◌≡◌, ℕ, zero, suc, ◌+◌, ◌-◌, ◌<◌, ◌≤◌, Bool, true, false, List, [], ◌∷◌, ◌++◌, Option, Some, None, refl, sym, ap, ◌∙◌, subst, arith, inl, inr}
use Rattle.std.specs.Prelude.{◌⊎◌, IsSome}
use Rattle.std.proofs.lemmas.Bool.{cases_lt, le-leb, ne_eqb}
use Rattle.dvg_cells_core.specs.Cells.{both, none, bit, mux, add, sub}
use Rattle.dvg_cells_core.specs.Core.{Core, vec, jsrl, ends}
use Rattle.dvg_cells_core.specs.Core as core
use Rattle.dvg_cells_core.specs.Refines.{Tells, idles, ignores, fetches, drew}
use Rattle.dvg_cells_core.specs.Refines as refines
use Rattle.dvg_cells_core.proofs.CoreSincePowerUp.{Stands, stand, stand_next, one}
use Rattle.dvg_gen.specs.Bytes.{Met}
use Rattle.dvg_gen.specs.Run.{Goes, Finished, fate}
use Rattle.dvg_gen.specs.Told.{Told, Newest, Leaves}
use Rattle.dvg_gen.specs.Told as told
use Rattle.dvg_cells_motion.specs.Machine.{own_ticks, vector_ticks}
use Rattle.dvg_cells_motion.specs.Motion.{going}
use Rattle.dvg_cells_motion.specs.Pace.{hold}
use Rattle.dvg_cells_motion.specs.Pace as pace
use Rattle.dvg_cells_motion.specs.Times.{run_ticks}
use Rattle.dvg_cells_motion.proofs.Machine.{unserved, in_start, both_none, mux_same, stays, held_rests, going_of, none_is}
use Rattle.dvg_cells_motion.proofs.Spends.{given, cost, of_held, of_low, IsBroken, spends, unspent, finished_holds}
use Rattle.dvg_cells_motion.proofs.Tied.{Bus, Beside, driven, cores, core_after, after, AtRest, AreServed, ticks_of}
use Rattle.dvg_cells_motion.proofs.TicksOfByte.{Times, by_goes, gone_le, own_few, counted_on, down, none_more, ne_more, all_pins}
use Rattle.dvg_cells_motion.proofs.TickSums.{few_more, taken_sum, sum_on, owed_sum, still_sum, late_sum}
use Rattle.dvg_cells_motion.proofs.TickSums.{own_sum, go_sum, end_sum, begin_sum, finish_sum, add_one}
use Rattle.dvg_cells_motion.proofs.TickSums.{few_less, none_less, within, is_over, goes_less}
pub use Rattle.dvg_cells_motion.proofs.Machine.{both_one as both_is_zero}
use Rattle.dvg_cells_motion.proofs.Machine.{zero_or}

-- the ticks until the next byte may be fetched
abbrev owed : Beside → ℕ
owed beside = mux beside.pace.ready 0 (1 + beside.pace.left + (beside.motion.last - beside.motion.count))

-- a vector is over, or it goes, and no LABS waits
abbrev Moves : Beside → Type 0
Moves beside = (beside.motion.count ≡ beside.motion.last)
    ⊎ ((beside.motion.count < beside.motion.last) × (beside.motion.last ≤ 1024) × (beside.pace.placing ≡ 0))

-- the pin `halted`
abbrev pub stopped : Core → Beside → ℕ
stopped c beside = both (both (core.halted c) (pace.rests beside.pace)) (none (going beside.motion))

-- where all is after clocks since a start, with so many ticks, so many of them late
pub record Progress (older : List Bus) (count late : ℕ) : Type 0 where
  pub stands : Stands (cores older)
  pub moves : Moves (after older)
  pub few : (after older).pace.left ≤ 2
  pub rests : hold (after older).pace ≡ 0 → (after older).pace.left ≡ 0
  pub opened : hold (after older).pace ≡ 0 → core.halted (core_after older) ≡ 0
  pub sum : (count + owed (after older) ≡ given stands.stands.run stands.low + late) ⊎ IsBroken stands.stands.run

ready_owes : (ready rest : ℕ) → none ready ≡ 0 → mux ready 0 rest ≡ 0
ready_owes zero rest e = absurd (omega arith)
ready_owes (suc r) rest e = rw (ne_eqb (suc r) 0 (λ e. absurd (omega arith))) refl

pub not_ready : (ready : ℕ) → none ready ≡ 0 → ready ≡ 0 → ⊥
not_ready ready low off = let never : ◌≡◌ {A = ℕ} 1 0 = sym (ap none off) ∙ low in absurd (omega arith)

pub none_or : (n : ℕ) → (none n ≡ 0) ⊎ (n ≡ 0)
none_or zero = inr refl
none_or (suc n) = inl (none_more (suc n) (omega arith))

-- one clock more, without a reset and a start
module _ (older : List Bus) (b : Bus) (are : AreServed (b ∷ older)) (reset : b.pins.reset ≡ 0) (start : b.pins.start ≡ 0) (t l : ℕ) (was : Progress older t l)
    (busy : stopped (core_after older) (after older) ≡ 0) where
  abbrev c : Core
  c = core_after older

  abbrev beside : Beside
  beside = after older

  abbrev next : Beside
  next = after (b ∷ older)

  abbrev now : Stands (cores (b ∷ older))
  now = stand_next b.pins (cores older) are.0.pins was.stands

  abbrev now_late : ℕ
  now_late = mux (hold beside.pace) 0 b.tick

  abbrev tells : Tells b.pins was.stands.history was.stands.low now.history now.low now.found
  tells = (one c b.pins (drew (cores older)) was.stands.history was.stands.low was.stands.fits are.0.pins was.stands.stands).tells

  abbrev Onward : Type 0
  Onward = Progress (b ∷ older) (t + b.tick) (l + now_late)

  -- a byte is taken
  abbrev own : ℕ
  own = own_ticks (jsrl c b.pins) (ends c b.pins)

  abbrev vector : ℕ
  vector = vector_ticks (vec c b.pins) (core.sum c b.pins)

  taken : b.pins.valid ≡ 1 → (base : ℕ) → Times next own vector base 0 → Onward
  taken valid base times = record {
    stands = now;
    moves = moves_by times.kind;
    few = subst (λ n. n ≤ 2) (sym times.left) (few_more own few_own);
    rests = λ low. absurd (not_ready next.pace.ready low off);
    opened = λ low. absurd (not_ready next.pace.ready low off);
    sum = sum_by was.sum;
  }
    where
      off : next.pace.ready ≡ 0
      off = none_is next.pace.ready (times.ready ∙ ap bit (le-leb 0 (own + vector) (omega arith)))

      few_own : own ≤ 2
      few_own = own_few (jsrl c b.pins) (ends c b.pins)

      count_is : next.motion.count ≡ base
      count_is = times.count ∙ ap (λ n. base + n) (gone_le vector (0 - own) (omega arith)) ∙ (omega arith)

      moves_by : (vector ≡ 0) ⊎ ((next.pace.placing ≡ 0) × (base + vector ≤ 1024)) → Moves next
      moves_by (inl no_ticks) = inl (is_over next.motion.count next.motion.last base vector no_ticks times.last count_is)
      moves_by (inr some_ticks) = by (zero_or vector)
        where
          by : (vector ≡ 0) ⊎ (0 < vector) → Moves next
          by (inl no_ticks) = inl (is_over next.motion.count next.motion.last base vector no_ticks times.last count_is)
          by (inr more) = inr (
            goes_less next.motion.count next.motion.last base vector more times.last count_is,
            subst (λ n. n ≤ 1024) (sym times.last) some_ticks.1,
            some_ticks.0,
          )

      low : hold beside.pace ≡ 0
      low = are.0.valid valid

      owes_now : owed next ≡ 1 + own + vector
      owes_now =
          ap (λ n. mux n 0 (1 + next.pace.left + (next.motion.last - next.motion.count))) off
          ∙ owed_sum next.pace.left next.motion.last next.motion.count own vector base times.left times.last count_is

      sum_by : (t + owed beside ≡ given was.stands.stands.run was.stands.low + l) ⊎ IsBroken was.stands.stands.run
          → (t + b.tick + owed next ≡ given now.stands.run now.low + (l + now_late)) ⊎ IsBroken now.stands.run
      sum_by (inl before) = by (spends (cores older) b.pins are.0.pins was.stands reset start tells now.stands.run now.stands.leaves valid (was.opened low))
        where
          by : (given now.stands.run now.low ≡ given was.stands.stands.run was.stands.low + (1 + cost c b.pins)) ⊎ IsBroken now.stands.run
              → (t + b.tick + owed next ≡ given now.stands.run now.low + (l + now_late)) ⊎ IsBroken now.stands.run
          by (inl more) =
              let none_owed : owed beside ≡ 0 = ready_owes beside.pace.ready (1 + beside.pace.left + (beside.motion.last - beside.motion.count)) low in
              let is_late : now_late ≡ b.tick = ap (λ n. mux n 0 b.tick) low in
              inl (taken_sum t b.tick (owed beside) (owed next) (given was.stands.stands.run was.stands.low) (given now.stands.run now.low) l now_late own vector none_owed
              is_late owes_now more before)
          by (inr broken) = inr broken
      sum_by (inr broken) =
          let same = unspent (cores older) b.pins are.0.pins was.stands reset start tells now.stands.run now.stands.leaves (inr broken.0) in
          inr (subst IsBroken (sym same.0) broken)

  abbrev owes : ℕ → ℕ
  owes ready = mux ready 0 (1 + next.pace.left + (next.motion.last - next.motion.count))

  -- none is
  module _ (valid : b.pins.valid ≡ 0) where
    left_next : next.pace.left ≡ mux b.tick (mux (none beside.pace.left) beside.pace.left (sub 2 beside.pace.left 1)) beside.pace.left
    left_next = rw valid (rw start refl)

    ready_next : next.pace.ready ≡ mux b.tick (both (none beside.pace.left) (none (going beside.motion))) beside.pace.ready
    ready_next = rw valid (rw start refl)

    placing_next : next.pace.placing ≡ mux b.tick 0 beside.pace.placing
    placing_next = let quiet = (unserved c b.pins valid).1 in rw quiet refl

    free : Moves beside → (beside.motion.count ≡ beside.motion.last) ⊎ ((driven c beside b).places ≡ 0)
    free (inl over) = inl over
    free (inr goes) = let off = goes.2 in inr (rw off (both_none b.tick))

    mover_next : (next.motion.last ≡ beside.motion.last)
        × (next.motion.count ≡ mux (both (going beside.motion) (both b.tick (none beside.pace.left))) (add 11 beside.motion.count 1) beside.motion.count)
    mover_next = counted_on beside.motion (driven c beside b) (unserved c b.pins valid).0 (free was.moves)

    open_next : core.halted (core_after (b ∷ older)) ≡ core.halted c
    open_next = rw reset (rw start (rw valid (rw (both_none c.is_open) refl)))

    same_run : (now.stands.run ≡ was.stands.stands.run) × (now.low ≡ was.stands.low)
    same_run = unspent (cores older) b.pins are.0.pins was.stands reset start tells now.stands.run now.stands.leaves (inl valid)

    same_given : given now.stands.run now.low ≡ given was.stands.stands.run was.stands.low
    same_given = ap (λ r. given r now.low) same_run.0 ∙ ap (given was.stands.stands.run) same_run.1

    -- so much comes of the sum, where the ticks that are owed change so
    summed : b.tick + owed next ≡ owed beside + now_late
        → (t + b.tick + owed next ≡ given now.stands.run now.low + (l + now_late)) ⊎ IsBroken now.stands.run
    summed change = by was.sum
      where
        by : (t + owed beside ≡ given was.stands.stands.run was.stands.low + l) ⊎ IsBroken was.stands.stands.run
            → (t + b.tick + owed next ≡ given now.stands.run now.low + (l + now_late)) ⊎ IsBroken now.stands.run
        by (inl before) =
            inl (sum_on t b.tick (owed beside) (owed next) (given was.stands.stands.run was.stands.low) (given now.stands.run now.low) l now_late change same_given before)
        by (inr broken) = inr (subst IsBroken (sym same_run.0) broken)

    -- without a tick
    still : b.tick ≡ 0 → Onward
    still none_now = record {
      stands = now;
      moves = by was.moves;
      few = subst (λ n. n ≤ 2) (sym left_is) was.few;
      rests = λ low. left_is ∙ was.rests (sym (ap none ready_is) ∙ low);
      opened = λ low. open_next ∙ was.opened (sym (ap none ready_is) ∙ low);
      sum = summed (still_sum b.tick (owed beside) (owed next) now_late none_now owes_same none_late);
    }
      where
        left_is : next.pace.left ≡ beside.pace.left
        left_is = left_next ∙ ap (λ n. mux n (mux (none beside.pace.left) beside.pace.left (sub 2 beside.pace.left 1)) beside.pace.left) none_now

        ready_is : next.pace.ready ≡ beside.pace.ready
        ready_is = ready_next ∙ ap (λ n. mux n (both (none beside.pace.left) (none (going beside.motion))) beside.pace.ready) none_now

        count_is : next.motion.count ≡ beside.motion.count
        count_is = mover_next.1 ∙ ap (λ n. mux (both (going beside.motion) (both n (none beside.pace.left))) (add 11 beside.motion.count 1) beside.motion.count) none_now
            ∙ ap (λ n. mux n (add 11 beside.motion.count 1) beside.motion.count) (both_none (going beside.motion))

        last_is : next.motion.last ≡ beside.motion.last
        last_is = mover_next.0

        owes_same : owed next ≡ owed beside
        owes_same = ap (λ n. mux n 0 (1 + next.pace.left + (next.motion.last - next.motion.count))) ready_is
            ∙ ap (λ n. mux beside.pace.ready 0 (1 + n + (next.motion.last - next.motion.count))) left_is
            ∙ ap (λ n. mux beside.pace.ready 0 (1 + beside.pace.left + (n - next.motion.count))) last_is
            ∙ ap (λ n. mux beside.pace.ready 0 (1 + beside.pace.left + (beside.motion.last - n))) count_is

        none_late : now_late ≡ 0
        none_late = ap (mux (hold beside.pace) 0) none_now ∙ mux_same (hold beside.pace) 0

        by : Moves beside → Moves next
        by (inl over) = inl (count_is ∙ over ∙ sym last_is)
        by (inr goes) = inr (
          subst (λ n. n < next.motion.last) (sym count_is) (subst (λ n. beside.motion.count < n) (sym last_is) goes.0),
          subst (λ n. n ≤ 1024) (sym last_is) goes.1,
          placing_next ∙ ap (mux b.tick 0) goes.2 ∙ mux_same b.tick 0,
        )

    -- with one
    ticked : b.tick ≡ 1 → Onward
    ticked now_one = by_ready (none_or beside.pace.ready)
      where
        left_is : next.pace.left ≡ beside.pace.left - 1
        left_is = left_next ∙ ap (λ n. mux n (mux (none beside.pace.left) beside.pace.left (sub 2 beside.pace.left 1)) beside.pace.left) now_one
            ∙ down beside.pace.left was.few

        ready_is : next.pace.ready ≡ both (none beside.pace.left) (none (going beside.motion))
        ready_is = ready_next ∙ ap (λ n. mux n (both (none beside.pace.left) (none (going beside.motion))) beside.pace.ready) now_one

        count_is : next.motion.count ≡ mux (both (going beside.motion) (both 1 (none beside.pace.left))) (add 11 beside.motion.count 1) beside.motion.count
        count_is = mover_next.1 ∙ ap (λ n. mux (both (going beside.motion) (both n (none beside.pace.left))) (add 11 beside.motion.count 1) beside.motion.count) now_one

        last_is : next.motion.last ≡ beside.motion.last
        last_is = mover_next.0

        placing_off : next.pace.placing ≡ 0
        placing_off = placing_next ∙ ap (λ n. mux n 0 beside.pace.placing) now_one

        few_next : next.pace.left ≤ 2
        few_next = few_less beside.pace.left next.pace.left was.few left_is

        late_none : beside.pace.ready ≡ 0 → now_late ≡ 0
        late_none off = ap (λ n. mux (none n) 0 b.tick) off

        owed_before : beside.pace.ready ≡ 0 → owed beside ≡ 1 + beside.pace.left + (beside.motion.last - beside.motion.count)
        owed_before off = ap (λ n. mux n 0 (1 + beside.pace.left + (beside.motion.last - beside.motion.count))) off

        -- nothing is left, and no vector goes: the next byte may be fetched
        rested : beside.pace.left ≡ 0 → beside.motion.count ≡ beside.motion.last → core.halted c ≡ 0
            → b.tick + 0 ≡ owed beside + now_late → Onward
        rested none_left over opened change =
            let still_off = going_of beside.motion over in
            let on : next.pace.ready ≡ 1 = ready_is ∙ ap (λ n. both (none n) (none (going beside.motion))) none_left ∙ ap (λ n. both 1 (none n)) still_off in
            let same : next.motion.count ≡ beside.motion.count = count_is ∙ ap (λ n. mux (both n (both 1 (none beside.pace.left))) (add 11 beside.motion.count 1) beside.motion.count) still_off in
            let none_owed : owed next ≡ 0 = ap owes on in
            record {
              stands = now;
              moves = inl (same ∙ over ∙ sym last_is);
              few = few_next;
              rests = λ low. none_less beside.pace.left next.pace.left none_left left_is;
              opened = λ low. open_next ∙ opened;
              sum = summed (ap (λ n. b.tick + n) none_owed ∙ change);
            }

        -- it may not
        held_on : next.pace.ready ≡ 0 → Moves next → b.tick + owes 0 ≡ owed beside + now_late → Onward
        held_on off moves change =
            let owes_now : owed next ≡ owes 0 = ap owes off in
            record {
              stands = now;
              moves = moves;
              few = few_next;
              rests = λ low. absurd (not_ready next.pace.ready low off);
              opened = λ low. absurd (not_ready next.pace.ready low off);
              sum = summed (ap (λ n. b.tick + n) owes_now ∙ change);
            }

        -- an own tick
        by_own : beside.pace.ready ≡ 0 → 0 < beside.pace.left → Onward
        by_own off more =
            let some_left = none_more beside.pace.left more in
            let same : next.motion.count ≡ beside.motion.count = count_is ∙ ap (λ n. mux (both (going beside.motion) (both 1 n)) (add 11 beside.motion.count 1) beside.motion.count) some_left
            ∙ ap (λ n. mux n (add 11 beside.motion.count 1) beside.motion.count) (both_none (going beside.motion)) in
            let off_next : next.pace.ready ≡ 0 = ready_is ∙ ap (λ n. both n (none (going beside.motion))) some_left in
            held_on off_next (moves_by same was.moves)
            (own_sum b.tick (owed beside) beside.pace.left next.pace.left beside.motion.last next.motion.last beside.motion.count next.motion.count now_late now_one more left_is
            last_is same (late_none off) (owed_before off))
          where
            moves_by : next.motion.count ≡ beside.motion.count → Moves beside → Moves next
            moves_by same (inl over) = inl (same ∙ over ∙ sym last_is)
            moves_by same (inr goes) = inr (
              subst (λ n. n < next.motion.last) (sym same) (subst (λ n. beside.motion.count < n) (sym last_is) goes.0),
              subst (λ n. n ≤ 1024) (sym last_is) goes.1,
              placing_off,
            )

        -- one of a vector, or that in which the next byte may be fetched
        by_moves : beside.pace.ready ≡ 0 → beside.pace.left ≡ 0 → Moves beside → Onward
        by_moves off none_left (inl over) =
            let opened : core.halted c ≡ 0 = both_is_zero (core.halted c) (both_is_zero (both (core.halted c) 1)
            (sym (ap (λ n. both (both (core.halted c) (none n)) (none (going beside.motion))) none_left ∙ ap (λ n. both (both (core.halted c) 1) (none n)) (going_of beside.motion over)) ∙ busy)) in
            rested none_left over opened
            (end_sum b.tick (owed beside) beside.pace.left beside.motion.last beside.motion.count now_late now_one none_left over (late_none off) (owed_before off))
        by_moves off none_left (inr goes) =
            let less = goes.0 in
            let small = goes.1 in
            let on : going beside.motion ≡ 1 = ne_more beside.motion.count beside.motion.last less in
            let steps : next.motion.count ≡ beside.motion.count + 1 = count_is
            ∙ ap (λ n. mux (both n (both 1 (none beside.pace.left))) (add 11 beside.motion.count 1) beside.motion.count) on
            ∙ ap (λ n. mux (both 1 (both 1 (none n))) (add 11 beside.motion.count 1) beside.motion.count) none_left
            ∙ add_one beside.motion.count beside.motion.last less small in
            let off_next : next.pace.ready ≡ 0 = ready_is ∙ ap (λ n. both (none beside.pace.left) (none n)) on ∙ both_none (none beside.pace.left) in
            held_on off_next
            (ended (cases_lt next.motion.count next.motion.last) (within beside.motion.count next.motion.count beside.motion.last next.motion.last steps last_is less)
            (subst (λ n. n ≤ 1024) (sym last_is) small))
            (go_sum b.tick (owed beside) beside.pace.left next.pace.left beside.motion.last next.motion.last beside.motion.count next.motion.count now_late now_one none_left left_is
            last_is steps less (late_none off) (owed_before off))
          where
            ended : (next.motion.count < next.motion.last) ⊎ (next.motion.last ≤ next.motion.count) → next.motion.count ≤ next.motion.last → next.motion.last ≤ 1024 → Moves next
            ended (inl more) within fits = inr (more, fits, placing_off)
            ended (inr over) within fits = inl (omega arith)

        by_left : beside.pace.ready ≡ 0 → (beside.pace.left ≡ 0) ⊎ (0 < beside.pace.left) → Onward
        by_left off (inl none_left) = by_moves off none_left was.moves
        by_left off (inr more) = by_own off more

        by_ready : (hold beside.pace ≡ 0) ⊎ (beside.pace.ready ≡ 0) → Onward
        by_ready (inl low) =
            let none_owed : owed beside ≡ 0 = ready_owes beside.pace.ready (1 + beside.pace.left + (beside.motion.last - beside.motion.count)) low in
            let is_late : now_late ≡ b.tick = ap (λ n. mux n 0 b.tick) low in
            rested (was.rests low) (held_rests older are.1 low).0 (was.opened low) (late_sum b.tick (owed beside) now_late none_owed is_late)
        by_ready (inr off) = by_left off (zero_or beside.pace.left)

    untaken : Onward
    untaken = by b.tick refl
      where
        by : (n : ℕ) → b.tick ≡ n → Onward
        by zero e = still e
        by (suc zero) e = ticked e
        by (suc (suc n)) e = let small = are.0.tick in absurd (omega arith)

  pub onward : Onward
  onward = by b.pins.valid refl
    where
      by : (v : ℕ) → b.pins.valid ≡ v → Onward
      by zero e = untaken e
      by (suc zero) e = let begun = by_goes older b are e reset start (vec c b.pins) refl in taken e begun.0 begun.1
      by (suc (suc n)) e = let small = are.0.pins.valid in absurd (omega arith)

start_gives : (pins : core.Pins) (history : List Told) (low : Option ℕ) (history' : List Told) (low' : Option ℕ) (found : Option Met) → pins.reset ≡ 0 → pins.start ≡ 1
    → Tells pins history low history' low' found → (run : Newest) → Leaves history' run → given run low' ≡ 2
start_gives pins history low history' low' found reset start (refines.resets r) run m = absurd (omega arith)
start_gives pins history low history' low' found reset start (refines.starts r s) run (told.starts m) = refl
start_gives pins history low history' low' found reset start (idles r s v) run m = absurd (omega arith)
start_gives pins history low history' low' found reset start (ignores r s v l o) run m = absurd (omega arith)
start_gives pins history low history' low' found reset start (fetches r s v l o) run m = absurd (omega arith)

-- the clock of a start at rest
module _ (older : List Bus) (b : Bus) (are : AreServed (b ∷ older)) (reset : b.pins.reset ≡ 0) (start : b.pins.start ≡ 1) (rest : AtRest (after older)) where
  abbrev core_before : Core
  core_before = core_after older

  abbrev next_begun : Beside
  next_begun = after (b ∷ older)

  abbrev stands_before : Stands (cores older)
  stands_before = stand (cores older) (all_pins older are.1)

  abbrev stands_begun : Stands (cores (b ∷ older))
  stands_begun = stand_next b.pins (cores older) are.0.pins stands_before

  left_begun : next_begun.pace.left ≡ 1
  left_begun = rw reset (rw start refl)

  off_begun : next_begun.pace.ready ≡ 0
  off_begun = rw reset (rw start refl)

  no_place : (driven core_before (after older) b).places ≡ 0
  no_place = let none_waits = rest.1 in rw none_waits (both_none b.tick)

  motion_same : next_begun.motion ≡ (after older).motion
  motion_same = stays (after older).motion (driven core_before (after older) b) no_place (in_start core_before b.pins start).0 rest.0

  gives : given stands_begun.stands.run stands_begun.low ≡ 2
  gives = start_gives b.pins stands_before.history stands_before.low stands_begun.history stands_begun.low stands_begun.found reset start
      (one core_before b.pins (drew (cores older)) stands_before.history stands_before.low stands_before.fits are.0.pins stands_before.stands).tells stands_begun.stands.run stands_begun.stands.leaves

  owes_begun : 0 + owed next_begun ≡ given stands_begun.stands.run stands_begun.low + 0
  owes_begun =
      begin_sum (owed next_begun) next_begun.pace.left next_begun.motion.last next_begun.motion.count (given stands_begun.stands.run stands_begun.low)
      (ap (λ n. mux n 0 (1 + next_begun.pace.left + (next_begun.motion.last - next_begun.motion.count))) off_begun) left_begun
      (ap (λ m. m.count) motion_same ∙ rest.0 ∙ sym (ap (λ m. m.last) motion_same)) gives

  begun : Progress (b ∷ older) 0 0
  begun = record {
    stands = stands_begun;
    moves = inl (ap (λ m. m.count) motion_same ∙ rest.0 ∙ sym (ap (λ m. m.last) motion_same));
    few = subst (λ n. n ≤ 2) (sym left_begun) (omega arith);
    rests = λ low. absurd (not_ready next_begun.pace.ready low off_begun);
    opened = λ low. absurd (not_ready next_begun.pace.ready low off_begun);
    sum = inl owes_begun;
  }

-- in each of these later clocks `halted` is low, and there is no start and no reset
abbrev pub GoOn : List Bus → List Bus → Type 0
GoOn older [] = Unit {0}
GoOn older (b ∷ later) = (stopped (core_after (later ++ older)) (after (later ++ older)) ≡ 0) × (b.pins.start ≡ 0) × (b.pins.reset ≡ 0) × GoOn older later

abbrev pub late_of : List Bus → List Bus → ℕ
late_of older [] = 0
late_of older (b ∷ later) = late_of older later + mux (hold (after (later ++ older)).pace) 0 b.tick

pub progress : (older : List Bus) (b : Bus) (later : List Bus) → AreServed (later ++ b ∷ older) → b.pins.reset ≡ 0 → b.pins.start ≡ 1 → AtRest (after older)
    → GoOn (b ∷ older) later → Progress (later ++ b ∷ older) (ticks_of later) (late_of (b ∷ older) later)
progress older b [] are reset start rest goes = begun older b are reset start rest
progress older b (newest ∷ later) are reset start rest goes =
    onward (later ++ b ∷ older) newest are goes.2 goes.1 (ticks_of later) (late_of (b ∷ older) later)
    (progress older b later are.1 reset start rest goes.3) goes.0

no_low : (low : Option ℕ) (is_open : Bool) → (IsSome low → is_open ≡ true) → is_open ≡ false → of_low low ≡ 0
no_low None is_open waits shut = refl
no_low (Some byte) is_open waits shut = let flag : ◌≡◌ {A = Bool} true false = sym (waits refl) ∙ shut in absurd (cc)

-- where `halted` is high and the run came to a HALT
pub finishes : (older : List Bus) (count late : ℕ) (is : Progress older count late) → core.halted (core_after older) ≡ 1 → (after older).pace.left ≡ 0
    → (after older).motion.count ≡ (after older).motion.last → is.stands.stands.run.is_open ≡ false → fate is.stands.stands.run.visits ≡ Finished
    → count ≡ run_ticks is.stands.stands.run.first is.stands.stands.run.visits + late
finishes older count late is halted left over shut finished = by is.sum (none_or (after older).pace.ready)
  where
    by : (count + owed (after older) ≡ given is.stands.stands.run is.stands.low + late) ⊎ IsBroken is.stands.stands.run → (hold (after older).pace ≡ 0) ⊎ ((after older).pace.ready ≡ 0)
        → count ≡ run_ticks is.stands.stands.run.first is.stands.stands.run.visits + late
    by sum (inl low) = let never : ◌≡◌ {A = ℕ} 0 1 = sym (is.opened low) ∙ halted in absurd (omega arith)
    by (inr broken) (inr off) = let never : Goes ≡ Finished = sym broken.1 ∙ finished in absurd (cc)
    by (inl sum) (inr off) =
        let owes : owed (after older) ≡ 1 + (after older).pace.left + ((after older).motion.last - (after older).motion.count) =
        ap (λ n. mux n 0 (1 + (after older).pace.left + ((after older).motion.last - (after older).motion.count))) off in
        let no_word : of_held is.stands.stands.run.held ≡ 0 = ap of_held (finished_holds is.stands.stands.leaves finished) in
        let no_byte : of_low is.stands.low ≡ 0 = no_low is.stands.low is.stands.stands.run.is_open is.stands.stands.waits shut in
        finish_sum count (owed (after older)) (after older).pace.left (after older).motion.last (after older).motion.count late
        (run_ticks is.stands.stands.run.first is.stands.stands.run.visits) (of_held is.stands.stands.run.held) (of_low is.stands.low) owes left over no_word no_byte sum
