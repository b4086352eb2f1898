-- The time of a picture, over the whole machine.
use Rattle.std.proofs.Common.{◌≡◌, ℕ, zero, suc, ◌+◌, ◌<◌, ◌++◌, List, [], ◌∷◌, refl, sym, ap, ◌∙◌, subst, arith, inl, inr}
use Rattle.std.specs.Prelude.{All, ◌⊎◌}
use Rattle.std.proofs.lemmas.List.Elements.{All-head, All-tail}
use Rattle.dvg_cells_core.specs.Cells.{both, either, none, mux}
use Rattle.dvg_cells_core.specs.Core as core
use Rattle.dvg_cells_core.specs.Refines.{Agrees}
use Rattle.dvg_cells_core.proofs.CoreSincePowerUp.{agrees_of}
use Rattle.dvg_gen.specs.Run.{Finished, fate}
use Rattle.dvg_cells_board.specs.Board as board
use Rattle.dvg_cells_motion.specs.Motion.{going}
use Rattle.dvg_cells_motion.specs.Pace.{hold}
use Rattle.dvg_cells_motion.specs.Pace as pace
use Rattle.dvg_cells_motion.specs.Vectors.{Vectors, Bus, halted, drives_board}
use Rattle.dvg_cells_motion.specs.Machine.{IsBus, HasBytes, after, cores, ticks}
use Rattle.dvg_cells_motion.specs.Times.{run_ticks, late, GoOn, uses_ram, last_tick, tick_before, AtOnce, TakesPicture}
use Rattle.dvg_cells_motion.proofs.Machine.{both_none, mux_same, over_of}
use Rattle.dvg_cells_motion.proofs.Pictures.{Progress, progress, finishes, stopped, late_of, both_is_zero, none_or, not_ready}
use Rattle.dvg_cells_motion.proofs.Pictures as pictures
use Rattle.dvg_cells_motion.proofs.Tied as tied_clocks
use Rattle.dvg_cells_motion.proofs.Tied.{Beside, core_after, AreServed, ticks_of}
use Rattle.dvg_cells_motion.proofs.Wiring.{tied, tied_bus, tied_later, tied_both, beside_of, core_is, cores_is, beside_is, wired, follows, all_older, ticks_same, starts_in, both_left, both_right, none_zero, one_of, shut_of}

-- where `halted` is high: no run is open, no own tick is left, and no vector goes
record Stopped (v : Vectors) : Type 0 where
  shut : core.halted v.board.core ≡ 1
  left : v.pace.left ≡ 0
  still : going v.motion ≡ 0

all_stopped : (v : Vectors) → halted v ≡ 1 → Stopped v
all_stopped v high =
    let high_is : both (both (core.halted v.board.core) (pace.rests v.pace)) (none (going v.motion)) ≡ 1 = high in
    let most : 0 < both (both (core.halted v.board.core) (pace.rests v.pace)) (none (going v.motion)) = omega arith in
    let first = both_left (both (core.halted v.board.core) (pace.rests v.pace)) (none (going v.motion)) most in
    record {
      shut = one_of v.board.core.is_open (both_left (core.halted v.board.core) (pace.rests v.pace) first);
      left = none_zero v.pace.left (both_right (core.halted v.board.core) (pace.rests v.pace) first);
      still = none_zero (going v.motion) (both_right (both (core.halted v.board.core) (pace.rests v.pace)) (none (going v.motion)) most);
    }

no_start : (starting reset : ℕ) → both starting (none reset) ≡ 0 → reset ≡ 0 → starting ≡ 0
no_start starting reset off none_now = both_is_zero starting (subst (λ r. both starting (none r) ≡ 0) none_now off)

-- a byte is read where the run is open, nobody holds, and nothing else happens
asks_now : (shut hold reset starting pending on_ram : ℕ) → shut ≡ 0 → hold ≡ 0 → reset ≡ 0 → starting ≡ 0 → pending ≡ 0 → on_ram ≡ 0
    → both (both (both (none shut) (none hold)) (none (either (either reset starting) pending))) (none on_ram) ≡ 1
asks_now shut hold reset starting pending on_ram a b c d e f = rw a (rw b (rw c (rw d (rw e (rw f refl)))))

-- and none where it is held
asks_not : (shut hold rest on_ram : ℕ) → hold ≡ 1 → both (both (both (none shut) (none hold)) rest) on_ram ≡ 0
asks_not shut hold rest on_ram held = rw held (rw (both_none (none shut)) refl)

-- after a byte that is taken, the next one is held
held_after : (start takes other : ℕ) → start ≡ 0 → takes ≡ 1 → mux start 0 (mux takes 0 other) ≡ 0
held_after start takes other s t = rw s (rw t refl)

-- and one that is held, without a tick
held_still : (start takes tick other ready : ℕ) → tick ≡ 0 → ready ≡ 0 → mux start 0 (mux takes 0 (mux tick other ready)) ≡ 0
held_still start takes tick other ready none_now off = rw none_now (rw off (ap (mux start 0) (mux_same takes 0) ∙ mux_same start 0))

-- and none where a run begins
held_begun : (start other : ℕ) → start ≡ 1 → none (mux start 0 other) ≡ 1
held_begun start other s = rw s refl

takes_now : (pending reset starting : ℕ) → pending ≡ 1 → reset ≡ 0 → starting ≡ 0 → both (both pending (none reset)) (none starting) ≡ 1
takes_now pending reset starting p r s = rw p (rw r (rw s refl))

sum_none : (m n : ℕ) → m ≡ 0 → n ≡ 0 → m + n ≡ 0
sum_none m n a b = omega arith

-- whether the next byte may be fetched after a clock, but for a start and a byte
abbrev ready_by : Vectors → ℕ → ℕ
ready_by v tick = mux tick (both (none v.pace.left) (none (going v.motion))) v.pace.ready

module _ (held : ℕ → ℕ) (bytes : HasBytes held) (clocks : List Bus) (bus : Bus) (rested : halted (after held clocks) ≡ 1)
    (starts : board.starts (after held clocks).board (drives_board (after held clocks) bus) ≡ 1) where
  abbrev begun : List Bus
  begun = bus ∷ clocks

  abbrev at : List Bus → Vectors
  at later = after held (later ++ begun)

  -- all clocks, as Tied has them
  abbrev whole : List Bus → List tied_clocks.Bus
  whole later = tied_later held bytes begun later ++ tied held bytes begun

  whole_is : (later : List Bus) → tied held bytes (later ++ begun) ≡ whole later
  whole_is later = tied_both held bytes later begun

  core_at : (later : List Bus) → (at later).board.core ≡ core_after (whole later)
  core_at later = core_is held bytes (later ++ begun) ∙ ap core_after (whole_is later)

  beside_at : (later : List Bus) → beside_of (at later) ≡ tied_clocks.after (whole later)
  beside_at later = beside_is held bytes (later ++ begun) ∙ ap tied_clocks.after (whole_is later)

  goes : (later : List Bus) → GoOn held begun later → pictures.GoOn (tied held bytes begun) (tied_later held bytes begun later)
  goes [] on = tt
  goes (b ∷ later) on = (
    sym (ap (λ c. stopped c (beside_of (at later))) (core_at later) ∙ ap (stopped (core_after (whole later))) (beside_at later)) ∙ on.0,
    no_start (at later).board.starting b.reset on.1 on.2,
    on.2,
    goes later on.3,
  )

  late_same : (later : List Bus) → late_of (tied held bytes begun) (tied_later held bytes begun later) ≡ late held begun later
  late_same [] = refl
  late_same (b ∷ later) =
      ap (λ n. n + mux (hold (tied_clocks.after (whole later)).pace) 0 b.tick) (late_same later)
      ∙ ap (λ (k : Beside). late held begun later + mux (hold k.pace) 0 b.tick) (sym (beside_at later))

  served : (later : List Bus) → All IsBus (later ++ begun) → AreServed (whole later)
  served later all = subst AreServed (whole_is later) (wired held bytes (later ++ begun) all).served

  rest : All IsBus begun → tied_clocks.AtRest (tied_clocks.after (tied held bytes clocks))
  rest all =
      let v = after held clocks in
      let is = all_stopped v rested in
      let placed = (follows held bytes clocks (All-tail IsBus bus clocks all)).placed (ap none is.left) in
      subst tied_clocks.AtRest (beside_is held bytes clocks) (over_of v.motion is.still, placed)

  gone : (later : List Bus) → All IsBus (later ++ begun) → GoOn held begun later
      → Progress (whole later) (ticks_of (tied_later held bytes begun later)) (late_of (tied held bytes begun) (tied_later held bytes begun later))
  gone later all on =
      let here = all_older held bytes later begun all in
      let was = wired held bytes clocks (All-tail IsBus bus clocks here) in
      let started = starts_in held bytes (after held clocks).board (drives_board (after held clocks) bus) was.sound.starting starts in
      progress (tied held bytes clocks) (tied_bus (after held clocks) bus) (tied_later held bytes begun later) (served later all) started.0 started.1 (rest here)
      (goes later on)

  opened : (later : List Bus) → All IsBus (later ++ begun) → GoOn held begun later → hold (at later).pace ≡ 0 → core.halted (at later).board.core ≡ 0
  opened later all on low =
      ap core.halted (core_at later) ∙ (gone later all on).opened (sym (ap (λ (k : Beside). hold k.pace) (beside_at later)) ∙ low)

  -- where memory answers at once, a byte that may be fetched is read in the clock after a tick, and taken in the next one
  abbrev Fetching : List Bus → Type 0
  Fetching later = hold (at later).pace ≡ 0
      → (((at later).board.pending ≡ 0) × (last_tick later ≡ 1)) ⊎ (((at later).board.pending ≡ 1) × (tick_before later ≡ 1))

  no_tick : (b : Bus) (later : List Bus) → AtOnce (b ∷ later)
      → (((at later).board.pending ≡ 0) × (last_tick later ≡ 1)) ⊎ (((at later).board.pending ≡ 1) × (tick_before later ≡ 1)) → b.tick ≡ 0
  no_tick b later once (inl read) = (once.0 read.1).0
  no_tick b later once (inr taken) = once.1 taken.1

  fetching : (later : List Bus) → All IsBus (later ++ begun) → GoOn held begun later → AtOnce later → Fetching later
  fetching [] all on once low =
      let v = after held clocks in
      let never : hold (at []).pace ≡ 1 =
      held_begun (board.starts v.board (drives_board v bus)) (mux (board.takes v.board (drives_board v bus)) 0 (ready_by v bus.tick)) starts in absurd (omega arith)
  fetching (b ∷ later) all on once low =
      by_ready (fetching later (All-tail IsBus b (later ++ begun) all) on.3 once.2) (none_or (at later).pace.ready)
    where
      starting : (at later).board.starting ≡ 0
      starting = no_start (at later).board.starting b.reset on.1 on.2

      older : All IsBus (later ++ begun)
      older = All-tail IsBus b (later ++ begun) all

      by_fetch : hold (at later).pace ≡ 0 → (((at later).board.pending ≡ 0) × (last_tick later ≡ 1)) ⊎ (((at later).board.pending ≡ 1) × (tick_before later ≡ 1))
          → (((at (b ∷ later)).board.pending ≡ 0) × (b.tick ≡ 1)) ⊎ (((at (b ∷ later)).board.pending ≡ 1) × (last_tick later ≡ 1))
      by_fetch low_now (inl read) =
          inr (
            asks_now (core.halted (at later).board.core) (hold (at later).pace) b.reset (at later).board.starting (at later).board.pending (uses_ram b)
                (opened later older on.3 low_now) low_now on.2 starting read.0 (once.0 read.1).1,
            read.1,
          )
      by_fetch low_now (inr asked) =
          let taken = takes_now (at later).board.pending b.reset (at later).board.starting asked.0 on.2 starting in
          let off : (at (b ∷ later)).pace.ready ≡ 0 = held_after (board.starts (at later).board (drives_board (at later) b)) (board.takes (at later).board (drives_board (at later) b)) (ready_by (at later) b.tick) on.1 taken in
          absurd (not_ready (at (b ∷ later)).pace.ready low off)

      by_tick : (n : ℕ) → b.tick ≡ n → (at later).pace.ready ≡ 0 → (((at (b ∷ later)).board.pending ≡ 0) × (b.tick ≡ 1)) ⊎ (((at (b ∷ later)).board.pending ≡ 1) × (last_tick later ≡ 1))
      by_tick zero e off = absurd (not_ready (at (b ∷ later)).pace.ready low (held_still (board.starts (at later).board (drives_board (at later) b)) (board.takes (at later).board (drives_board (at later) b)) b.tick (both (none (at later).pace.left) (none (going (at later).motion))) (at later).pace.ready e off))
      by_tick (suc zero) e off = inl (asks_not (core.halted (at later).board.core) (hold (at later).pace) (none (either (either b.reset (at later).board.starting) (at later).board.pending)) (none (uses_ram b)) (ap none off), e)
      by_tick (suc (suc n)) e off = let small = (All-head IsBus b (later ++ begun) all).tick in absurd (omega arith)

      by_ready : Fetching later → (hold (at later).pace ≡ 0) ⊎ ((at later).pace.ready ≡ 0) → (((at (b ∷ later)).board.pending ≡ 0) × (b.tick ≡ 1)) ⊎ (((at (b ∷ later)).board.pending ≡ 1) × (last_tick later ≡ 1))
      by_ready earlier (inl low_now) = by_fetch low_now (earlier low_now)
      by_ready earlier (inr off) = by_tick b.tick refl off

  never_late : (later : List Bus) → All IsBus (later ++ begun) → GoOn held begun later → AtOnce later → late held begun later ≡ 0
  never_late [] all on once = refl
  never_late (b ∷ later) all on once = by (never_late later (All-tail IsBus b (later ++ begun) all) on.3 once.2) (none_or (at later).pace.ready)
    where
      by : late held begun later ≡ 0 → (hold (at later).pace ≡ 0) ⊎ ((at later).pace.ready ≡ 0) → late held begun (b ∷ later) ≡ 0
      by before (inl low) =
          let none_now = no_tick b later once (fetching later (All-tail IsBus b (later ++ begun) all) on.3 once.2 low) in
          sum_none (late held begun later) (mux (hold (at later).pace) 0 b.tick) before (ap (mux (hold (at later).pace) 0) none_now ∙ mux_same (hold (at later).pace) 0)
      by before (inr off) = sum_none (late held begun later) (mux (hold (at later).pace) 0 b.tick) before (ap (λ n. mux (none n) 0 b.tick) off)

  abbrev Takes : List Bus → List core.Pins → Type 0
  Takes later list = (is : Agrees list) × (fate is.run.visits ≡ Finished → ticks later ≡ run_ticks is.run.first is.run.visits + late held begun later)
      × (AtOnce later → late held begun later ≡ 0)

  takes_picture : (later : List Bus) → All IsBus (later ++ begun) → GoOn held begun later → halted (at later) ≡ 1 → Takes later (cores held (later ++ begun))
  takes_picture later all on high =
      let is = gone later all on in
      let ended = all_stopped (at later) high in
      let agrees = agrees_of (tied_clocks.cores (whole later)) is.stands in
      let flag : core.halted (core_after (whole later)) ≡ 1 = sym (ap core.halted (core_at later)) ∙ ended.shut in
      let same = beside_at later in
      let left = sym (ap (λ (k : Beside). k.pace.left) same) ∙ ended.left in
      let over = sym (ap (λ (k : Beside). k.motion.count) same) ∙ over_of (at later).motion ended.still ∙ ap (λ (k : Beside). k.motion.last) same in
      let shut = shut_of agrees.run.is_open (sym agrees.halted ∙ flag) in
      subst (Takes later) (ap tied_clocks.cores (sym (whole_is later)) ∙ cores_is held bytes (later ++ begun)) (
        agrees,
        λ finished. sym (ticks_same held bytes later begun) ∙ finishes (whole later) _ _ is flag left over shut finished
            ∙ ap (λ n. run_ticks agrees.run.first agrees.run.visits + n) (late_same later),
        λ once. never_late later all on once,
      )

pub takes_picture_law : TakesPicture
takes_picture_law held bytes clocks bus later all rested starts on high = takes_picture held bytes clocks bus rested starts later all on high
