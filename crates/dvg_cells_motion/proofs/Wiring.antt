-- The cells of dvg_vectors tie the core, the pace and the motion as Tied has it, and serve the core where `hold` is low.
use Rattle.std.proofs.Common.{◌≡◌, ℕ, zero, suc, ◌+◌, ◌<◌, ◌++◌, List, [], ◌∷◌, refl, sym, ap, ◌∙◌, subst, arith, inl, inr}
use Rattle.std.specs.Prelude.{nat_eq, nat_le, if◌then◌else◌, All, not, ◌⊎◌, Bool, true, false}
use Rattle.std.proofs.lemmas.Bool.{ne_eqb}
use Rattle.std.proofs.lemmas.List.Elements.{All-head, All-tail, All-cons, All-nil}
use Rattle.dvg_cells_core.specs.Cells.{part, joined, both, either, none, some, bit, mux, sub, lt, eq}
use Rattle.dvg_cells_core.specs.Core.{Core}
use Rattle.dvg_cells_core.specs.Core as core
use Rattle.dvg_cells_core.specs.Refines.{ArePins}
use Rattle.dvg_cells_core.specs.Refines as refines
use Rattle.dvg_cells_core.specs.Tells.{moves_of}
use Rattle.dvg_gen.specs.Counting.{followed_all}
use Rattle.dvg_cells_board.specs.Board.{Board}
use Rattle.dvg_cells_board.specs.Board as board
use Rattle.dvg_cells_board.specs.Memory.{memwr}
use Rattle.dvg_cells_motion.specs.Motion.{going}
use Rattle.dvg_cells_motion.specs.Motion as motion
use Rattle.dvg_cells_motion.specs.Pace.{hold}
use Rattle.dvg_cells_motion.specs.Pace as pace
use Rattle.dvg_cells_motion.specs.Vectors.{Vectors, Bus, halted, drives_board}
use Rattle.dvg_cells_motion.specs.Pulses.{counters_of}
use Rattle.dvg_cells_motion.specs.Machine.{IsBus, HasBytes, after, core_pins, cores, CountersFollow, MachineFollows, HaltedTells, AreIdle, ticks, own_ticks_of_byte, ticks_of_byte}
use Rattle.dvg_cells_motion.specs.Machine.{own_ticks, vector_ticks, TakesTime}
use Rattle.dvg_cells_motion.proofs.Tied.{Beside, paced, driven, core_after, AreServed, IsServed, IsIdle, ticks_of}
use Rattle.dvg_cells_motion.proofs.Tied as tied_clocks
use Rattle.dvg_cells_motion.proofs.Machine.{both_none, both_small, going_of, held_rests, follows_tied, both_one}
use Rattle.dvg_cells_motion.proofs.TicksOfByte.{mux_more, takes_time_tied, none_more as more_none}
use Rattle.dvg_cells_motion.proofs.Machine.{zero_or}

-- numbers of one bit
pub none_zero : (a : ℕ) → 0 < none a → a ≡ 0
none_zero zero h = refl
none_zero (suc a) h = let never : none (suc a) ≡ 0 = rw (ne_eqb (suc a) 0 (λ e. absurd (omega arith))) refl in absurd (omega arith)

pub both_left : (a b : ℕ) → 0 < both a b → 0 < a
both_left zero b h = h
both_left (suc a) b h = omega arith

pub both_right : (a b : ℕ) → 0 < both a b → 0 < b
both_right a zero h = let never = both_none a in absurd (omega arith)
both_right a (suc b) h = omega arith

either_one : (a b : ℕ) → 0 < a → either a b ≡ 1
either_one zero b h = absurd (omega arith)
either_one (suc a) b h = rw (ne_eqb (suc a) 0 (λ e. absurd (omega arith))) refl

either_left : (a b : ℕ) → either a b ≡ 0 → a ≡ 0
either_left a b is = by (zero_or a)
  where
    by : (a ≡ 0) ⊎ (0 < a) → a ≡ 0
    by (inl e) = e
    by (inr more) = let one = either_one a b more in absurd (omega arith)

either_right : (a b : ℕ) → either a b ≡ 0 → b ≡ 0
either_right a zero is = refl
either_right zero (suc b) is = let one : some (suc b) ≡ 1 = rw (ne_eqb (suc b) 0 (λ e. absurd (omega arith))) refl in absurd (omega arith)
either_right (suc a) (suc b) is = let one = either_one (suc a) (suc b) (omega arith) in absurd (omega arith)

pub one_of : (a : ℕ) → 0 < none a → none a ≡ 1
one_of a h = ap none (none_zero a h)

pub shut_of : (b : Bool) → bit (not b) ≡ 1 → b ≡ false
shut_of true is = absurd (omega arith)
shut_of false is = refl

-- where a byte is read, `hold` is low, and nothing else is on
asks_at : (halted hold reset starting pending on_ram : ℕ)
    → both (both (both (none halted) (none hold)) (none (either (either reset starting) pending))) (none on_ram) ≡ 1
    → (hold ≡ 0) × (reset ≡ 0) × (starting ≡ 0) × (pending ≡ 0)
asks_at halted hold reset starting pending on_ram is =
    let most = both_left (both (both (none halted) (none hold)) (none (either (either reset starting) pending))) (none on_ram) (omega arith) in
    let still = none_zero (either (either reset starting) pending) (both_right (both (none halted) (none hold)) (none (either (either reset starting) pending)) most) in
    let first = both_left (both (none halted) (none hold)) (none (either (either reset starting) pending)) most in
    let events = either_left (either reset starting) pending still in (
      none_zero hold (both_right (none halted) (none hold) first),
      either_left reset starting events,
      either_right reset starting events,
      either_right (either reset starting) pending still,
    )

-- where the pace is ready, no own tick is left
left_after : (start takes tick ready left going own : ℕ) → (none ready ≡ 0 → left ≡ 0)
    → none (mux start 0 (mux takes 0 (mux tick (both (none left) (none going)) ready))) ≡ 0
    → mux start 1 (mux takes own (mux tick (mux (none left) left (sub 2 left 1)) left)) ≡ 0
left_after zero zero zero ready left going own was is = was is
left_after zero zero (suc tick) ready zero going own was is = rw (ne_eqb (suc tick) 0 (λ e. absurd (omega arith))) refl
left_after zero zero (suc tick) ready (suc left) going own was is =
    let shut : none (suc left) ≡ 0 = more_none (suc left) (omega arith) in
    let same : mux (suc tick) (both (none (suc left)) (none going)) ready ≡ both (none (suc left)) (none going) = mux_more tick (both (none (suc left)) (none going)) ready in
    let never : ◌≡◌ {A = ℕ} 1 0 = sym (ap none (same ∙ ap (λ n. both n (none going)) shut)) ∙ is in
    absurd (omega arith)
left_after zero (suc takes) tick ready left going own was is =
    let same = mux_more takes 0 (mux tick (both (none left) (none going)) ready) in
    let never : ◌≡◌ {A = ℕ} 1 0 = sym (ap none same) ∙ is in
    absurd (omega arith)
left_after (suc start) takes tick ready left going own was is =
    let same = mux_more start 0 (mux takes 0 (mux tick (both (none left) (none going)) ready)) in
    let never : ◌≡◌ {A = ℕ} 1 0 = sym (ap none same) ∙ is in
    absurd (omega arith)

-- a pace that is ready stays so where nothing is taken or started, at rest
ready_after : (start takes tick ready left going : ℕ) → start ≡ 0 → takes ≡ 0 → none ready ≡ 0 → left ≡ 0 → going ≡ 0
    → none (mux start 0 (mux takes 0 (mux tick (both (none left) (none going)) ready))) ≡ 0
ready_after start takes tick ready left going s t is l g = rw s (rw t (rw l (rw g (by tick))))
  where
    by : (tick : ℕ) → none (mux tick (both 1 1) ready) ≡ 0
    by zero = is
    by (suc tick) = ap none (mux_more tick 1 ready)

byte_of : (b : Bool) (one other : ℕ) → one < 256 → other < 256 → (if b then other else one) < 256
byte_of true one other f g = g
byte_of false one other f g = f

ram_small : (writes place byte undefined : ℕ) (ram : ℕ → ℕ) → ((a : ℕ) → ram a < 256) → byte < 256 → (a : ℕ)
    → memwr (mux writes 255 0) (mux writes place (part 0 11 undefined)) (mux writes byte (part 0 8 undefined)) ram a < 256
ram_small zero place byte undefined ram all small a = all a
ram_small (suc w) place byte undefined ram all small a = rw (ne_eqb (suc w) 0 (λ e. absurd (omega arith))) (by (nat_eq a place))
  where
    by : (b : Bool) → (if b then byte else ram a) < 256
    by true = small
    by false = all a

pub record Sound (v : Vectors) : Type 0 where
  pub read : v.board.read < 256
  pub starting : v.board.starting < 2
  pub pending : v.board.pending < 2
  pub ram : (a : ℕ) → v.board.ram a < 256
  pub asked : v.board.pending ≡ 1 → hold v.pace ≡ 0
  pub left : hold v.pace ≡ 0 → v.pace.left ≡ 0

-- one clock, with its state as Tied has it
abbrev pub beside_of : Vectors → Beside
beside_of v = record { pace = v.pace; motion = v.motion }

abbrev pub tied_bus : Vectors → Bus → tied_clocks.Bus
tied_bus v bus = record { pins = core_pins v bus; tick = bus.tick }

abbrev step : Core → Beside → tied_clocks.Bus → Beside
step c beside bus = record {
  pace = pace.clock beside.pace (paced c beside bus);
  motion = motion.clock beside.motion (driven c beside bus);
}

module _ (held : ℕ → ℕ) (bytes : HasBytes held) where
  abbrev pub tied : List Bus → List tied_clocks.Bus
  tied [] = []
  tied (bus ∷ clocks) = tied_bus (after held clocks) bus ∷ tied clocks

  pub cores_is : (clocks : List Bus) → tied_clocks.cores (tied clocks) ≡ cores held clocks
  cores_is [] = refl
  cores_is (bus ∷ clocks) = ap (λ k. core_pins (after held clocks) bus ∷ k) (cores_is clocks)

  pub core_is : (clocks : List Bus) → (after held clocks).board.core ≡ core_after (tied clocks)
  core_is [] = refl
  core_is (bus ∷ clocks) = ap (λ c. core.clock c (core_pins (after held clocks) bus)) (core_is clocks)

  pub beside_is : (clocks : List Bus) → beside_of (after held clocks) ≡ tied_clocks.after (tied clocks)
  beside_is [] = refl
  beside_is (bus ∷ clocks) =
      ap (λ c. step c (beside_of (after held clocks)) (tied_bus (after held clocks) bus)) (core_is clocks)
      ∙ ap (λ b. step (core_after (tied clocks)) b (tied_bus (after held clocks) bus)) (beside_is clocks)

  pub record Wired (clocks : List Bus) : Type 0 where
    pub sound : Sound (after held clocks)
    pub served : AreServed (tied clocks)

  module _ (clocks : List Bus) (bus : Bus) (is : IsBus bus) (was : Wired clocks) where
    abbrev v : Vectors
    v = after held clocks

    abbrev b : board.Bus
    b = drives_board v bus

    abbrev now : Vectors
    now = after held (bus ∷ clocks)

    rests_now : hold v.pace ≡ 0 → going v.motion ≡ 0
    rests_now low =
        let same = beside_is clocks in
        let rest = held_rests (tied clocks) was.served (sym (ap (λ k. hold k.pace) same) ∙ low) in
        ap (λ k. going k.motion) same ∙ going_of (tied_clocks.after (tied clocks)).motion rest.0

    pins_are : ArePins (core_pins v bus)
    pins_are = record {
      reset = is.reset;
      start = was.sound.starting;
      valid = was.sound.pending;
      hole = both_small (none (lt v.board.core.at 1024)) (none (both (none (lt v.board.core.at (mux bus.big 1024 2048))) (lt v.board.core.at 3072)));
      din = byte_of (nat_eq (lt v.board.core.at 1024) 0) v.board.read bus.rom was.sound.read is.rom;
    }

    abbrev on_ram : ℕ
    on_ram = both bus.access (eq (part 11 5 bus.a) 8)

    abbrev writes : ℕ
    writes = both on_ram bus.write

    abbrev place : ℕ
    place = mux on_ram (part 0 11 bus.a) (joined 1 v.board.core.high (part 0 10 v.board.core.at))

    asks : now.board.pending ≡ 1 → (hold v.pace ≡ 0) × (bus.reset ≡ 0) × (v.board.starting ≡ 0) × (v.board.pending ≡ 0)
    asks e = asks_at (core.halted v.board.core) (hold v.pace) bus.reset v.board.starting v.board.pending on_ram e

    ram_now : (a : ℕ) → now.board.ram a < 256
    ram_now a = ram_small writes place bus.d bus.undefined v.board.ram was.sound.ram is.d a

    sound_now : Sound now
    sound_now = record {
      read = byte_of (nat_eq writes 0) v.board.read (v.board.ram place) was.sound.read (was.sound.ram place);
      starting = both_small (both (both bus.access bus.write) (eq bus.a 12288)) (none bus.reset);
      pending = both_small (both (both (none (core.halted v.board.core)) (none (hold v.pace))) (none (either (either bus.reset v.board.starting) v.board.pending))) (none on_ram);
      ram = ram_now;
      asked = λ e.
          let at = asks e in
          let no_start : board.starts v.board b ≡ 0 = ap (λ n. both n (none bus.reset)) at.2 in
          let no_take : board.takes v.board b ≡ 0 = ap (λ n. both (both n (none bus.reset)) (none v.board.starting)) at.3 in
          ready_after (board.starts v.board b) (board.takes v.board b) bus.tick v.pace.ready v.pace.left (going v.motion) no_start no_take at.0
          (was.sound.left at.0) (rests_now at.0);
      left = left_after (board.starts v.board b) (board.takes v.board b) bus.tick v.pace.ready v.pace.left (going v.motion)
          (own_ticks (board.jsrl v.board b) (board.ends v.board b)) was.sound.left;
    }

    served_now : IsServed (tied clocks) (tied_bus v bus)
    served_now = record {
      pins = pins_are;
      tick = is.tick;
      valid = λ e. sym (ap (λ k. hold k.pace) (beside_is clocks)) ∙ was.sound.asked e;
    }

  pub wired : (clocks : List Bus) → All IsBus clocks → Wired clocks
  wired [] all = record {
    sound = record { read = omega arith; starting = omega arith; pending = omega arith; ram = bytes; asked = λ e. absurd (omega arith); left = λ e. refl };
    served = tt;
  }
  wired (bus ∷ clocks) all =
      let was = wired clocks (All-tail IsBus bus clocks all) in
      let is = All-head IsBus bus clocks all in
      record { sound = sound_now clocks bus is was; served = (served_now clocks bus is was, was.served) }

  pub follows : (clocks : List Bus) → All IsBus clocks → CountersFollow (cores held clocks) (after held clocks).pace (after held clocks).motion
  follows clocks all =
      let is = follows_tied (tied clocks) (wired clocks all).served in
      subst (λ b. CountersFollow (cores held clocks) b.pace b.motion) (sym (beside_is clocks))
      (subst (λ l. CountersFollow l (tied_clocks.after (tied clocks)).pace (tied_clocks.after (tied clocks)).motion) (cores_is clocks) is)

  -- the later clocks
  abbrev pub tied_later : List Bus → List Bus → List tied_clocks.Bus
  tied_later older [] = []
  tied_later older (bus ∷ later) = tied_bus (after held (later ++ older)) bus ∷ tied_later older later

  pub tied_both : (later older : List Bus) → tied (later ++ older) ≡ tied_later older later ++ tied older
  tied_both [] older = refl
  tied_both (bus ∷ later) older = ap (λ k. tied_bus (after held (later ++ older)) bus ∷ k) (tied_both later older)

  pub ticks_same : (later older : List Bus) → ticks_of (tied_later older later) ≡ ticks later
  ticks_same [] older = refl
  ticks_same (bus ∷ later) older = ap (λ n. n + bus.tick) (ticks_same later older)

  pub all_older : (later older : List Bus) → All IsBus (later ++ older) → All IsBus older
  all_older [] older all = all
  all_older (bus ∷ later) older all = all_older later older (All-tail IsBus bus (later ++ older) all)

  pub idle_all : (older later : List Bus) → All IsBus (later ++ older) → AreIdle held older later → All IsIdle (tied_later older later)
  idle_all older [] all idle = All-nil IsIdle
  idle_all older (bus ∷ later) all idle =
      let v = after held (later ++ older) in
      let is = All-head IsBus bus (later ++ older) all in
      let start : v.board.starting ≡ 0 = both_one v.board.starting (subst (λ r. both v.board.starting (none r) ≡ 0) idle.2 idle.1) in
      let taken : both (both v.board.pending (none bus.reset)) (none v.board.starting) ≡ 0 = idle.0 in
      let asked : both (both v.board.pending 1) 1 ≡ 0 =
      subst (λ s. both (both v.board.pending 1) (none s) ≡ 0) start (subst (λ r. both (both v.board.pending (none r)) (none v.board.starting) ≡ 0) idle.2 taken) in
      All-cons IsIdle (tied_bus v bus) (tied_later older later)
      (record { tick = is.tick; valid = both_one v.board.pending (both_one (both v.board.pending 1) asked); reset = idle.2; start = start })
      (idle_all older later (All-tail IsBus bus (later ++ older) all) idle.3)

  -- what the tied clocks hold, the whole machine holds
  pub held_same : (later : List Bus) (bus : Bus) (clocks : List Bus)
      → hold (after held (later ++ bus ∷ clocks)).pace
      ≡ hold (tied_clocks.after (tied_later (bus ∷ clocks) later ++ tied_bus (after held clocks) bus ∷ tied clocks)).pace
  held_same later bus clocks =
      ap (λ k. hold k.pace) (beside_is (later ++ bus ∷ clocks)) ∙ ap (λ l. hold (tied_clocks.after l).pace) (tied_both later (bus ∷ clocks))

  serves_in : (b : Board) (bus : board.Bus) → b.pending < 2 → board.takes b bus ≡ 1 → (b.pending ≡ 1) × (bus.reset ≡ 0) × (b.starting ≡ 0)
  serves_in b bus small takes =
      let high : both (both b.pending (none bus.reset)) (none b.starting) ≡ 1 = takes in
      let most : 0 < both (both b.pending (none bus.reset)) (none b.starting) = omega arith in
      let first = both_left (both b.pending (none bus.reset)) (none b.starting) most in
      let asked = both_left b.pending (none bus.reset) first in
      (omega arith, none_zero bus.reset (both_right b.pending (none bus.reset) first), none_zero b.starting (both_right (both b.pending (none bus.reset)) (none b.starting) most))

  pub starts_in : (b : Board) (bus : board.Bus) → b.starting < 2 → board.starts b bus ≡ 1 → (bus.reset ≡ 0) × (b.starting ≡ 1)
  starts_in b bus small starts =
      let high : both b.starting (none bus.reset) ≡ 1 = starts in
      let most : 0 < both b.starting (none bus.reset) = omega arith in
      let first = both_left b.starting (none bus.reset) most in
      (none_zero bus.reset (both_right b.starting (none bus.reset) most), omega arith)

  times : (clocks : List Bus) (bus : Bus) (later : List Bus) → All IsBus (later ++ bus ∷ clocks)
      → board.takes (after held clocks).board (drives_board (after held clocks) bus) ≡ 1 → AreIdle held (bus ∷ clocks) later
      → (hold (after held (later ++ bus ∷ clocks)).pace ≡ bit (nat_le (ticks later) (ticks_of_byte (after held clocks) bus)))
      × (pace.rests (after held (later ++ bus ∷ clocks)).pace ≡ bit (nat_le (own_ticks_of_byte (after held clocks) bus) (ticks later)))
  times clocks bus later all takes idle =
      let v = after held clocks in
      let newer = all_older later (bus ∷ clocks) all in
      let was = wired (bus ∷ clocks) newer in
      let before = wired clocks (All-tail IsBus bus clocks newer) in
      let served = serves_in v.board (drives_board v bus) before.sound.pending takes in
      let is = takes_time_tied (tied clocks) (tied_bus v bus) (tied_later (bus ∷ clocks) later) was.served served.0 served.1 served.2
      (idle_all (bus ∷ clocks) later all idle) in
      let pins = core_pins v bus in (
        held_same later bus clocks ∙ is.0
            ∙ ap (λ n. bit (nat_le n (own_ticks (core.jsrl (core_after (tied clocks)) pins) (core.ends (core_after (tied clocks)) pins)
            + vector_ticks (core.vec (core_after (tied clocks)) pins) (core.sum (core_after (tied clocks)) pins)))) (ticks_same later (bus ∷ clocks))
            ∙ ap (λ c. bit (nat_le (ticks later) (own_ticks (core.jsrl c pins) (core.ends c pins) + vector_ticks (core.vec c pins) (core.sum c pins))))
            (sym (core_is clocks)),
        ap (λ k. pace.rests k.pace) (beside_is (later ++ bus ∷ clocks)) ∙ ap (λ l. pace.rests (tied_clocks.after l).pace) (tied_both later (bus ∷ clocks))
            ∙ is.1 ∙ ap (λ n. bit (nat_le (own_ticks (core.jsrl (core_after (tied clocks)) pins) (core.ends (core_after (tied clocks)) pins)) n)) (ticks_same later (bus ∷ clocks))
            ∙ ap (λ c. bit (nat_le (own_ticks (core.jsrl c pins) (core.ends c pins)) (ticks later))) (sym (core_is clocks)),
      )

  halts : (clocks : List Bus) → All IsBus clocks → halted (after held clocks) ≡ 1
      → (is : CountersFollow (cores held clocks) (after held clocks).pace (after held clocks).motion)
      × (is.agrees.run.is_open ≡ false)
      × (counters_of (after held clocks).motion ≡ followed_all is.began (moves_of is.agrees.run))
  halts clocks all high =
      let v = after held clocks in
      let is = follows clocks all in
      let high_is : both (both (core.halted v.board.core) (pace.rests v.pace)) (none (going v.motion)) ≡ 1 = high in
      let both_high : 0 < both (both (core.halted v.board.core) (pace.rests v.pace)) (none (going v.motion)) = omega arith in
      let first = both_left (both (core.halted v.board.core) (pace.rests v.pace)) (none (going v.motion)) both_high in
      let over = none_zero (going v.motion) (both_right (both (core.halted v.board.core) (pace.rests v.pace)) (none (going v.motion)) both_high) in
      let stopped = both_left (core.halted v.board.core) (pace.rests v.pace) first in
      let rest = one_of v.pace.left (both_right (core.halted v.board.core) (pace.rests v.pace) first) in
      let flag : core.halted (refines.after (cores held clocks)) ≡ 1 =
      ap core.halted (sym (core_is clocks ∙ ap refines.after (cores_is clocks))) ∙ one_of v.board.core.is_open stopped in
      (is, shut_of is.agrees.run.is_open (sym is.agrees.halted ∙ flag), is.counters (over, is.placed rest))

pub machine_follows_law : MachineFollows
machine_follows_law held bytes clocks all = follows held bytes clocks all

pub halted_tells_law : HaltedTells
halted_tells_law held bytes clocks all high = halts held bytes clocks all high

pub takes_time_law : TakesTime
takes_time_law held bytes clocks bus later all takes idle = times held bytes clocks bus later all takes idle
