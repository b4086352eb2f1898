-- After a reset, also amid a vector.
use Rattle.std.proofs.Common.{◌≡◌, ℕ, zero, suc, ◌+◌, ◌-◌, ◌<◌, ◌≤◌, ◌++◌, List, [], ◌∷◌, refl, sym, ap, ◌∙◌, subst, arith, inl, inr, leb}
use Rattle.std.specs.Prelude.{nat_le, All, ◌⊎◌}
use Rattle.std.proofs.lemmas.Bool.{cases_lt, le-leb, lt-leb}
use Rattle.std.proofs.lemmas.List.Elements.{All-head, All-tail}
use Rattle.dvg_cells_core.specs.Cells.{both, either, none, bit, mux, ne, sub, eq, part}
use Rattle.dvg_cells_core.specs.Core.{Core, ends, jsrl}
use Rattle.dvg_cells_core.specs.Core as core
use Rattle.dvg_gen.specs.declared.counters.Counters.{Counters}
use Rattle.dvg_cells_board.specs.Board as board
use Rattle.dvg_cells_motion.specs.Motion.{going}
use Rattle.dvg_cells_motion.specs.Pace.{hold}
use Rattle.dvg_cells_motion.specs.Vectors.{Vectors, Bus, drives_board, halted}
use Rattle.dvg_cells_motion.specs.Machine.{IsBus, HasBytes, AreIdle, OldVectorEnds, StartTakes, after, core_pins, own_ticks, ticks, vector_left}
use Rattle.dvg_cells_motion.specs.Times.{left_ticks, StartsNone, ResetDraws}
use Rattle.dvg_cells_motion.proofs.Machine.{Phase, rests, runs, waits, all_run, both_none, mux_same, unserved, stays, held_rests, none_is}
use Rattle.dvg_cells_motion.proofs.Pictures.{both_is_zero, none_or}
use Rattle.dvg_cells_motion.proofs.Tied as tied_clocks
use Rattle.dvg_cells_motion.proofs.Tied.{Beside, driven, core_after, IsIdle}
use Rattle.dvg_cells_motion.proofs.TicksOfByte.{Times, later_times, gone, gone_le, gone_ge, own_few, none_more, ne_more, ne_same, down, mux_more}
use Rattle.dvg_cells_motion.proofs.Wiring.{held_same, starts_in, tied, tied_later, tied_both, beside_of, beside_is, wired, all_older, ticks_same, idle_all}
use Rattle.dvg_cells_board.proofs.Wires.{takes_none}

-- a vector is over, or it goes, and no LABS waits
abbrev Goes : Beside → Type 0
Goes beside = (beside.motion.count ≡ beside.motion.last)
    ⊎ ((beside.motion.count < beside.motion.last) × (beside.motion.last ≤ 1024) × (beside.pace.placing ≡ 0))

abbrev left_of : Beside → ℕ
left_of beside = beside.pace.left + (beside.motion.last - beside.motion.count)

by_phase : (c : Core) (beside : Beside) (want : Counters) → Phase c beside want → Goes beside
by_phase c beside want (rests off over fx fy is) = inl over
by_phase c beside want (runs fx fy last rx ry bx by z n off ready is less small bx_in by_in leads) =
    let count = ap (λ m. m.count) is in
    let end = ap (λ m. m.last) is in
    inr (subst (λ k. k < beside.motion.last) (sym count) (subst (λ k. n < k) (sym end) less), subst (λ k. k ≤ 1024) (sym end) small, off)
by_phase c beside want (waits on ready left over is) = inl over

few_after : (start takes tick left own : ℕ) → own ≤ 2 → left ≤ 2 → mux start 1 (mux takes own (mux tick (mux (none left) left (sub 2 left 1)) left)) ≤ 2
few_after (suc s) takes tick left own few was = subst (λ n. n ≤ 2) (sym (mux_more s 1 (mux takes own (mux tick (mux (none left) left (sub 2 left 1)) left)))) (omega arith)
few_after zero (suc t) tick left own few was = subst (λ n. n ≤ 2) (sym (mux_more t own (mux tick (mux (none left) left (sub 2 left 1)) left))) few
few_after zero zero zero left own few was = was
few_after zero zero (suc t) left own few was =
    let less : left - 1 ≤ 2 = omega arith in
    subst (λ n. n ≤ 2) (sym (mux_more t (mux (none left) left (sub 2 left 1)) left ∙ down left was)) less

few : (clocks : List tied_clocks.Bus) → (tied_clocks.after clocks).pace.left ≤ 2
few [] = omega arith
few (b ∷ clocks) =
    few_after (both b.pins.start (none b.pins.reset)) (both (both b.pins.valid (none b.pins.reset)) (none b.pins.start)) b.tick (tied_clocks.after clocks).pace.left
    (own_ticks (jsrl (core_after clocks) b.pins) (ends (core_after clocks) b.pins)) (own_few (jsrl (core_after clocks) b.pins) (ends (core_after clocks) b.pins)) (few clocks)

less_none : (n : ℕ) → n ≡ n - 0
less_none n = omega arith

split : (count last : ℕ) → count ≤ last → last ≡ count + (last - count)
split count last within = omega arith

none_gone : (count n : ℕ) → n ≡ 0 → count ≡ count + n
none_gone count n e = omega arith

-- from any moment at which the next byte is held
begun : (beside : Beside) → beside.pace.ready ≡ 0 → Goes beside → Times beside beside.pace.left (beside.motion.last - beside.motion.count) beside.motion.count 0
begun beside off goes = record {
  left = less_none beside.pace.left;
  ready = ap none off ∙ ap bit (sym (le-leb 0 (beside.pace.left + (beside.motion.last - beside.motion.count)) (omega arith)));
  last = split beside.motion.count beside.motion.last (within goes);
  count = none_gone beside.motion.count (gone (beside.motion.last - beside.motion.count) (0 - beside.pace.left)) (gone_le (beside.motion.last - beside.motion.count) (0 - beside.pace.left) (omega arith) ∙ (omega arith));
  kind = kind goes;
}
  where
    within : Goes beside → beside.motion.count ≤ beside.motion.last
    within (inl over) = omega arith
    within (inr more) = let less = more.0 in omega arith

    kind : Goes beside → (beside.motion.last - beside.motion.count ≡ 0) ⊎ ((beside.pace.placing ≡ 0) × (beside.motion.count + (beside.motion.last - beside.motion.count) ≤ 1024))
    kind (inl over) = inl (omega arith)
    kind (inr more) = let less = more.0 in let small = more.1 in inr (more.2, omega arith)

-- at rest it stays so
record Rests (beside : Beside) : Type 0 where
  left : beside.pace.left ≡ 0
  over : beside.motion.count ≡ beside.motion.last
  placing : beside.pace.placing ≡ 0

stay : (older later : List tied_clocks.Bus) → Rests (tied_clocks.after older) → All IsIdle later → Rests (tied_clocks.after (later ++ older))
stay older [] rest idle = rest
stay older (b ∷ later) rest idle =
    let was = stay older later rest (All-tail IsIdle b later idle) in
    let is = All-head IsIdle b later idle in
    let valid = is.valid in
    let start = is.start in
    let c = core_after (later ++ older) in
    let beside = tied_clocks.after (later ++ older) in
    let quiet = unserved c b.pins valid in
    let off = was.placing in
    let none_left = was.left in
    let no_labs = quiet.1 in
    let same = stays beside.motion (driven c beside b) (rw off (both_none b.tick)) quiet.0 was.over in
    record {
      left = rw valid (rw start (rw none_left (mux_same b.tick 0)));
      over = ap (λ m. m.count) same ∙ was.over ∙ sym (ap (λ m. m.last) same);
      placing = rw no_labs (rw off (mux_same b.tick 0));
    }

-- the pin `halted` of a closed core
shown_over : (left count last : ℕ) → left ≡ 0 → count ≡ last → both (both 1 (none left)) (none (ne count last)) ≡ 1
shown_over left count last none_left over = rw none_left (rw (ne_same count last over) refl)

shown_left : (left rest : ℕ) → 0 < left → both (both 1 (none left)) rest ≡ 0
shown_left left rest more = rw (none_more left more) refl

shown_goes : (left count last : ℕ) → count < last → both (both 1 (none left)) (none (ne count last)) ≡ 0
shown_goes left count last less = rw (ne_more count last less) (both_none (both 1 (none left)))

more_left : (left own k : ℕ) → left ≡ own - k → k < own → 0 < left
more_left left own k is less = omega arith

none_of : (left own k : ℕ) → left ≡ own - k → own ≤ k → left ≡ 0
none_of left own k is more = omega arith

shown : (beside : Beside) (own t base k : ℕ) → Times beside own t base k → both (both 1 (none beside.pace.left)) (none (going beside.motion)) ≡ bit (leb (own + t) k)
shown beside own t base k times = by (cases_lt k (own + t)) (cases_lt k own)
  where
    by : (k < own + t) ⊎ (own + t ≤ k) → (k < own) ⊎ (own ≤ k) → both (both 1 (none beside.pace.left)) (none (going beside.motion)) ≡ bit (leb (own + t) k)
    by (inr over) _ =
        let ended = times.count ∙ ap (λ n. base + n) (gone_ge t (k - own) (omega arith)) ∙ sym times.last in
        shown_over beside.pace.left beside.motion.count beside.motion.last (none_of beside.pace.left own k times.left (omega arith)) ended
        ∙ ap bit (sym (le-leb (own + t) k over))
    by (inl less) (inl early) =
        shown_left beside.pace.left (none (going beside.motion)) (more_left beside.pace.left own k times.left early) ∙ ap bit (sym (lt-leb (own + t) k less))
    by (inl less) (inr now) =
        let here = times.count ∙ ap (λ n. base + n) (gone_le t (k - own) (omega arith)) in
        let more : base + (k - own) < base + t = omega arith in
        shown_goes beside.pace.left beside.motion.count beside.motion.last
        (subst (λ n. n < beside.motion.last) (sym here) (subst (λ n. base + (k - own) < n) (sym times.last) more)) ∙ ap bit (sym (lt-leb (own + t) k less))

asks_reset : (most reset starting pending on_ram : ℕ) → reset ≡ 1 → both (both most (none (either (either reset starting) pending))) on_ram ≡ 0
asks_reset most reset starting pending on_ram e = rw e (rw (both_none most) refl)

asks_shut : (shut hold rest on_ram : ℕ) → shut ≡ 1 → both (both (both (none shut) (none hold)) rest) on_ram ≡ 0
asks_shut shut hold rest on_ram e = rw e refl

resets_core : (c : Core) (pins : core.Pins) → pins.reset ≡ 1 → core.halted (core.clock c pins) ≡ 1
resets_core c pins e = rw e refl

stays_shut : (c : Core) (pins : core.Pins) → c.is_open ≡ 0 → pins.reset ≡ 0 → pins.start ≡ 0 → core.halted (core.clock c pins) ≡ 1
stays_shut c pins shut none_now off = rw shut (rw none_now (rw off refl))

abbrev on_ram : Bus → ℕ
on_ram bus = both bus.access (eq (part 11 5 bus.a) 8)

module _ (held : ℕ → ℕ) (bytes : HasBytes held) (clocks : List Bus) (bus : Bus) (reset : bus.reset ≡ 1) where
  abbrev at : List Bus → Vectors
  at later = after held (later ++ bus ∷ clocks)

  -- the core is closed, and no byte is asked for
  closed : (later : List Bus) → StartsNone held (bus ∷ clocks) later → ((at later).board.pending ≡ 0) × (core.halted (at later).board.core ≡ 1)
  closed [] none_more =
      let v = after held clocks in (
        asks_reset (both (none (core.halted v.board.core)) (none (hold v.pace))) bus.reset v.board.starting v.board.pending (none (on_ram bus)) reset,
        resets_core v.board.core (core_pins v bus) reset,
      )
  closed (b ∷ later) none_more =
      let was = closed later none_more.2 in
      let v = at later in
      let starting : v.board.starting ≡ 0 = both_is_zero v.board.starting (subst (λ r. both v.board.starting (none r) ≡ 0) none_more.1 none_more.0) in (
        asks_shut (core.halted v.board.core) (hold v.pace) (none (either (either b.reset v.board.starting) v.board.pending)) (none (on_ram b)) was.1,
        stays_shut v.board.core (core_pins v b) (none_is v.board.core.is_open was.1) none_more.1 starting,
      )

  idle : (later : List Bus) → StartsNone held (bus ∷ clocks) later → AreIdle held (bus ∷ clocks) later
  idle [] none_more = tt
  idle (b ∷ later) none_more =
      let pending = (closed later none_more.2).0 in
      (takes_none (at later).board.pending b.reset (at later).board.starting pending, none_more.0, none_more.1, idle later none_more.2)

  draws : (later : List Bus) → All IsBus (later ++ bus ∷ clocks) → StartsNone held (bus ∷ clocks) later
      → (board.halted (at later).board ≡ 1) × (halted (at later) ≡ bit (nat_le (left_ticks (at [])) (ticks later)))
  draws later all none_more = (shut, ap (λ n. both (both n (none (at later).pace.left)) (none (going (at later).motion))) shut ∙ by (none_or (at []).pace.ready))
    where
      shut : core.halted (at later).board.core ≡ 1
      shut = (closed later none_more).1

      here : All IsBus (bus ∷ clocks)
      here = all_older held bytes later (bus ∷ clocks) all

      idles : All IsIdle (tied_later held bytes (bus ∷ clocks) later)
      idles = idle_all held bytes (bus ∷ clocks) later all (idle later none_more)

      started : beside_of (at []) ≡ tied_clocks.after (tied held bytes (bus ∷ clocks))
      started = beside_is held bytes (bus ∷ clocks)

      ended : beside_of (at later) ≡ tied_clocks.after (tied_later held bytes (bus ∷ clocks) later ++ tied held bytes (bus ∷ clocks))
      ended = beside_is held bytes (later ++ bus ∷ clocks) ∙ ap tied_clocks.after (tied_both held bytes later (bus ∷ clocks))

      goes : Goes (tied_clocks.after (tied held bytes (bus ∷ clocks)))
      goes = by_phase _ _ _ (all_run (tied held bytes (bus ∷ clocks)) (wired held bytes (bus ∷ clocks) here).served).led.phase

      shows : (beside : Beside) → beside_of (at later) ≡ beside → both (both 1 (none beside.pace.left)) (none (going beside.motion)) ≡ bit (nat_le (left_ticks (at [])) (ticks later))
          → both (both 1 (none (at later).pace.left)) (none (going (at later).motion)) ≡ bit (nat_le (left_ticks (at [])) (ticks later))
      shows beside is value = ap (λ (b : Beside). both (both 1 (none b.pace.left)) (none (going b.motion))) is ∙ value

      by : (hold (at []).pace ≡ 0) ⊎ ((at []).pace.ready ≡ 0) → both (both 1 (none (at later).pace.left)) (none (going (at later).motion)) ≡ bit (nat_le (left_ticks (at [])) (ticks later))
      by (inl low) =
          let resting = held_rests (tied held bytes (bus ∷ clocks)) (wired held bytes (bus ∷ clocks) here).served (sym (ap (λ (b : Beside). hold b.pace) started) ∙ low) in
          let none_left = (wired held bytes (bus ∷ clocks) here).sound.left low in
          let rest : Rests (tied_clocks.after (tied held bytes (bus ∷ clocks))) = record {
            left = sym (ap (λ (b : Beside). b.pace.left) started) ∙ none_left;
            over = resting.0;
            placing = resting.1;
          } in
          let is = stay (tied held bytes (bus ∷ clocks)) (tied_later held bytes (bus ∷ clocks) later) rest idles in
          let over = ap (λ (b : Beside). b.motion.count) started ∙ resting.0 ∙ sym (ap (λ (b : Beside). b.motion.last) started) in
          shows _ ended (shown_over _ _ _ is.left is.over ∙ ap bit (sym (le-leb _ (ticks later) (none_owed (at []).pace.left (at []).motion.last (at []).motion.count (ticks later) none_left over))))
        where
          none_owed : (left last count n : ℕ) → left ≡ 0 → count ≡ last → left + (last - count) ≤ n
          none_owed left last count n none_left over = omega arith
      by (inr off) =
          let ready = sym (ap (λ (b : Beside). b.pace.ready) started) ∙ off in
          let first = begun (tied_clocks.after (tied held bytes (bus ∷ clocks))) ready goes in
          let times = later_times (tied held bytes (bus ∷ clocks)) _ _ _ (few (tied held bytes (bus ∷ clocks))) first (tied_later held bytes (bus ∷ clocks) later) idles in
          shows _ ended (shown _ _ _ _ _ times
          ∙ ap (λ n. bit (leb (left_of (tied_clocks.after (tied held bytes (bus ∷ clocks)))) n)) (ticks_same held bytes later (bus ∷ clocks))
          ∙ ap (λ (b : Beside). bit (leb (left_of b) (ticks later))) (sym started))

pub reset_draws_law : ResetDraws
reset_draws_law held bytes clocks bus later all reset none_more = draws held bytes clocks bus reset later all none_more

starts_left : (held : ℕ → ℕ) (bytes : HasBytes held) (clocks : List Bus) (bus : Bus)
    → (core_pins (after held clocks) bus).reset ≡ 0 → (core_pins (after held clocks) bus).start ≡ 1
    → (tied_clocks.after (tied held bytes (bus ∷ clocks))).pace.left ≡ 1
starts_left held bytes clocks bus reset start = rw reset (rw start refl)

starts_off : (held : ℕ → ℕ) (bytes : HasBytes held) (clocks : List Bus) (bus : Bus)
    → (core_pins (after held clocks) bus).reset ≡ 0 → (core_pins (after held clocks) bus).start ≡ 1
    → (tied_clocks.after (tied held bytes (bus ∷ clocks))).pace.ready ≡ 0
starts_off held bytes clocks bus reset start = rw reset (rw start refl)

-- after a start, also amid a vector: where all is after later clocks
record Started (held : ℕ → ℕ) (bytes : HasBytes held) (clocks later : List Bus) (beside : Beside) : Type 0 where
  own : beside.pace.left ≡ 1
  goes : Goes beside
  times : Times (tied_clocks.after (tied_later held bytes clocks later ++ tied held bytes clocks)) beside.pace.left
      (beside.motion.last - beside.motion.count) beside.motion.count (tied_clocks.ticks_of (tied_later held bytes clocks later))

started : (held : ℕ → ℕ) (bytes : HasBytes held) (clocks : List Bus) (bus : Bus) (later : List Bus)
    → All IsBus (later ++ bus ∷ clocks) → board.starts (after held clocks).board (drives_board (after held clocks) bus) ≡ 1
    → AreIdle held (bus ∷ clocks) later
    → Started held bytes (bus ∷ clocks) later (tied_clocks.after (tied held bytes (bus ∷ clocks)))
started held bytes clocks bus later all starts idle =
    let v = after held clocks in
    let here = all_older held bytes later (bus ∷ clocks) all in
    let before = wired held bytes clocks (All-tail IsBus bus clocks here) in
    let begins = starts_in held bytes v.board (drives_board v bus) before.sound.starting starts in
    let older = tied held bytes (bus ∷ clocks) in
    let off = starts_off held bytes clocks bus begins.0 begins.1 in
    let goes = by_phase _ _ _ (all_run older (wired held bytes (bus ∷ clocks) here).served).led.phase in
    record {
      own = starts_left held bytes clocks bus begins.0 begins.1;
      goes = goes;
      times = later_times older _ _ _ (few older) (begun (tied_clocks.after older) off goes) (tied_later held bytes (bus ∷ clocks) later)
          (idle_all held bytes (bus ∷ clocks) later all idle);
    }

pub start_takes_law : StartTakes
start_takes_law held bytes clocks bus later all starts idle =
    let is = started held bytes clocks bus later all starts idle in
    let beside = tied_clocks.after (tied held bytes (bus ∷ clocks)) in
    held_same held bytes later bus clocks ∙ is.times.ready
    ∙ ap (λ n. bit (leb n (left_of beside))) (ticks_same held bytes later (bus ∷ clocks))
    ∙ ap (λ n. bit (leb (ticks later) (n + vector_left beside.motion))) is.own
    ∙ ap (λ (b : Beside). bit (leb (ticks later) (1 + vector_left b.motion))) (sym (beside_is held bytes (bus ∷ clocks)))

few_left : (beside : Beside) → Goes beside → vector_left beside.motion ≤ 1024
few_left beside (inl over) = omega arith
few_left beside (inr more) = let small = more.1 in omega arith

enough : (k t own : ℕ) → own ≡ 1 → 1 + t ≤ k → t ≤ k - own
enough k t own is more = omega arith

pub old_vector_ends_law : OldVectorEnds
old_vector_ends_law held bytes clocks bus later all starts idle = (
  subst (λ (b : Beside). vector_left b.motion ≤ 1024) (sym same) (few_left beside is.goes),
  λ more. ap (λ (b : Beside). going b.motion) ended ∙ ne_same _ _ (is.times.count
      ∙ ap (λ n. beside.motion.count + n) (gone_ge (vector_left beside.motion) (k - beside.pace.left)
      (enough k (vector_left beside.motion) beside.pace.left is.own
      (subst (λ n. 1 + vector_left beside.motion ≤ n) (sym (ticks_same held bytes later (bus ∷ clocks)))
      (subst (λ (b : Beside). 1 + vector_left b.motion ≤ ticks later) same more)))) ∙ sym is.times.last),
)
  where
    is : Started held bytes (bus ∷ clocks) later (tied_clocks.after (tied held bytes (bus ∷ clocks)))
    is = started held bytes clocks bus later all starts idle

    beside : Beside
    beside = tied_clocks.after (tied held bytes (bus ∷ clocks))

    k : ℕ
    k = tied_clocks.ticks_of (tied_later held bytes (bus ∷ clocks) later)

    same : beside_of (after held (bus ∷ clocks)) ≡ beside
    same = beside_is held bytes (bus ∷ clocks)

    ended : beside_of (after held (later ++ bus ∷ clocks)) ≡ tied_clocks.after (tied_later held bytes (bus ∷ clocks) later ++ tied held bytes (bus ∷ clocks))
    ended = beside_is held bytes (later ++ bus ∷ clocks) ∙ ap tied_clocks.after (tied_both held bytes later (bus ∷ clocks))
