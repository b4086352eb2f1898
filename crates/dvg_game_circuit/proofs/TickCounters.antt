-- Ticks, periods and the watchdog are counted.
use Rattle.std.proofs.Common.{◌≡◌, ℕ, zero, suc, ◌+◌, ◌-◌, ◌*◌, ◌/◌, ◌%◌, ◌<◌, Bool, true, false, not, List, [], ◌∷◌, refl, sym, ap, ◌∙◌}
use Rattle.std.proofs.Common.{arith, eqb-true, inl, inr, lit<}
use Rattle.std.specs.Prelude.{nat_eq, ◌&&◌, ◌||◌, ◌⊎◌, ◌≤◌, if◌then◌else◌}
use Rattle.std.proofs.lemmas.Bool.{cases_lt, ne_eqb, eq-eqb}
use Rattle.std.proofs.lemmas.Nat.{mod_below}
use Rattle.dvg_cells_core.specs.Cells.{add, bit, both, either, eq, mux, none, part, joined}
use Rattle.dvg_cells_cpu.specs.Cpu.{at, write}
use Rattle.dvg_game_circuit.specs.Game.{Game, Bus}
use Rattle.dvg_game_circuit.specs.Circuit.{Held, IsBus, after}
use Rattle.dvg_game_circuit.specs.Around.{IsTimed, begins, bites, counted, counts, ends_period, in_area, is_reset, is_twelfth}
use Rattle.dvg_game_circuit.specs.Around.{periods, silent, takes, tells, took, worked, writes}
use Rattle.dvg_game_circuit.proofs.Bits.{and_both, area_is, bit_of, both_bit, either_bit, none_bit, same_test}
use Rattle.dvg_game_circuit.proofs.Latching.{Fine, access, begins_is, is_output, is_three, output_is, reset_is, written_is}

-- the newest of these clocks took a tick, or the one so many before it
abbrev pub nth : ℕ → List Bus → Bool
nth k [] = false
nth zero (bus ∷ clocks) = takes clocks bus
nth (suc k) (bus ∷ clocks) = nth k clocks

took_is : (clocks : List Bus) → took 3 clocks ≡ (nth 0 clocks || (nth 1 clocks || (nth 2 clocks || false)))
took_is [] = refl
took_is (one ∷ []) = refl
took_is (one ∷ two ∷ []) = refl
took_is (one ∷ two ∷ three ∷ clocks) = refl

-- the register of three ticks, and that of the periods
abbrev three_of : (t u v : Bool) → ℕ
three_of t u v = bit t + 2 * (bit u + 2 * bit v)

abbrev pub level : ℕ → ℕ
level n = if nat_eq n 0 then 0 else (n - 1) % 12 + 1

-- what holds after these clocks
pub record Counts (held : Held) (clocks : List Bus) : Type 0 where
  pub ticked : (after held clocks).ticked ≡ three_of (nth 0 clocks) (nth 1 clocks) (nth 2 clocks)
  pub worked_is : (after held clocks).worked ≡ bit (worked held clocks)
  pub beat : (after held clocks).beat ≡ counted held clocks % 512
  pub periods_are : (after held clocks).periods ≡ level (periods held clocks)
  pub silence : (after held clocks).silence ≡ silent held clocks % 256
  pub watchdog : (after held clocks).bites ≡ bit (bites held clocks)

pub counts_first : (held : Held) → Counts held []
counts_first held =
    record { ticked = refl; worked_is = refl; beat = refl; periods_are = refl; silence = refl; watchdog = refl }

none_of : (t u v : Bool) → none (three_of t u v) ≡ bit (not (t || (u || (v || false))))
none_of true true true = refl
none_of true true false = refl
none_of true false true = refl
none_of true false false = refl
none_of false true true = refl
none_of false true false = refl
none_of false false true = refl
none_of false false false = refl

shifted : (t u v w : Bool) → joined 1 (bit t) (part 0 2 (three_of u v w)) ≡ three_of t u v
shifted t true true true = refl
shifted t true true false = refl
shifted t true false true = refl
shifted t true false false = refl
shifted t false true true = refl
shifted t false true false = refl
shifted t false false true = refl
shifted t false false false = refl

-- one more, or one less than none
count_on : (r c : Bool) (n : ℕ) → mux (bit r) 0 (mux (bit c) (add 9 (n % 512) 1) (n % 512)) ≡ (if r then 0 else n + bit c) % 512
count_on true c n = refl
count_on false true n = omega arith
count_on false false n = omega arith

silence_on : (r c : Bool) (n : ℕ) → mux (bit r) 0 (mux (bit c) (add 8 (n % 256) 1) (n % 256)) ≡ (if r then 0 else n + bit c) % 256
silence_on true c n = refl
silence_on false true n = omega arith
silence_on false false n = omega arith

level_none : (n : ℕ) → n ≡ 0 → level n ≡ 0
level_none n e = ap level e

level_some : (n : ℕ) → 0 < n → level n ≡ (n - 1) % 12 + 1
level_some n some = rw (ne_eqb n 0 (λ e. absurd (omega arith))) refl

level_next : (n : ℕ) → mux (eq (level n) 12) 1 (add 4 (level n) 1) ≡ level (n + 1)
level_next n = by (cases_lt 0 n)
  where
    then_is : level (n + 1) ≡ (n + 1 - 1) % 12 + 1
    then_is = level_some (n + 1) (omega arith)

    by_last : 0 < n → ((n - 1) % 12 < 11) ⊎ (11 ≤ (n - 1) % 12)
        → mux (eq ((n - 1) % 12 + 1) 12) 1 (add 4 ((n - 1) % 12 + 1) 1) ≡ level (n + 1)
    by_last some (inl few) = let later = then_is in rw (ne_eqb ((n - 1) % 12 + 1) 12 (λ e. absurd (omega arith))) (omega arith)
    by_last some (inr many) =
        let later = then_is in let less = mod_below (n - 1) 12 (lit< tt) in
        rw (eq-eqb ((n - 1) % 12 + 1) 12 (omega arith)) (omega arith)

    by : (0 < n) ⊎ (n ≤ 0) → mux (eq (level n) 12) 1 (add 4 (level n) 1) ≡ level (n + 1)
    by (inl some) = ap (λ l. mux (eq l 12) 1 (add 4 l 1)) (level_some n some) ∙ by_last some (cases_lt ((n - 1) % 12) 11)
    by (inr empty) = ap (λ l. mux (eq l 12) 1 (add 4 l 1)) (level_none n (omega arith)) ∙ (let later = then_is in omega arith)

periods_on : (r c : Bool) (n : ℕ) → mux (bit r) 0 (mux (bit c) (mux (eq (level n) 12) 1 (add 4 (level n) 1)) (level n))
    ≡ level (if r then 0 else n + bit c)
periods_on true c n = refl
periods_on false true n = level_next n
periods_on false false n = ap level (let same : n ≡ n + 0 = omega arith in same)

twelfth : (n : ℕ) → nat_eq (level n) 12 ≡ is_twelfth n
twelfth n = by (cases_lt 0 n)
  where
    by : (0 < n) ⊎ (n ≤ 0) → nat_eq (level n) 12 ≡ (not (nat_eq n 0) && nat_eq (n % 12) 0)
    by (inl some) =
        ap (λ l. nat_eq l 12) (level_some n some)
        ∙ same_test (nat_eq ((n - 1) % 12 + 1) 12) (nat_eq (n % 12) 0)
        (λ e. let is = eqb-true ((n - 1) % 12 + 1) 12 e in eq-eqb (n % 12) 0 (omega arith))
        (λ e. let is = eqb-true (n % 12) 0 e in eq-eqb ((n - 1) % 12 + 1) 12 (omega arith))
        ∙ sym (ap (λ t. not t && nat_eq (n % 12) 0) (ne_eqb n 0 (λ e. absurd (omega arith))))
    by (inr empty) =
        let zero_is : n ≡ 0 = omega arith in
        ap (λ l. nat_eq l 12) (level_none n zero_is) ∙ sym (ap (λ k. not (nat_eq k 0) && nat_eq (k % 12) 0) zero_is)

module _ (held : Held) (clocks : List Bus) (bus : Bus) (is : IsBus bus) (fine : Fine (after held clocks)) (was : Counts held clocks) where
  abbrev its : Game
  its = after held clocks

  abbrev taken : ℕ
  taken = both bus.tick (none its.ticked)

  abbrev resets : ℕ
  resets = both (either bus.reset its.bites) (none its.answers)

  abbrev period : ℕ
  period = both (both taken its.worked) (eq its.beat 511)

  abbrev told : ℕ
  told = both (is_output held clocks bus is fine) (eq (part 9 3 (at its.cpu)) 2)

  none_ticked : none its.ticked ≡ bit (not (took 3 clocks))
  none_ticked = ap none was.ticked ∙ none_of (nth 0 clocks) (nth 1 clocks) (nth 2 clocks) ∙ ap (λ t. bit (not t)) (sym (took_is clocks))

  taken_is : taken ≡ bit (takes clocks bus)
  taken_is = ap (λ n. both n (none its.ticked)) (bit_of bus.tick is.tick) ∙ ap (both (bit (nat_eq bus.tick 1))) none_ticked
      ∙ both_bit (nat_eq bus.tick 1) (not (took 3 clocks))

  counts_is : both taken its.worked ≡ bit (counts held clocks bus)
  counts_is = ap (λ n. both n its.worked) taken_is ∙ ap (both (bit (takes clocks bus))) was.worked_is
      ∙ both_bit (takes clocks bus) (worked held clocks)

  period_is : period ≡ bit (ends_period held clocks bus)
  period_is = ap (λ n. both n (eq its.beat 511)) counts_is ∙ ap (λ n. both (bit (counts held clocks bus)) (eq n 511)) was.beat
      ∙ both_bit (counts held clocks bus) (nat_eq (counted held clocks % 512) 511)

  of_area : (k : ℕ) → k < 8 → (kind : ℕ → Bool) → nat_eq (at its.cpu / 0x200) (24 + k) ≡ kind (at its.cpu)
      → both (is_output held clocks bus is fine) (eq (part 9 3 (at its.cpu)) k) ≡ bit (writes its bus kind)
  of_area k less kind e =
      ap (λ n. both n (eq (part 9 3 (at its.cpu)) k)) (output_is held clocks bus is fine)
      ∙ both_bit ((begins its bus && nat_eq (write its.cpu) 1) && is_three held clocks bus is fine) (nat_eq (part 9 3 (at its.cpu)) k)
      ∙ ap bit (written_is held clocks bus is fine (nat_eq (part 9 3 (at its.cpu)) k) kind
      (area_is (at its.cpu) k fine.place less ∙ e))

  told_is : told ≡ bit (tells its bus)
  told_is = of_area 2 (lit< tt) (in_area 0x3400) refl

  ticked_on : joined 1 taken (part 0 2 its.ticked) ≡ three_of (takes clocks bus) (nth 0 clocks) (nth 1 clocks)
  ticked_on = ap (λ n. joined 1 n (part 0 2 its.ticked)) taken_is ∙ ap (λ n. joined 1 (bit (takes clocks bus)) (part 0 2 n)) was.ticked
      ∙ shifted (takes clocks bus) (nth 0 clocks) (nth 1 clocks) (nth 2 clocks)

  worked_on : either (access held clocks bus is fine) (both its.worked (none taken))
      ≡ bit (begins its bus || (worked held clocks && not (takes clocks bus)))
  worked_on = ap (λ n. either n (both its.worked (none taken))) (begins_is held clocks bus is fine)
      ∙ ap (λ n. either (bit (begins its bus)) (both its.worked (none n))) taken_is
      ∙ ap (λ n. either (bit (begins its bus)) (both its.worked n)) (none_bit (takes clocks bus))
      ∙ ap (λ n. either (bit (begins its bus)) (both n (bit (not (takes clocks bus))))) was.worked_is
      ∙ ap (either (bit (begins its bus))) (both_bit (worked held clocks) (not (takes clocks bus)))
      ∙ either_bit (begins its bus) (worked held clocks && not (takes clocks bus))

  beat_on : mux resets 0 (mux (both taken its.worked) (add 9 its.beat 1) its.beat) ≡ counted held (bus ∷ clocks) % 512
  beat_on = ap (λ n. mux n 0 (mux (both taken its.worked) (add 9 its.beat 1) its.beat)) (reset_is held clocks bus is fine)
      ∙ ap (λ n. mux (bit (is_reset its bus)) 0 (mux n (add 9 its.beat 1) its.beat)) counts_is
      ∙ ap (λ n. mux (bit (is_reset its bus)) 0 (mux (bit (counts held clocks bus)) (add 9 n 1) n)) was.beat
      ∙ count_on (is_reset its bus) (counts held clocks bus) (counted held clocks)

  clears : either resets (part 7 1 bus.held) ≡ bit (is_reset its bus || nat_eq (bus.held / 128 % 2) 1)
  clears = ap (λ n. either n (part 7 1 bus.held)) (reset_is held clocks bus is fine)
      ∙ ap (either (bit (is_reset its bus))) (bit_of (part 7 1 bus.held) (mod_below (bus.held / 128) 2 (lit< tt)))
      ∙ either_bit (is_reset its bus) (nat_eq (bus.held / 128 % 2) 1)

  periods_on_it : mux (either resets (part 7 1 bus.held)) 0 (mux period (mux (eq its.periods 12) 1 (add 4 its.periods 1)) its.periods)
      ≡ level (periods held (bus ∷ clocks))
  periods_on_it =
      ap (λ n. mux n 0 (mux period (mux (eq its.periods 12) 1 (add 4 its.periods 1)) its.periods)) clears
      ∙ ap (λ n. mux (bit (is_reset its bus || nat_eq (bus.held / 128 % 2) 1)) 0
      (mux n (mux (eq its.periods 12) 1 (add 4 its.periods 1)) its.periods)) period_is
      ∙ ap (λ n. mux (bit (is_reset its bus || nat_eq (bus.held / 128 % 2) 1)) 0
      (mux (bit (ends_period held clocks bus)) (mux (eq n 12) 1 (add 4 n 1)) n)) was.periods_are
      ∙ periods_on (is_reset its bus || nat_eq (bus.held / 128 % 2) 1) (ends_period held clocks bus) (periods held clocks)

  silence_on_it : mux (either resets told) 0 (mux period (add 8 its.silence 1) its.silence) ≡ silent held (bus ∷ clocks) % 256
  silence_on_it =
      ap (λ n. mux (either n told) 0 (mux period (add 8 its.silence 1) its.silence)) (reset_is held clocks bus is fine)
      ∙ ap (λ n. mux (either (bit (is_reset its bus)) n) 0 (mux period (add 8 its.silence 1) its.silence)) told_is
      ∙ ap (λ n. mux n 0 (mux period (add 8 its.silence 1) its.silence)) (either_bit (is_reset its bus) (tells its bus))
      ∙ ap (λ n. mux (bit (is_reset its bus || tells its bus)) 0 (mux n (add 8 its.silence 1) its.silence)) period_is
      ∙ ap (λ n. mux (bit (is_reset its bus || tells its bus)) 0 (mux (bit (ends_period held clocks bus)) (add 8 n 1) n)) was.silence
      ∙ silence_on (is_reset its bus || tells its bus) (ends_period held clocks bus) (silent held clocks)

  bites_on : either (both (both period (eq its.silence 255)) (none told)) (both its.bites its.answers) ≡ bit (bites held (bus ∷ clocks))
  bites_on =
      ap (λ n. either (both (both n (eq its.silence 255)) (none told)) (both its.bites its.answers)) period_is
      ∙ ap (λ n. either (both (both (bit (ends_period held clocks bus)) (eq n 255)) (none told)) (both its.bites its.answers)) was.silence
      ∙ ap (λ n. either (both n (none told)) (both its.bites its.answers))
      (both_bit (ends_period held clocks bus) (nat_eq (silent held clocks % 256) 255))
      ∙ ap (λ n. either (both (bit (ends_period held clocks bus && nat_eq (silent held clocks % 256) 255)) n) (both its.bites its.answers))
      (ap none told_is ∙ none_bit (tells its bus))
      ∙ ap (λ n. either n (both its.bites its.answers))
      (both_bit (ends_period held clocks bus && nat_eq (silent held clocks % 256) 255) (not (tells its bus))
      ∙ ap bit (and_both (ends_period held clocks bus) (nat_eq (silent held clocks % 256) 255) (not (tells its bus))))
      ∙ ap (either (bit (ends_period held clocks bus && (nat_eq (silent held clocks % 256) 255 && not (tells its bus)))))
      (ap (λ n. both n its.answers) was.watchdog ∙ ap (both (bit (bites held clocks))) (bit_of its.answers fine.answers)
      ∙ both_bit (bites held clocks) (nat_eq its.answers 1))
      ∙ either_bit (ends_period held clocks bus && (nat_eq (silent held clocks % 256) 255 && not (tells its bus)))
      (bites held clocks && nat_eq its.answers 1)

  pub counts_on : Counts held (bus ∷ clocks)
  counts_on = record {
    ticked = ticked_on;
    worked_is = worked_on;
    beat = beat_on;
    periods_are = periods_on_it;
    silence = silence_on_it;
    watchdog = bites_on;
  }

  pub timed_now : IsTimed held clocks bus
  timed_now = record {
    taken = taken_is;
    nmi = ap (λ n. eq n 12) was.periods_are ∙ ap bit (twelfth (periods held clocks));
    watchdog = was.watchdog;
    processor = reset_is held clocks bus is fine;
    drawer = reset_is held clocks bus is fine;
    access = begins_is held clocks bus is fine;
    hushes = of_area 7 (lit< tt) (in_area 0x3E00) refl;
  }
