-- The generator's ROM answers: what it takes was read in the clock before, at the same place.
use Rattle.std.proofs.Common.{◌≡◌, ℕ, ◌+◌, ◌-◌, ◌*◌, ◌<◌, ◌≤◌, Bool, true, false, List, length, refl, sym, ap, ◌∙◌, subst, arith}
use Rattle.std.proofs.Common.{eqb-true}
use Rattle.std.specs.Prelude.{nat_eq, if◌then◌else◌, slice_index, ◌==◌}
use Rattle.dvg_mem.specs.Memory.{first_word}
use Rattle.dvg_cells_core.specs.Cells.{both, either, eq, mux, none, part, joined}
use Rattle.dvg_cells_core.specs.Core.{Core, Pins}
use Rattle.dvg_cells_core.specs.Core as core
use Rattle.dvg_cells_board.specs.Board.{Board, Bus, takes}
use Rattle.dvg_cells_board.specs.Board as board
use Rattle.dvg_cells_cpu.proofs.Bounds.{mux_in}

-- bits of cells
abbrev both_of : (t u : Bool) → ℕ
both_of t u = if t then 0 else if u then 0 else 1

abbrev either_of : (t u : Bool) → ℕ
either_of t u = if t then (if u then 0 else 1) else 1

pub both_left : (a b : ℕ) → both a b ≡ 1 → nat_eq a 0 ≡ false
both_left a b = by (nat_eq a 0) (nat_eq b 0)
  where
    by : (t u : Bool) → both_of t u ≡ 1 → t ≡ false
    by true u e = absurd (omega arith)
    by false u e = refl

pub both_right : (a b : ℕ) → both a b ≡ 1 → nat_eq b 0 ≡ false
both_right a b = by (nat_eq a 0) (nat_eq b 0)
  where
    by : (t u : Bool) → both_of t u ≡ 1 → u ≡ false
    by true u e = absurd (omega arith)
    by false true e = absurd (omega arith)
    by false false e = refl

pub zero_of : (a : ℕ) → nat_eq a 0 ≡ true → a ≡ 0
zero_of a e = eqb-true a 0 e

pub none_some : (a : ℕ) → nat_eq (none a) 0 ≡ false → a ≡ 0
none_some a e = zero_of a (by (nat_eq a 0) e)
  where
    by : (t : Bool) → nat_eq (if t then 1 else 0) 0 ≡ false → t ≡ true
    by true f = refl
    by false f = absurd (cc)

pub both_one : (a b : ℕ) → nat_eq (both a b) 0 ≡ false → both a b ≡ 1
both_one a b = by (nat_eq a 0) (nat_eq b 0)
  where
    by : (t u : Bool) → nat_eq (both_of t u) 0 ≡ false → both_of t u ≡ 1
    by true u e = absurd (cc)
    by false true e = absurd (cc)
    by false false e = refl

pub either_none : (a b : ℕ) → either a b ≡ 0 → (nat_eq a 0 ≡ true) × (nat_eq b 0 ≡ true)
either_none a b = by (nat_eq a 0) (nat_eq b 0)
  where
    by : (t u : Bool) → either_of t u ≡ 0 → (t ≡ true) × (u ≡ true)
    by true true e = (refl, refl)
    by true false e = absurd (omega arith)
    by false u e = absurd (omega arith)

-- where the board asks, nothing moves the place of the byte
asks : (still reset starting pending free : ℕ)
    → both (both still (none (either (either reset starting) pending))) free ≡ 1
    → (reset ≡ 0) × (starting ≡ 0) × (pending ≡ 0)
asks still reset starting pending free e =
    let one = both_one still (none (either (either reset starting) pending)) (both_left (both still (none (either (either reset starting) pending))) free e) in
    let quiet = none_some (either (either reset starting) pending) (both_right still (none (either (either reset starting) pending)) one) in
    let two = either_none (either reset starting) pending quiet in
    let three = either_none reset starting (zero_of (either reset starting) two.0) in
    (zero_of reset three.0, zero_of starting three.1, zero_of pending two.1)

both_zero : (a : ℕ) → both a 0 ≡ 0
both_zero a = by (nat_eq a 0)
  where
    by : (t : Bool) → both_of t true ≡ 0
    by true = refl
    by false = refl

-- the core then stays where it is
abbrev idle : (reset start valid : ℕ) → Pins → Pins
idle reset start valid pins = record { reset = reset; start = start; valid = valid; hole = pins.hole; din = pins.din }

still_by : (c : Core) (pins : Pins) → ((core.clock c (idle 0 0 0 pins)).at ≡ c.at) × ((core.clock c (idle 0 0 0 pins)).high ≡ c.high)
still_by c pins = (rw (both_zero c.is_open) refl, rw (both_zero c.is_open) refl)

module _ (c : Core) (pins : Pins) where
  abbrev Still : Pins → Type 0
  Still p = ((core.clock c p).at ≡ c.at) × ((core.clock c p).high ≡ c.high)

  still : pins.reset ≡ 0 → pins.start ≡ 0 → pins.valid ≡ 0 → Still pins
  still r s v = subst (λ n. Still (idle n pins.start pins.valid pins)) (sym r) (subst (λ n. Still (idle 0 n pins.valid pins)) (sym s)
      (subst (λ n. Still (idle 0 0 n pins)) (sym v) (still_by c pins)))

  pub high_in : c.high < 2 → (core.clock c pins).high < 2
  high_in less =
      let takes : ℕ = both (both c.is_open pins.valid) (none pins.hole) in
      let one = mux_in (both takes c.high) 0 c.high 2 (omega arith) less in
      let two = mux_in (both takes (none c.high)) 1 (mux (both takes c.high) 0 c.high) 2 (omega arith) one in
      let three = mux_in (both (both c.is_open pins.valid) pins.hole) 0
      (mux (both takes (none c.high)) 1 (mux (both takes c.high) 0 c.high)) 2 (omega arith) two in
      let four = mux_in pins.start 0 (mux (both (both c.is_open pins.valid) pins.hole) 0
      (mux (both takes (none c.high)) 1 (mux (both takes c.high) 0 c.high))) 2 (omega arith) three in
      mux_in pins.reset 0 (mux pins.start 0 (mux (both (both c.is_open pins.valid) pins.hole) 0
      (mux (both takes (none c.high)) 1 (mux (both takes c.high) 0 c.high)))) 2 (omega arith) four

abbrev pub place_of : Board → ℕ
place_of b = joined 1 b.core.high (part 0 10 b.core.at)

-- so the byte that the ROM read in that clock is still the one that is taken in the next
pub read_on : (shapes : ℕ → ℕ) (b : Board) (bus : Bus) → (board.clock b bus).pending ≡ 1
    → shapes (place_of b) ≡ shapes (place_of (board.clock b bus))
read_on shapes b bus e =
    let free = none (both bus.access (eq (part 11 5 bus.a) 8)) in
    let quiet = asks (both (none (core.halted b.core)) (none bus.hold)) bus.reset b.starting b.pending free e in
    let same = still b.core (board.pins b bus) quiet.0 quiet.1 quiet.2 in
    moved (core.clock b.core (board.pins b bus)).at (core.clock b.core (board.pins b bus)).high same.0 same.1
  where
    moved : (at high : ℕ) → at ≡ b.core.at → high ≡ b.core.high
        → shapes (place_of b) ≡ shapes (joined 1 high (part 0 10 at))
    moved at high p q = rw p (rw q refl)

pub taken_is : (R : List ℕ) (shapes : ℕ → ℕ) (at high byte : ℕ) → length R ≡ 2048 → ((a : ℕ) → a < 0x800 → shapes a ≡ slice_index R a)
    → high < 2 → byte ≡ shapes (joined 1 high (part 0 10 at)) → first_word R ≤ at → at < 0xC00
    → byte ≡ slice_index R (2 * (at - first_word R) + high)
taken_is R shapes at high byte count same bit read from to =
    by (first_word R) (ap (λ n. if n == 2048 then 0x800 else 0x400) count) from
  where
    by : (first : ℕ) → first ≡ 0x800 → first ≤ at → byte ≡ slice_index R (2 * (at - first) + high)
    by first e less =
        let place : joined 1 high (part 0 10 at) ≡ 2 * (at - first) + high = omega arith in
        read ∙ ap shapes place ∙ same (2 * (at - first) + high) (omega arith)
