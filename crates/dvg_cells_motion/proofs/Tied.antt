-- The core, its pace and the motion tied as dvg_vectors has them, without the board: each list of clocks since power-up.
use Rattle.std.specs.Prelude.{ℕ, ◌+◌, ◌≡◌, ◌<◌, nat_le, All, List, [], ◌∷◌, ◌++◌}
use Rattle.dvg_cells_core.specs.Cells.{part, both, none, bit}
use Rattle.dvg_cells_core.specs.Core.{Core, ends, jsrl, labs, vec}
use Rattle.dvg_cells_core.specs.Core as core
use Rattle.dvg_cells_core.specs.Refines.{ArePins}
use Rattle.dvg_cells_core.specs.Refines as refines
use Rattle.dvg_cells_motion.specs.Motion.{Motion, going}
use Rattle.dvg_cells_motion.specs.Motion as motion
use Rattle.dvg_cells_motion.specs.Pace.{Pace, steps, places, hold}
use Rattle.dvg_cells_motion.specs.Pace as pace
use Rattle.dvg_cells_motion.specs.Machine.{own_ticks, vector_ticks}

-- what is driven from outside in a clock: the core's pins, and the tick
pub record Bus : Type 0 where
  pub pins : core.Pins
  pub tick : ℕ

-- the registers beside the core's
pub record Beside : Type 0 where
  pub pace : Pace
  pub motion : Motion

-- what drives the pace, and the motion
abbrev pub paced : Core → Beside → Bus → pace.Pins
paced c beside bus = record {
  tick = bus.tick;
  start = both bus.pins.start (none bus.pins.reset);
  takes = both (both bus.pins.valid (none bus.pins.reset)) (none bus.pins.start);
  ends = ends c bus.pins;
  jsrl = jsrl c bus.pins;
  labs = labs c bus.pins;
  going = going beside.motion;
}

abbrev pub driven : Core → Beside → Bus → motion.Pins
driven c beside bus = record {
  tick = steps beside.pace (paced c beside bus);
  places = places beside.pace (paced c beside bus);
  to_x = part 9 12 c.x;
  to_y = part 9 12 c.y;
  vec = vec c bus.pins;
  sum = core.sum c bus.pins;
  dx_sign = core.dx_sign c bus.pins;
  dy_sign = core.dy_sign c bus.pins;
  dx = core.dx c bus.pins;
  dy = core.dy c bus.pins;
  z = core.vec_z c bus.pins;
}

-- the clocks of the core, and it after them
abbrev pub cores : List Bus → List core.Pins
cores [] = []
cores (bus ∷ clocks) = bus.pins ∷ cores clocks

abbrev pub core_after : List Bus → Core
core_after clocks = refines.after (cores clocks)

-- the other registers after them
abbrev pub after : List Bus → Beside
after [] = record { pace = pace.zeros; motion = motion.zeros }
after (bus ∷ clocks) = record {
  pace = pace.clock (after clocks).pace (paced (core_after clocks) (after clocks) bus);
  motion = motion.clock (after clocks).motion (driven (core_after clocks) (after clocks) bus);
}

-- no vector goes, and no LABS waits for its tick
abbrev pub AtRest : Beside → Type 0
AtRest beside = (beside.motion.count ≡ beside.motion.last) × (beside.pace.placing ≡ 0)

-- the pins fit; the core is served where `hold` is low
pub record IsServed (clocks : List Bus) (bus : Bus) : Type 0 where
  pub pins : ArePins bus.pins
  pub tick : bus.tick < 2
  pub valid : bus.pins.valid ≡ 1 → hold (after clocks).pace ≡ 0

abbrev pub AreServed : List Bus → Type 0
AreServed [] = Unit {0}
AreServed (bus ∷ clocks) = IsServed clocks bus × AreServed clocks

-- a clock in which the core isn't served, reset or started
pub record IsIdle (bus : Bus) : Type 0 where
  pub tick : bus.tick < 2
  pub valid : bus.pins.valid ≡ 0
  pub reset : bus.pins.reset ≡ 0
  pub start : bus.pins.start ≡ 0

abbrev pub ticks_of : List Bus → ℕ
ticks_of [] = 0
ticks_of (bus ∷ clocks) = ticks_of clocks + bus.tick

-- after a byte `hold` is high until as many ticks and one came
abbrev pub TakesTime : Type 0
TakesTime = (clocks : List Bus) (bus : Bus) (later : List Bus) → AreServed (bus ∷ clocks) → bus.pins.valid ≡ 1 → bus.pins.reset ≡ 0
    → bus.pins.start ≡ 0 → All IsIdle later
    → (hold (after (later ++ bus ∷ clocks)).pace ≡ bit (nat_le (ticks_of later)
    (own_ticks (jsrl (core_after clocks) bus.pins) (ends (core_after clocks) bus.pins)
    + vector_ticks (vec (core_after clocks) bus.pins) (core.sum (core_after clocks) bus.pins))))
    × (pace.rests (after (later ++ bus ∷ clocks)).pace
    ≡ bit (nat_le (own_ticks (jsrl (core_after clocks) bus.pins) (ends (core_after clocks) bus.pins)) (ticks_of later)))
