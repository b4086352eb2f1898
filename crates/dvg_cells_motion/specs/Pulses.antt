-- The pulses of a rate multiplier, where they lead, and that the motion goes by them.
use Rattle.std.specs.Prelude.{ℕ, zero, suc, ◌+◌, ◌-◌, ◌*◌, ◌/◌, ◌^◌, ◌%◌, ◌≡◌, ◌<◌, ◌≤◌, pos, ◌*ℤ◌, List, [], ◌∷◌, Bool, true, false, All, nat_eq, nat_lt, if◌then◌else◌}
use Rattle.dvg_code.specs.Fields.{signed}
use Rattle.dvg_code.specs.Ranges.{InRange}
use Rattle.dvg_code.specs.declared.instr.Instr.TheVariants.{Vctr, Svec}
use Rattle.dvg_gen.specs.declared.beam.Beam.{Beam}
use Rattle.dvg_gen.specs.declared.counters.Counters.{Counters}
use Rattle.dvg_gen.specs.Counting.{whole, stepped, followed_all}
use Rattle.dvg_gen.specs.Drawing.{unit}
use Rattle.dvg_gen.specs.Moving.{made}
use Rattle.dvg_gen.specs.Position.{IsBeam}
use Rattle.dvg_cells_core.specs.Cells.{mux, part, bit, some}
use Rattle.dvg_cells_motion.specs.Motion.{Motion, Pins, zeros, clock, going, dac_x, dac_y, lit, shown_z}

-- a binary rate multiplier: if bit k is the lowest 0 of the count, bit 9 - k of the rate; else 0
abbrev pub pulse : ℕ → ℕ → ℕ
pulse rate count =
    mux (part 0 1 count) (mux (part 1 1 count) (mux (part 2 1 count) (mux (part 3 1 count) (mux (part 4 1 count)
    (mux (part 5 1 count) (mux (part 6 1 count) (mux (part 7 1 count) (mux (part 8 1 count) (mux (part 9 1 count)
    0 (part 0 1 rate)) (part 1 1 rate)) (part 2 1 rate)) (part 3 1 rate)) (part 4 1 rate)) (part 5 1 rate))
    (part 6 1 rate)) (part 7 1 rate)) (part 8 1 rate)) (part 9 1 rate)

-- how many pulses came before a count
abbrev pub pulses : ℕ → ℕ → ℕ
pulses rate zero = 0
pulses rate (suc count) = pulses rate count + pulse rate count

-- in the ticks of a vector there are as many as it moves, in whole units
abbrev pub PulsesAre : Type 0
PulsesAre = (rate scale : ℕ) → rate < 1024 → scale < 10
    → pulses rate (2 * 2 ^ scale) ≡ whole (rate * 2 ^ scale)

-- a counter of twelve bits, so many pulses on, or back where the sign is 1
abbrev pub led : ℕ → ℕ → ℕ → ℕ
led from zero count = (from + count) % 4096
led from (suc sign) count = (from + (4096 - count % 4096)) % 4096

-- a clock in which no vector begins and no LABS is placed
pub record IsQuiet (pins : Pins) : Type 0 where
  pub tick : pins.tick < 2
  pub places : pins.places ≡ 0
  pub vec : pins.vec ≡ 0

-- those of a clock in which a vector begins, of fields that fit
pub record IsVector (pins : Pins) : Type 0 where
  pub places : pins.places ≡ 0
  pub vec : pins.vec ≡ 1
  pub sum : pins.sum < 16
  pub dx_sign : pins.dx_sign < 2
  pub dy_sign : pins.dy_sign < 2
  pub dx : pins.dx < 1024
  pub dy : pins.dy < 1024

-- the motion after these clocks, the newest first
abbrev pub after : Motion → List Pins → Motion
after motion [] = motion
after motion (pins ∷ clocks) = clock (after motion clocks) pins

-- in how many of them `tick` was high
abbrev pub ticks : List Pins → ℕ
ticks [] = 0
ticks (pins ∷ clocks) = ticks clocks + pins.tick

-- how long a vector takes, in ticks
abbrev pub time : ℕ → ℕ
time sum = 2 * unit sum

-- ticks, as far as they are of the vector
abbrev pub within : ℕ → ℕ → ℕ
within last count = if nat_lt count last then count else last

-- the two counters
abbrev pub counters_of : Motion → Counters
counters_of motion = record { x = motion.x; y = motion.y }

-- they have twelve bits
abbrev pub Fits : Motion → Type 0
Fits motion = (motion.x < 4096) × (motion.y < 4096)

-- the motion some clocks after a vector was told
abbrev pub moved : Motion → Pins → List Pins → Motion
moved motion pins clocks = after (clock motion pins) clocks

-- it is where the pulses so far lead, and goes on exactly while fewer ticks came than the vector has
abbrev pub GoesByPulses : Type 0
GoesByPulses = (motion : Motion) (pins : Pins) (clocks : List Pins) → Fits motion → IsVector pins → All IsQuiet clocks
    → (counters_of (moved motion pins clocks) ≡ record {
      x = led motion.x pins.dx_sign (pulses pins.dx (within (time pins.sum) (ticks clocks)));
      y = led motion.y pins.dy_sign (pulses pins.dy (within (time pins.sum) (ticks clocks)));
    }) × (going (moved motion pins clocks) ≡ bit (nat_lt (ticks clocks) (time pins.sum)))

-- once its ticks are over, the counters are stepped on by the signed magnitudes times the unit of the scale
abbrev pub MovesRight : Type 0
MovesRight = (motion : Motion) (pins : Pins) (clocks : List Pins) → Fits motion → IsVector pins → All IsQuiet clocks
    → time pins.sum ≤ ticks clocks
    → counters_of (moved motion pins clocks) ≡ stepped (counters_of motion)
    (signed pins.dx_sign pins.dx *ℤ pos (unit pins.sum)) (signed pins.dy_sign pins.dy *ℤ pos (unit pins.sum))

-- so they follow the move of a VCTR, from wherever the exact beam is
abbrev pub FollowsVctr : Type 0
FollowsVctr = (motion : Motion) (pins : Pins) (clocks : List Pins) → Fits motion → IsVector pins → All IsQuiet clocks
    → time pins.sum ≤ ticks clocks
    → (beam : Beam) (address local z : ℕ) → IsBeam beam.x beam.y beam.scale → pins.sum ≡ (beam.scale + local) % 16
    → InRange (Vctr local (signed pins.dx_sign pins.dx) (signed pins.dy_sign pins.dy) z)
    → counters_of (moved motion pins clocks) ≡ followed_all (counters_of motion)
    (made beam address (Vctr local (signed pins.dx_sign pins.dx) (signed pins.dy_sign pins.dy) z))

-- the same of an SVEC, whose magnitudes are told times 256
abbrev pub FollowsSvec : Type 0
FollowsSvec = (motion : Motion) (pins : Pins) (clocks : List Pins) → Fits motion → IsVector pins → All IsQuiet clocks
    → time pins.sum ≤ ticks clocks
    → (beam : Beam) (address local z dx dy : ℕ) → IsBeam beam.x beam.y beam.scale → pins.sum ≡ (beam.scale + local) % 16
    → pins.dx ≡ 256 * dx → pins.dy ≡ 256 * dy
    → InRange (Svec local (signed pins.dx_sign dx) (signed pins.dy_sign dy) z)
    → counters_of (moved motion pins clocks) ≡ followed_all (counters_of motion)
    (made beam address (Svec local (signed pins.dx_sign dx) (signed pins.dy_sign dy) z))

-- a LABS sets them
abbrev pub Places : Type 0
Places = (motion : Motion) (pins : Pins) → pins.places ≡ 1
    → counters_of (clock motion pins) ≡ record { x = pins.to_x; y = pins.to_y }

-- the intensity that is shown: that of a vector that goes, where bit 10 of both counters is 0
abbrev pub visible : Bool → ℕ → ℕ → ℕ → ℕ
visible false x y z = 0
visible true x y z = if nat_eq (x / 1024 % 2) 0 then if nat_eq (y / 1024 % 2) 0 then z else 0 else 0

-- what the monitor gets: ten bits of each counter and, until the vector's last tick, its intensity
-- where bit 10 of both counters is 0; `lit` is high where that intensity isn't 0
abbrev pub Shows : Type 0
Shows = (motion : Motion) (pins : Pins) (clocks : List Pins) → Fits motion → IsVector pins → All IsQuiet clocks
    → (dac_x (moved motion pins clocks) ≡ (moved motion pins clocks).x % 1024)
    × (dac_y (moved motion pins clocks) ≡ (moved motion pins clocks).y % 1024)
    × (shown_z (moved motion pins clocks) ≡ visible (nat_lt (ticks clocks) (time pins.sum)) (moved motion pins clocks).x (moved motion pins clocks).y pins.z)
    × (lit (moved motion pins clocks) ≡ some (shown_z (moved motion pins clocks)))

-- where no vector goes it is dark, and none begins but by `vec`: so it is dark from power-up on, at a LABS and after it
abbrev pub StaysDark : Type 0
StaysDark = (motion : Motion) (pins : Pins) → going motion ≡ 0
    → (shown_z motion ≡ 0) × (lit motion ≡ 0) × (going zeros ≡ 0) × (pins.vec ≡ 0 → going (clock motion pins) ≡ 0)

-- in each state the DACs have the lower ten bits of the counters
abbrev pub DacsShow : Type 0
DacsShow = (motion : Motion) → Fits motion → (dac_x motion ≡ motion.x % 1024) × (dac_y motion ≡ motion.y % 1024)
