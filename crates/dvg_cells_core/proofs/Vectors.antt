-- Clocks of another reader of the Verilog, Icarus, in numbers: the cells give the same pins. ClockVectors.antt has them.
use Rattle.std.proofs.Common.{ℕ, ◌/◌, ◌%◌, ◌^◌, Bool, true, List, [], ◌∷◌}
use Rattle.std.specs.Prelude.{nat_eq, ◌&&◌, slice_index}
use Rattle.std.specs.List.{sum}
use Rattle.dvg_cells_core.specs.Core.{Core, Pins, zeros, clock, halted}
use Rattle.dvg_cells_core.specs.Core as core_pin

-- a number cut into these many bits each, the highest ones first
abbrev pub cut : (widths : List ℕ) → ℕ → List ℕ
cut [] number = []
cut (width ∷ widths) number = number / 2 ^ sum widths % 2 ^ width ∷ cut widths number

-- the bits of each pin, of those that are driven and of the others
abbrev widths : List ℕ
widths = 1 ∷ 1 ∷ 1 ∷ 1 ∷ 8 ∷ 12 ∷ 1 ∷ 1 ∷ 1 ∷ 2 ∷ 1 ∷ 21 ∷ 21 ∷ 21 ∷ 21 ∷ 4 ∷ 1 ∷ 1 ∷ 1 ∷ 1 ∷ 4 ∷ 1 ∷ 1 ∷ 10 ∷ 10 ∷ 4 ∷ []

-- the pins that are driven in a clock
abbrev pins : List ℕ → Pins
pins t = record {
  reset = slice_index t 0;
  start = slice_index t 1;
  valid = slice_index t 2;
  hole = slice_index t 3;
  din = slice_index t 4;
}

-- the pins after it
abbrev same : Core → List ℕ → Bool
same core t =
    nat_eq core.at (slice_index t 5) && (nat_eq core.high (slice_index t 6)
    && (nat_eq (halted core) (slice_index t 7) && (nat_eq core.done (slice_index t 8)
    && (nat_eq core.fault (slice_index t 9) && (nat_eq core.stroke (slice_index t 10)
    && (nat_eq core.x0 (slice_index t 11) && (nat_eq core.y0 (slice_index t 12)
    && (nat_eq core.x (slice_index t 13) && (nat_eq core.y (slice_index t 14)
    && nat_eq core.z (slice_index t 15))))))))))

-- the pins of the clock itself, with the registers after it
abbrev tells : Core → List ℕ → Bool
tells core t =
    nat_eq (core_pin.ends core (pins t)) (slice_index t 16) && (nat_eq (core_pin.jsrl core (pins t)) (slice_index t 17)
    && (nat_eq (core_pin.labs core (pins t)) (slice_index t 18) && (nat_eq (core_pin.vec core (pins t)) (slice_index t 19)
    && (nat_eq (core_pin.sum core (pins t)) (slice_index t 20) && (nat_eq (core_pin.dx_sign core (pins t)) (slice_index t 21)
    && (nat_eq (core_pin.dy_sign core (pins t)) (slice_index t 22) && (nat_eq (core_pin.dx core (pins t)) (slice_index t 23)
    && (nat_eq (core_pin.dy core (pins t)) (slice_index t 24) && nat_eq (core_pin.vec_z core (pins t)) (slice_index t 25)))))))))

abbrev pass_from : Core → List ℕ → Bool
pass_from core [] = true
pass_from core (number ∷ rest) = let t = cut widths number in let now = clock core (pins t) in same now t && (tells now t && pass_from now rest)

-- each clock of a list since power-up passes
abbrev pub all_pass : List ℕ → Bool
all_pass clocks = pass_from zeros clocks
