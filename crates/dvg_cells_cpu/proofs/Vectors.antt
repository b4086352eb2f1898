-- Clocks of another reader of the Verilog, Icarus, in numbers: the cells give the same pins. ClockVectors.antt has them.
use Rattle.std.proofs.Common.{ℕ, Bool, true, List, [], ◌∷◌}
use Rattle.std.specs.Prelude.{nat_eq, ◌&&◌, slice_index}
use Rattle.dvg_cells_core.proofs.Vectors.{cut}
use Rattle.dvg_cells_cpu.specs.Cpu.{Cpu as Cells, Pins, zeros, clock, at, write, dout, sync}

-- the bits of each pin, of those that are driven and of the others
abbrev widths : List ℕ
widths = 1 ∷ 1 ∷ 1 ∷ 8 ∷ 16 ∷ 1 ∷ 8 ∷ 1 ∷ []

-- the pins that are driven in a clock
abbrev pins : List ℕ → Pins
pins t = record { reset = slice_index t 0; step = slice_index t 1; nmi = slice_index t 2; din = slice_index t 3 }

-- the pins after it
abbrev same : Cells → List ℕ → Bool
same cells t =
    nat_eq (at cells) (slice_index t 4) && (nat_eq (write cells) (slice_index t 5)
    && (nat_eq (dout cells) (slice_index t 6) && nat_eq (sync cells) (slice_index t 7)))

abbrev pass_from : Cells → List ℕ → Bool
pass_from cells [] = true
pass_from cells (number ∷ rest) = let t = cut widths number in let now = clock cells (pins t) in same now t && pass_from now rest

-- each clock of a list since power-up passes
abbrev pub all_pass : List ℕ → Bool
all_pass clocks = pass_from zeros clocks
