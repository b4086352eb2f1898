-- Clocks of another reader of the Verilog, Icarus, in numbers: the cells give the same pins. ClockVectors.antt has them.
use Rattle.std.proofs.Common.{ℕ, ◌+◌, ◌*◌, ◌%◌, Bool, true, List, [], ◌∷◌}
use Rattle.std.specs.Prelude.{nat_eq, ◌&&◌, slice_index}
use Rattle.dvg_cells_core.specs.Core.{halted}
use Rattle.dvg_cells_core.proofs.Vectors.{cut}
use Rattle.dvg_cells_board.specs.Board.{Board, Bus, powered, clock, q, takes}
use Rattle.dvg_cells_board.specs.Board as pin

-- the bits of each pin, of those that are driven and of the others
abbrev widths : List ℕ
widths = 1 ∷ 1 ∷ 1 ∷ 1 ∷ 16 ∷ 8 ∷ 1 ∷ 8 ∷ 8 ∷ 1 ∷ 12 ∷ 1 ∷ 1 ∷ 1 ∷ 2 ∷ 1 ∷ 21 ∷ 21 ∷ 21 ∷ 21 ∷ 4 ∷ 1 ∷ 1 ∷ 1 ∷ 1 ∷ 1 ∷ 4 ∷ 1 ∷ 1 ∷ 10 ∷ 10 ∷ 4 ∷ []

-- the pins that are driven in a clock; what is undefined may be anything
abbrev bus : List ℕ → Bus
bus t = record {
  reset = slice_index t 0;
  hold = slice_index t 1;
  access = slice_index t 2;
  write = slice_index t 3;
  a = slice_index t 4;
  d = slice_index t 5;
  big = slice_index t 6;
  rom = slice_index t 7;
  undefined = 99;
}

-- the pins after it, with the same ones driven
abbrev same : Board → List ℕ → Bool
same board t =
    nat_eq (q board (bus t)) (slice_index t 8) && (nat_eq (takes board (bus t)) (slice_index t 9)
    && (nat_eq board.core.at (slice_index t 10) && (nat_eq board.core.high (slice_index t 11)
    && (nat_eq (halted board.core) (slice_index t 12) && (nat_eq board.core.done (slice_index t 13)
    && (nat_eq board.core.fault (slice_index t 14) && (nat_eq board.core.stroke (slice_index t 15)
    && (nat_eq board.core.x0 (slice_index t 16) && (nat_eq board.core.y0 (slice_index t 17)
    && (nat_eq board.core.x (slice_index t 18) && (nat_eq board.core.y (slice_index t 19)
    && nat_eq board.core.z (slice_index t 20))))))))))))

-- those of the clock itself, with the registers after it
abbrev tells : Board → List ℕ → Bool
tells board t =
    nat_eq (pin.starts board (bus t)) (slice_index t 21) && (nat_eq (pin.ends board (bus t)) (slice_index t 22)
    && (nat_eq (pin.jsrl board (bus t)) (slice_index t 23) && (nat_eq (pin.labs board (bus t)) (slice_index t 24)
    && (nat_eq (pin.vec board (bus t)) (slice_index t 25) && (nat_eq (pin.sum board (bus t)) (slice_index t 26)
    && (nat_eq (pin.dx_sign board (bus t)) (slice_index t 27) && (nat_eq (pin.dy_sign board (bus t)) (slice_index t 28)
    && (nat_eq (pin.dx board (bus t)) (slice_index t 29) && (nat_eq (pin.dy board (bus t)) (slice_index t 30)
    && nat_eq (pin.vec_z board (bus t)) (slice_index t 31))))))))))

abbrev pass_from : Board → List ℕ → Bool
pass_from board [] = true
pass_from board (number ∷ rest) = let t = cut widths number in let now = clock board (bus t) in same now t && (tells now t && pass_from now rest)

-- each clock of a list since power-up passes
abbrev pub all_pass : List ℕ → Bool
all_pass clocks = pass_from (powered (λ a. (37 * a + 11) % 256)) clocks
