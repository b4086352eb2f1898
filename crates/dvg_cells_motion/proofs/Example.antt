-- The examples are computed.
use Rattle.std.proofs.Common.{ℕ, zero, suc, ◌<◌, Bool, true, false, List, [], ◌∷◌, refl, arith}
use Rattle.std.specs.Prelude.{nat_eq, if◌then◌else◌, All}
use Rattle.std.proofs.lemmas.List.Elements.{All-cons, All-nil}
use Rattle.dvg_cells_motion.specs.Machine.{IsBus, HasBytes}
use Rattle.dvg_cells_motion.specs.Times.{AtOnce}
use Rattle.dvg_cells_motion.specs.Vectors.{Bus}
use Rattle.dvg_cells_motion.specs.Example.{some_held, idle, strobe, and_ticks, SomeMotion, halt_held, started, SomePicture}

bytes : HasBytes some_held
bytes a = by (nat_eq a 3)
  where
    by : (b : Bool) → (if b then 0x72 else 0) < 256
    by true = omega arith
    by false = omega arith

is_idle : (tick : ℕ) → tick < 2 → IsBus (idle tick)
is_idle tick small = record { tick = small; reset = omega arith; d = omega arith; rom = omega arith }

is_strobe : IsBus strobe
is_strobe = record { tick = omega arith; reset = omega arith; d = omega arith; rom = omega arith }

are_ticks : (n : ℕ) (clocks : List Bus) → All IsBus clocks → All IsBus (and_ticks n clocks)
are_ticks zero clocks all = all
are_ticks (suc n) clocks all =
    let still = is_idle 0 (omega arith) in
    All-cons IsBus (idle 1) (idle 0 ∷ idle 0 ∷ idle 0 ∷ and_ticks n clocks) (is_idle 1 (omega arith))
    (All-cons IsBus (idle 0) (idle 0 ∷ idle 0 ∷ and_ticks n clocks) still
    (All-cons IsBus (idle 0) (idle 0 ∷ and_ticks n clocks) still
    (All-cons IsBus (idle 0) (and_ticks n clocks) still (are_ticks n clocks all))))

pub some_motion_law : SomeMotion
some_motion_law = (bytes, are_ticks 9 (strobe ∷ []) (All-cons IsBus strobe [] is_strobe (All-nil IsBus)), (refl, refl), refl)

halt_bytes : HasBytes halt_held
halt_bytes a = by (nat_eq a 1)
  where
    by : (b : Bool) → (if b then 0xB0 else 0) < 256
    by true = omega arith
    by false = omega arith

once : (n : ℕ) → AtOnce (and_ticks n [])
once zero = tt
once (suc n) =
    (λ e. absurd (omega arith), λ e. absurd (omega arith), (λ e. (refl, refl), λ e. refl, (λ e. (refl, refl), λ e. refl, (λ e. (refl, refl), λ e. refl, once n))))

pub some_picture_law : SomePicture
some_picture_law = (
  halt_bytes,
  are_ticks 4 started (All-cons IsBus (idle 0) (strobe ∷ []) (is_idle 0 (omega arith)) (All-cons IsBus strobe [] is_strobe (All-nil IsBus))),
  refl,
  refl,
  (refl, refl, refl, (refl, refl, refl, (refl, refl, refl, (refl, refl, refl, (refl, refl, refl, (refl, refl, refl, (refl, refl, refl, (refl, refl, refl, (refl, refl, refl, (refl, refl, refl, (refl, refl, refl, (refl, refl, refl, (refl, refl, refl, (refl, refl, refl, (refl, refl, refl, (refl, refl, refl, tt)))))))))))))))),
  refl,
  once 4,
  refl,
)
