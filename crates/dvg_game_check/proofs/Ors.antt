-- Bits that are set one mask after the other.
use Rattle.std.proofs.Common.{◌≡◌, ℕ, zero, suc, ◌+◌, ◌*◌, ◌/◌, ◌%◌, ◌<◌, refl, sym, ◌∙◌, ap, arith, bit_or}
use Rattle.std.specs.Int.Bits.{or_shr, or_mod}
use lib.Arith.{bin_ind}

digit_assoc : (x y z : ℕ) → x < 2 → y < 2 → z < 2 → bit_or (bit_or x y) z ≡ bit_or x (bit_or y z)
digit_assoc zero y z hx hy hz = refl
digit_assoc (suc zero) zero z hx hy hz = refl
digit_assoc (suc zero) (suc zero) zero hx hy hz = refl
digit_assoc (suc zero) (suc zero) (suc zero) hx hy hz = refl
digit_assoc (suc zero) (suc zero) (suc (suc z)) hx hy hz = absurd (omega arith)
digit_assoc (suc zero) (suc (suc y)) z hx hy hz = absurd (omega arith)
digit_assoc (suc (suc x)) y z hx hy hz = absurd (omega arith)

by_digits : (a b : ℕ) → a / 2 ≡ b / 2 → a % 2 ≡ b % 2 → a ≡ b
by_digits a b hi lo = omega arith

pub or_assoc : (a b c : ℕ) → bit_or (bit_or a b) c ≡ bit_or a (bit_or b c)
or_assoc =
    bin_ind (λ (n : ℕ). (b c : ℕ) → bit_or (bit_or n b) c ≡ bit_or n (bit_or b c)) (λ b c. refl)
    (λ n ih b c. by_digits _ _
    (or_shr (bit_or n b) c 1 ∙ ap (λ (x : ℕ). bit_or x (c / 2)) (or_shr n b 1) ∙ ih (b / 2) (c / 2)
    ∙ sym (or_shr n (bit_or b c) 1 ∙ ap (bit_or (n / 2)) (or_shr b c 1)))
    (or_mod (bit_or n b) c 1 ∙ ap (λ (x : ℕ). bit_or x (c % 2)) (or_mod n b 1)
    ∙ digit_assoc (n % 2) (b % 2) (c % 2) (omega arith) (omega arith) (omega arith)
    ∙ sym (or_mod n (bit_or b c) 1 ∙ ap (bit_or (n % 2)) (or_mod b c 1))))
