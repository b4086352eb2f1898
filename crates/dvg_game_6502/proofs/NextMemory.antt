-- A call goes on with a memory that its next step finds.
use Rattle.std.proofs.Common.{◌≡◌, ℕ, zero, suc, true, refl}
use Rattle.dvg_calls_6502.specs.Processor.{Cpu, turn}
use Rattle.dvg_calls_6502.specs.Amid.{Guard, AreHarmless, amid, changed}

-- others as before for this many steps, and then this memory
abbrev pub and_then : ℕ → (ℕ → ℕ → ℕ) → (ℕ → ℕ) → ℕ → ℕ → ℕ
and_then zero others m k = m
and_then (suc n) others m zero = others zero
and_then (suc n) others m (suc k) = and_then n (λ j. others (suc j)) m k

pub grows : (s : ℕ) (n : ℕ) (others : ℕ → ℕ → ℕ) (m : ℕ → ℕ) (cpu : Cpu)
    → amid s (and_then n others m) (suc n) cpu ≡ turn s (changed m (amid s others n cpu))
grows s zero others m cpu = refl
grows s (suc n) others m cpu = grows s n (λ j. others (suc j)) m (turn s (changed (others 0) cpu))

pub spared : (guard : Guard) (s : ℕ) (n : ℕ) (others : ℕ → ℕ → ℕ) (m : ℕ → ℕ) (cpu : Cpu)
    → AreHarmless guard s others n cpu
    → ((b : ℕ) → guard (amid s others n cpu).s b ≡ true → m b ≡ (amid s others n cpu).mem b)
    → AreHarmless guard s (and_then n others m) (suc n) cpu
spared guard s zero others m cpu harmless same = (same, tt)
spared guard s (suc n) others m cpu harmless same =
    (harmless.0, spared guard s n (λ j. others (suc j)) m (turn s (changed (others 0) cpu)) harmless.1 same)
