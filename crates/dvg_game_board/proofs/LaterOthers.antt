-- A call goes on, whatever others do after it: its first steps rest on what they did before them.
use Rattle.std.proofs.Common.{◌≡◌, ℕ, zero, suc, ◌+◌, ◌<◌, refl, sym, ap, ◌∙◌, subst, arith}
use Rattle.dvg_calls_6502.specs.Processor.{Cpu, turn}
use Rattle.dvg_calls_6502.specs.Amid.{Guard, AreHarmless, amid, changed}
use Rattle.dvg_game_6502.proofs.NextMemory.{and_then}

-- others that do the same before the first steps
abbrev pub Alike : ℕ → (ℕ → ℕ → ℕ) → (ℕ → ℕ → ℕ) → Type 0
Alike n one two = (k : ℕ) → k < n → one k ≡ two k

pub amid_alike : (s n : ℕ) (one two : ℕ → ℕ → ℕ) (cpu : Cpu) → Alike n one two → amid s one n cpu ≡ amid s two n cpu
amid_alike s zero one two cpu same = refl
amid_alike s (suc n) one two cpu same =
    ap (λ m. amid s (λ k. one (suc k)) n (turn s (changed m cpu))) (same 0 (omega arith))
    ∙ amid_alike s n (λ k. one (suc k)) (λ k. two (suc k)) (turn s (changed (two 0) cpu))
    (λ k less. same (suc k) (omega (arith, less)))

pub harmless_alike : (guard : Guard) (s n : ℕ) (one two : ℕ → ℕ → ℕ) (cpu : Cpu) → Alike n one two
    → AreHarmless guard s one n cpu → AreHarmless guard s two n cpu
harmless_alike guard s zero one two cpu same harmless = tt
harmless_alike guard s (suc n) one two cpu same harmless = (
  (λ b is. ap (λ (m : ℕ → ℕ). m b) (sym (same 0 (omega arith))) ∙ harmless.0 b is),
  subst (λ m. AreHarmless guard s (λ k. two (suc k)) n (turn s (changed m cpu))) (same 0 (omega arith))
      (harmless_alike guard s n (λ k. one (suc k)) (λ k. two (suc k)) (turn s (changed (one 0) cpu))
      (λ k less. same (suc k) (omega (arith, less))) harmless.1),
)

-- what was harmless before the first steps
pub harmless_first : (guard : Guard) (s n rest : ℕ) (others : ℕ → ℕ → ℕ) (cpu : Cpu)
    → AreHarmless guard s others (rest + n) cpu → AreHarmless guard s others n cpu
harmless_first guard s zero rest others cpu harmless = tt
harmless_first guard s (suc n) rest others cpu harmless =
    let more : AreHarmless guard s others (suc (rest + n)) cpu =
    subst (λ k. AreHarmless guard s others k cpu) (let e : rest + suc n ≡ suc (rest + n) = omega arith in e) harmless in
    (more.0, harmless_first guard s n rest (λ k. others (suc k)) (turn s (changed (others 0) cpu)) more.1)

pub then_alike : (n : ℕ) (others : ℕ → ℕ → ℕ) (m : ℕ → ℕ) → Alike n others (and_then n others m)
then_alike zero others m k less = absurd (omega (arith, less))
then_alike (suc n) others m zero less = refl
then_alike (suc n) others m (suc k) less = then_alike n (λ j. others (suc j)) m k (omega (arith, less))
