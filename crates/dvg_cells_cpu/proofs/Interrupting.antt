-- An NMI, and a reset.
use Rattle.std.proofs.Common.{◌≡◌, ℕ, zero, suc, ◌+◌, ◌*◌, ◌/◌, ◌%◌, ◌<◌, Bool, true, false, [], ◌∷◌, refl, sym, ap, ◌∙◌, subst, arith}
use Rattle.std.specs.Prelude.{nat_eq, if◌then◌else◌, ◌&&◌}
use Rattle.dvg_calls_6502.specs.Processor.{Cpu, Reads, Writes, found, flags_byte, stack_place}
use Rattle.dvg_cells_core.specs.Cells.{both, either, none, bit}
use Rattle.dvg_cells_cpu.specs.Refines.{AreAnswered, IsSound, got}
use Rattle.dvg_cells_cpu.specs.Interrupts.{Interrupts, CpuInterrupts, CpuHears, ResetKeeps, Restarts, CpuRestarts, PowersUp}
use Rattle.dvg_cells_cpu.proofs.Lists.{two, five}
use Rattle.dvg_cells_cpu.proofs.Resting.{cy, in_state, held}
use Rattle.dvg_cells_cpu.proofs.Sums.{flags_is, whole}

module _ (cpu : Cpu) (ir low high back was : ℕ) (sound : IsSound cpu) where
  s_is : (((cpu.s + 255) % 256 + 255) % 256 + 255) % 256 ≡ (cpu.s + 253) % 256
  s_is = omega arith

  one : cpu.s + 256 ≡ stack_place cpu.s
  one = let less = sound.s in omega arith

  two_down : (cpu.s + 255) % 256 + 256 ≡ stack_place (cpu.s + 255)
  two_down = omega arith

  three_down : ((cpu.s + 255) % 256 + 255) % 256 + 256 ≡ stack_place (cpu.s + 254)
  three_down = omega arith

  low_is : cpu.pc / 1 % 256 ≡ cpu.pc % 256
  low_is = whole cpu.pc 256

  high_is : cpu.pc / 256 % 256 ≡ cpu.pc / 256
  high_is = let less = sound.pc in omega arith

  enters : (m0 m1 m2 m3 m4 d0 d1 d2 d3 d4 : ℕ) → d3 ≡ found 0xFFFA cpu → d4 ≡ found 0xFFFB cpu
      → Interrupts cpu (in_state 2 cpu ir low high back was 1) (cy m0 d0 ∷ cy m1 d1 ∷ cy m2 d2 ∷ cy m3 d3 ∷ cy m4 d4 ∷ [])
  enters m0 m1 m2 m3 m4 d0 d1 d2 d3 d4 e3 e4 =
      let p0 = one in let p1 = two_down in let p2 = three_down in let l = low_is in let h = high_is in
      let f = flags_is cpu false in record {
        rests = record {
          holds = record {
            a = refl;
            x = refl;
            y = refl;
            s = s_is;
            pc = ap (λ l. l + 256 * d4) e3 ∙ ap (λ h. cpu.mem 0xFFFA + 256 * h) e4;
            n = refl;
            z = refl;
            c = refl;
            v = refl;
            d = refl;
            i = refl;
          };
          fetches = refl;
        };
        news = Writes (stack_place (cpu.s + 254)) (flags_byte false cpu) ∷ Writes (stack_place (cpu.s + 255)) (cpu.pc % 256)
            ∷ Writes (stack_place cpu.s) (cpu.pc / 256) ∷ [];
        log = refl;
        bus = cc;
        memory = refl;
        opcode = (refl, (refl, (refl, (refl, (refl, tt)))));
      }

pub interrupts : CpuInterrupts
interrupts cpu cells list sound rests due count answered =
    let is = held 2 cells cpu 1 rests.holds rests.fetches due in
    let old = in_state 2 cpu cells.ir cells.low cells.high cells.back cells.was 1 in
    subst (λ k. Interrupts cpu k list) (sym is)
    (five (λ list. AreAnswered cpu old list → Interrupts cpu old list)
    (λ c0 c1 c2 c3 c4 answered. enters cpu cells.ir cells.low cells.high cells.back cells.was sound c0.nmi c1.nmi c2.nmi c3.nmi
    c4.nmi c0.din c1.din c2.din c3.din c4.din answered.1.1.1.0 answered.1.1.1.1.0)
    list count (subst (λ k. AreAnswered cpu k list) is answered))

pub reset_keeps : ResetKeeps
reset_keeps cells step nmi din = refl

restarts_at : (cpu : Cpu) (ir low high back was due m0 m1 d0 d1 : ℕ) → d0 ≡ cpu.mem 0xFFFC → d1 ≡ cpu.mem 0xFFFD
    → Restarts cpu (in_state 0 cpu ir low high back was due) (cy m0 d0 ∷ cy m1 d1 ∷ [])
restarts_at cpu ir low high back was due m0 m1 d0 d1 e0 e1 = record {
  rests = record {
    holds = record {
      a = refl;
      x = refl;
      y = refl;
      s = refl;
      pc = ap (λ l. l + 256 * d1) e0 ∙ ap (λ h. cpu.mem 0xFFFC + 256 * h) e1;
      n = refl;
      z = refl;
      c = refl;
      v = refl;
      d = refl;
      i = refl;
    };
    fetches = refl;
  };
  bus = ap (λ b. Reads 0xFFFD b ∷ Reads 0xFFFC d0 ∷ []) e1 ∙ ap (λ b. got cpu 0xFFFD ∷ Reads 0xFFFC b ∷ []) e0;
  opcode = (refl, (refl, tt));
}

pub restarts : CpuRestarts
restarts cpu cells list holds begins count answered =
    let is = held 0 cells cpu cells.due holds begins refl in
    let old = in_state 0 cpu cells.ir cells.low cells.high cells.back cells.was cells.due in
    subst (λ k. Restarts cpu k list) (sym is)
    (two (λ list. AreAnswered cpu old list → Restarts cpu old list)
    (λ c0 c1 answered. restarts_at cpu cells.ir cells.low cells.high cells.back cells.was cells.due c0.nmi c1.nmi c0.din c1.din
    answered.0 answered.1.0)
    list count (subst (λ k. AreAnswered cpu k list) is answered))

pub powers_up : PowersUp
powers_up = refl

if_same : (b : Bool) → ◌≡◌ {A = ℕ} 0 (if b then 0 else 0)
if_same true = refl
if_same false = refl

-- what makes an NMI due, by trial
hears_at : (b : Bool) (was due nmi : ℕ) → was < 2 → due < 2 → nmi < 2
    → either (both nmi (none was)) (both due (none (both (bit b) due)))
    ≡ (if nat_eq nmi 1 && nat_eq was 0 then 1 else if b then 0 else due)
hears_at b zero zero zero p q r = if_same b
hears_at b zero zero (suc zero) p q r = refl
hears_at true zero (suc zero) zero p q r = refl
hears_at false zero (suc zero) zero p q r = refl
hears_at true zero (suc zero) (suc zero) p q r = refl
hears_at false zero (suc zero) (suc zero) p q r = refl
hears_at b (suc zero) zero zero p q r = if_same b
hears_at b (suc zero) zero (suc zero) p q r = if_same b
hears_at true (suc zero) (suc zero) zero p q r = refl
hears_at false (suc zero) (suc zero) zero p q r = refl
hears_at true (suc zero) (suc zero) (suc zero) p q r = refl
hears_at false (suc zero) (suc zero) (suc zero) p q r = refl
hears_at b (suc (suc n)) due nmi p q r = absurd (omega arith)
hears_at b was (suc (suc n)) nmi p q r = absurd (omega arith)
hears_at b was due (suc (suc n)) p q r = absurd (omega arith)

pub hears : CpuHears
hears cells cycle p q r = (refl, hears_at (nat_eq cells.state 2) cells.was cells.due cycle.nmi p q r)
