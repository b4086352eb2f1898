-- Calls that take guarded bytes alone, over any number of steps.
use Rattle.std.proofs.Common.{◌≡◌, ℕ, zero, suc, inl, inr, ◌+◌, ◌%◌, Bool, true, false, not, refl, sym, ap, ◌∙◌, arith, eq-eqb}
use Rattle.std.specs.Prelude.{nat_eq, ◌&&◌, ◌||◌}
use Rattle.std.proofs.lemmas.Bool.{or_left}
use Rattle.dvg_calls_6502.specs.Processor.{Cpu, run, turn, at_return, decoded, opcodes, stack_place}
use Rattle.dvg_calls_6502.specs.Board.{is_own, is_readable}
use Rattle.dvg_calls_6502.specs.Amid.{is_work, is_kept, is_code, is_steady, are_steady, guards, all_in, goes_home, touches}
use Rattle.dvg_calls_6502.proofs.ProcessorRuns.{steady_more, and_true}
use Rattle.dvg_calls_6502.proofs.Memory.{both_true}
use Rattle.dvg_calls_6502.proofs.LogsGrow.{Splits, split, stays}

-- the code is kept
pub code_kept : (tables : ℕ → Bool) (b : ℕ) → is_code b ≡ true → is_kept tables b ≡ true
code_kept tables b is = by (is_own b) (is_work b) (is_code b) (is_readable b || tables b) is
  where
    by : (o f c t : Bool) → c ≡ true → (o || (f || (c || t))) ≡ true
    by true f c t is = refl
    by false true c t is = refl
    by false false true t is = refl
    by false false false t is = absurd (cc)

-- the beginning of what is steady
pub steady_part : (kept : ℕ → Bool) (s k n : ℕ) (cpu : Cpu) → are_steady kept s (n + k) cpu ≡ true
    → are_steady kept s k cpu ≡ true
steady_part kept s zero n cpu is = refl
steady_part kept s (suc k) n cpu is =
    let e : n + suc k ≡ suc (n + k) = omega arith in
    let two = both_true (is_steady kept s cpu) (are_steady kept s (n + k) (turn s cpu))
    (sym (ap (λ j. are_steady kept s j cpu) e) ∙ is) in
    and_true (is_steady kept s cpu) (are_steady kept s k (turn s cpu)) two.0 (steady_part kept s k n (turn s cpu) two.1)

-- at its return a call takes its opcode alone
returned : (kept : ℕ → Bool) (s k : ℕ) (cpu : Cpu) → at_return s cpu ≡ true → kept cpu.pc ≡ true
    → are_steady kept s k cpu ≡ true
returned kept s zero cpu here pc = refl
returned kept s (suc k) cpu here pc =
    and_true (is_steady kept s cpu) (are_steady kept s k (turn s cpu))
    (and_true (kept cpu.pc) _ pc (or_left (at_return s cpu) _ here))
    (ap (are_steady kept s k) (stays s 1 cpu here) ∙ returned kept s k cpu here pc)

-- a call that is steady up to its return is steady
pub steady_all : (kept : ℕ → Bool) (s n k : ℕ) (cpu : Cpu) → are_steady kept s n cpu ≡ true
    → at_return s (run s n cpu) ≡ true → kept (run s n cpu).pc ≡ true → are_steady kept s k cpu ≡ true
steady_all kept s n k cpu is here pc = by (split k n)
  where
    by : Splits k n → are_steady kept s k cpu ≡ true
    by (inl less) = steady_part kept s k less.0 cpu (sym (ap (λ j. are_steady kept s j cpu) less.1) ∙ is)
    by (inr above) = ap (λ j. are_steady kept s j cpu) above.1
        ∙ steady_more kept s n above.0 cpu is (returned kept s above.0 (run s n cpu) here pc)

-- a stretch that is steady, and what is steady after it
pub steady_on : (kept : ℕ → Bool) (s n k : ℕ) (cpu : Cpu) → are_steady kept s n cpu ≡ true
    → ((j : ℕ) → k ≡ j + n → are_steady kept s j (run s n cpu) ≡ true) → are_steady kept s k cpu ≡ true
steady_on kept s n k cpu is rest = by (split k n)
  where
    by : Splits k n → are_steady kept s k cpu ≡ true
    by (inl less) = steady_part kept s k less.0 cpu (sym (ap (λ j. are_steady kept s j cpu) less.1) ∙ is)
    by (inr above) = ap (λ j. are_steady kept s j cpu) above.1
        ∙ steady_more kept s n above.0 cpu is (rest above.0 above.1)

-- a return within a call takes its return address
rest_of : (kept : ℕ → Bool) (s : ℕ) (cpu : Cpu) → ℕ → Bool
rest_of kept s cpu b = let instr = decoded opcodes b in (nat_eq b 0x60 && nat_eq cpu.s s)
    || (all_in (guards kept s cpu.s) (touches instr cpu) && goes_home s instr cpu)

pub rts_steady : (kept : ℕ → Bool) (s : ℕ) (cpu : Cpu) → kept cpu.pc ≡ true → cpu.mem cpu.pc ≡ 0x60
    → nat_eq cpu.s s ≡ false → nat_eq ((cpu.s + 2) % 256) s ≡ true → is_steady kept s cpu ≡ true
unfolding rest_of
rts_steady kept s cpu pc opcode inner home =
    and_true (kept cpu.pc) (rest_of kept s cpu (cpu.mem cpu.pc)) pc (ap (rest_of kept s cpu) opcode
    ∙ all (nat_eq cpu.s s) (kept (stack_place (cpu.s + 1))) (kept (stack_place (cpu.s + 2)))
    (nat_eq (stack_place (cpu.s + 1)) (stack_place (cpu.s + 1)))
    (nat_eq (stack_place (cpu.s + 1)) (stack_place (cpu.s + 2)))
    (nat_eq (stack_place (cpu.s + 2)) (stack_place (cpu.s + 1)))
    (nat_eq (stack_place (cpu.s + 2)) (stack_place (cpu.s + 2))) (nat_eq ((cpu.s + 2) % 256) s) inner
    (eq-eqb (stack_place (cpu.s + 1)) (stack_place (cpu.s + 1)) refl)
    (eq-eqb (stack_place (cpu.s + 2)) (stack_place (cpu.s + 2)) refl) home)
  where
    all : (t k l e f g h o : Bool) → t ≡ false → e ≡ true → h ≡ true → o ≡ true
        → (t || (((k || (not t && (e || f))) && ((l || (not t && (g || h))) && true)) && o)) ≡ true
    all false true true true f g true true a b c d = refl
    all false true false true f true true true a b c d = refl
    all false true false true f false true true a b c d = refl
    all false false true true f g true true a b c d = refl
    all false false false true f true true true a b c d = refl
    all false false false true f false true true a b c d = refl
    all true k l e f g h o a b c d = absurd (cc)
    all false k l false f g h o a b c d = absurd (cc)
    all false k l true f g false o a b c d = absurd (cc)
    all false k l true f g true false a b c d = absurd (cc)

-- the code is taken at each step
pub last_kept : (kept : ℕ → Bool) (s n : ℕ) (cpu : Cpu) → are_steady kept s (suc n) cpu ≡ true
    → kept (run s n cpu).pc ≡ true
last_kept kept s zero cpu is = (both_true (kept cpu.pc) _ (both_true (is_steady kept s cpu) true is).0).0
last_kept kept s (suc n) cpu is =
    last_kept kept s n (turn s cpu) (both_true (is_steady kept s cpu) (are_steady kept s (suc n) (turn s cpu)) is).1
