-- A call that is steady up to its return comes out amid others as without them.
use Rattle.std.proofs.Common.{◌≡◌, ℕ, suc, Bool, true, refl, ap, ◌∙◌}
use Rattle.std.specs.Prelude.{nat_eq, ◌&&◌}
use Rattle.dvg_calls_6502.specs.Processor.{Cpu, run, at_return}
use Rattle.dvg_calls_6502.specs.Amid.{ComesOut, CameOut, amid, guards, is_kept, are_steady, is_code}
use Rattle.dvg_calls_6502.proofs.AmidRun.{came_out}
use Rattle.dvg_calls_6502.proofs.Steady.{steady_all, code_kept, last_kept}
use Rattle.std.proofs.lemmas.Bool.{or_left as left_true}

pub comes_out : (kept : ℕ → Bool) (cpu : Cpu) (steps : ℕ) → ((b : ℕ) → is_code b ≡ true → kept b ≡ true)
    → at_return cpu.s (run cpu.s steps cpu) ≡ true → are_steady kept cpu.s steps cpu ≡ true
    → is_code (run cpu.s steps cpu).pc ≡ true → ComesOut (guards kept cpu.s) cpu
comes_out kept cpu steps code back steady there n others harmless = (same, returned)
  where
    all : (k : ℕ) → are_steady kept cpu.s k cpu ≡ true
    all k = steady_all kept cpu.s steps k cpu steady back (code (run cpu.s steps cpu).pc there)

    pl : Cpu
    pl = run cpu.s n cpu

    same : CameOut (guards kept cpu.s) pl (amid cpu.s others n cpu)
    same = came_out kept cpu.s n cpu cpu.mem others (λ b is. refl) (all n) harmless

    returned : at_return cpu.s (amid cpu.s others n cpu) ≡ at_return cpu.s pl
    returned = ap (at_return cpu.s) same.same
        ∙ ap (λ b. nat_eq b 0x60 && nat_eq pl.s cpu.s)
        (same.keeps pl.pc (left_true (kept pl.pc) _ (last_kept kept cpu.s n cpu (all (suc n)))))

pub alike_if : (cpu : Cpu) (steps : ℕ) → at_return cpu.s (run cpu.s steps cpu) ≡ true
    → ((tables : ℕ → Bool) → are_steady (is_kept tables) cpu.s steps cpu ≡ true) → is_code (run cpu.s steps cpu).pc ≡ true
    → (also : ℕ → Bool) → ComesOut (guards (is_kept also) cpu.s) cpu
alike_if cpu steps back steady there also =
    comes_out (is_kept also) cpu steps (code_kept also) back (steady also) there

-- up to its end a call leaves byte 001 as it is, and takes guarded bytes alone
pub record Keeping (cpu : Cpu) (steps : ℕ) : Type 0 where
  pub byte1 : (run cpu.s steps cpu).mem 0x4001 ≡ cpu.mem 0x4001
  pub steady : (tables : ℕ → Bool) → are_steady (is_kept tables) cpu.s steps cpu ≡ true
  pub there : is_code (run cpu.s steps cpu).pc ≡ true
