-- The ticks that write nothing of a table, as the code does them.
use Rattle.std.proofs.Common.{◌≡◌, ℕ, suc, ◌+◌, ◌%◌, Bool, true, false, List, [], ◌∷◌, refl, ap, ◌∙◌, arith}
use Rattle.std.specs.Prelude.{nat_eq, nat_le, bit_and, bit_xor}
use Rattle.dvg_calls_6502.specs.Processor.{Cpu, Access, Reads, Writes, put}
use Rattle.dvg_calls_6502.specs.Board.{seen}
use Rattle.dvg_calls_6502.proofs.ProcessorRuns.{Ends, on, at, ends}
use Rattle.dvg_calls_6502.proofs.Memory.{laid, page_of, put_page, put_out}

module _ (q a x y s : ℕ) (n z c v d i : Bool) (free publish next t0 t1 pages end second f0 f1 : ℕ) (mem flags : ℕ
    → ℕ) (log : List Access) where
  abbrev from : ℕ → Cpu
  from phase = at 0x686A a x y s n z c v d i (laid (page_of phase free publish next t0 t1 pages end second f0 f1) mem)
      flags log

  abbrev bytes : ℕ → ℕ → ℕ → List ℕ
  bytes phase free publish = page_of phase free publish next t0 t1 pages end second f0 f1

  abbrev page : ℕ → ℕ → ℕ → ℕ → ℕ
  page phase free publish = laid (page_of phase free publish next t0 t1 pages end second f0 f1) mem

  pub start : Ends q (from 0) s (page 1 (bit_xor (bit_and (mem 0x4001) 2) 0xE2) publish)
      (Reads 0x4001 (mem 0x4001) ∷ seen log) []
  start = let f = bit_xor (bit_and (mem 0x4001) 2) 0xE2 in ends 8 refl refl refl refl (λ tables is. refl)
      (ap (put 0x10 1) (put_page 1 f (bytes 0 free publish) mem (omega arith) refl)
      ∙ put_page 0 1 (bytes 0 f publish) mem (omega arith) refl)

  pub idle : Ends q (from 2) s (page 2 free publish) (seen log) []
  idle = record { steps = 7; returns = refl; stack = refl; memory = refl; accesses = refl; steady = λ tables is. refl; there = refl }

  pub zero : Ends q (from 3) s (laid (bytes 4 free publish) (put 0x4000 1 mem)) (Writes 0x4000 1 ∷ seen log) []
  zero = ends 12 refl refl refl refl (λ tables is. refl)
      (ap (put 0x10 4) (put_out 0x4000 1 (bytes 3 free publish) mem refl refl)
      ∙ put_page 0 4 (bytes 3 free publish) (put 0x4000 1 mem) (omega arith) refl)

  pub flip : Ends q (from 4) s (laid (bytes 5 (bit_xor free 2) 4) (put 0x4001 free mem)) (Writes 0x4001 free ∷ seen log) []
  flip = let new = put 0x4001 free mem in ends 18 refl refl refl refl (λ tables is. refl)
      (ap (λ m. put 0x10 5 (put 0x12 4 (put 0x11 (bit_xor free 2) m)))
      (put_out 0x4001 free (bytes 4 free publish) mem refl refl)
      ∙ ap (λ m. put 0x10 5 (put 0x12 4 m))
      (put_page 1 (bit_xor free 2) (bytes 4 free publish) new (omega arith) refl)
      ∙ ap (put 0x10 5) (put_page 2 4 (bytes 4 (bit_xor free 2) publish) new (omega arith) refl)
      ∙ put_page 0 5 (bytes 4 (bit_xor free 2) 4) new (omega arith) refl)

  pub send : Ends q (from 6) s (laid (bytes 2 free publish) (put 0x3000 2 mem)) (Writes 0x3000 2 ∷ seen log) []
  send = ends 18 refl refl refl refl (λ tables is. refl)
      (ap (put 0x3000 2) (put_page 0 2 (bytes 6 free publish) mem (omega arith) refl)
      ∙ put_out 0x3000 2 (bytes 2 free publish) mem refl refl)

  -- after the look at the flag, in the boot and after a frame
  abbrev phase_after : Bool → ℕ → ℕ
  phase_after true phase = phase
  phase_after false phase = phase + 1

  pub boot : (running : Bool) → nat_le 128 (flags 0) ≡ running
      → Ends q (from 1) s (page (phase_after running 1) free publish) (Reads 0x2002 (flags 0) ∷ seen log) []
  boot running is = on q 6 (from 1) (flag running) s _ _ (ap flag is) (λ tables is. refl) (rest running)
    where
      flag : Bool → Cpu
      flag running = at 0x6899 a 0 y s running (nat_eq (bit_and a (flags 0)) 0) c (nat_le 64 (flags 0 % 128)) d i
          (page 1 free publish) (λ n. flags (suc n)) (Reads 0x2002 (flags 0) ∷ Reads 0x10 1 ∷ log)

      rest : (running : Bool)
          → Ends q (flag running) s (page (phase_after running 1) free publish) (Reads 0x2002 (flags 0) ∷ seen log) []
      rest true = record { steps = 1; returns = refl; stack = refl; memory = refl; accesses = refl; steady = λ tables is. refl; there = refl }
      rest false = ends 2 refl refl refl refl (λ tables is. refl)
          (put_page 0 2 (bytes 1 free publish) mem (omega arith) refl)

  pub wait : (running : Bool) → nat_le 128 (flags 0) ≡ running
      → Ends q (from 5) s (page (phase_after running 5) free publish) (Reads 0x2002 (flags 0) ∷ seen log) []
  wait running is = on q 14 (from 5) (flag running) s _ _ (ap flag is) (λ tables is. refl) (rest running)
    where
      flag : Bool → Cpu
      flag running = at 0x68B9 a 0 y s running (nat_eq (bit_and a (flags 0)) 0) c (nat_le 64 (flags 0 % 128)) d i
          (page 5 free publish) (λ n. flags (suc n)) (Reads 0x2002 (flags 0) ∷ Reads 0x10 5 ∷ log)

      rest : (running : Bool)
          → Ends q (flag running) s (page (phase_after running 5) free publish) (Reads 0x2002 (flags 0) ∷ seen log) []
      rest true = record { steps = 1; returns = refl; stack = refl; memory = refl; accesses = refl; steady = λ tables is. refl; there = refl }
      rest false = ends 2 refl refl refl refl (λ tables is. refl)
          (put_page 0 6 (bytes 5 free publish) mem (omega arith) refl)
