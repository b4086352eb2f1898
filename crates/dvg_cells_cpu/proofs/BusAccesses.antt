-- What the bus saw, as the definition has it.
use Rattle.std.proofs.Common.{◌≡◌, ℕ, ◌+◌, ◌/◌, ◌%◌, List, [], ◌∷◌, sym, ap, ◌∙◌, arith}
use Rattle.dvg_calls_6502.specs.Processor.{Cpu, Access, Reads, Writes, beside, found, address, Absolute, reads, stack_place}
use Rattle.dvg_cells_cpu.specs.Refines.{IsSound, got}
use Rattle.dvg_cells_cpu.proofs.Sums.{whole}
use Rattle.dvg_cells_cpu.proofs.OperandReads.{zp, wide, above, pc1, pc2, found_both, up1, up2, up3, at1, at2, at3}

-- an access at an address that the cells have otherwise, after others
pub seen_at : (made at : ℕ) → made ≡ at → (access : ℕ → Access) (raw list : List Access) → raw ≡ list
    → (access made ∷ raw) ≡ (access at ∷ list)
seen_at made at e access raw list f = ap (λ p. access p ∷ raw) e ∙ ap (λ l. access at ∷ l) f

-- a byte that is changed there
pub seen_change : (made at : ℕ) → made ≡ at → (byte was new : ℕ) → was ≡ new → (raw list : List Access) → raw ≡ list
    → (Writes made was ∷ Reads made byte ∷ raw) ≡ (Writes at new ∷ Reads at byte ∷ list)
seen_change made at e byte was new g raw list f =
    ap (λ p. Writes p was ∷ Reads p byte ∷ raw) e ∙ ap (λ b. Writes at b ∷ Reads at byte ∷ raw) g
    ∙ ap (λ l. Writes at new ∷ Reads at byte ∷ l) f

module _ (cpu : Cpu) (sound : IsSound cpu) (op : ℕ) (is : cpu.mem cpu.pc ≡ op) where
  -- the reads of the program: of one byte, two and three
  pub tail1 : (Reads cpu.pc op ∷ []) ≡ (got cpu cpu.pc ∷ [])
  tail1 = ap (λ o. Reads cpu.pc o ∷ []) (sym is)

  pub tail2 : (Reads ((cpu.pc + 1) % 65536) (zp cpu) ∷ Reads cpu.pc op ∷ []) ≡ (got cpu (cpu.pc + 1) ∷ got cpu cpu.pc ∷ [])
  tail2 = ap (λ p. Reads p (zp cpu) ∷ Reads cpu.pc op ∷ []) (pc1 cpu sound) ∙ ap (λ l. got cpu (cpu.pc + 1) ∷ l) tail1

  pub tail3 : (Reads ((cpu.pc + 2) % 65536) (cpu.mem (cpu.pc + 2)) ∷ Reads ((cpu.pc + 1) % 65536) (zp cpu) ∷ Reads cpu.pc op ∷ [])
      ≡ (got cpu (cpu.pc + 2) ∷ got cpu (cpu.pc + 1) ∷ got cpu cpu.pc ∷ [])
  tail3 = ap (λ p. Reads p (cpu.mem (cpu.pc + 2)) ∷ Reads ((cpu.pc + 1) % 65536) (zp cpu) ∷ Reads cpu.pc op ∷ []) (pc2 cpu sound)
      ∙ ap (λ l. got cpu (cpu.pc + 2) ∷ l) tail2

  -- and with a pointer
  pub tail_at : (p : ℕ) → (got cpu (above cpu p) ∷ got cpu p ∷ Reads ((cpu.pc + 1) % 65536) (zp cpu) ∷ Reads cpu.pc op ∷ [])
      ≡ (got cpu (above cpu p) ∷ got cpu p ∷ got cpu (cpu.pc + 1) ∷ got cpu cpu.pc ∷ [])
  tail_at p = ap (λ l. got cpu (above cpu p) ∷ got cpu p ∷ l) tail2

  pub seen_jump : (Reads (beside cpu) (found (beside cpu) cpu) ∷ Reads (wide cpu) (found (wide cpu) cpu)
      ∷ Reads ((cpu.pc + 2) % 65536) (cpu.mem (cpu.pc + 2)) ∷ Reads ((cpu.pc + 1) % 65536) (zp cpu) ∷ Reads cpu.pc op ∷ [])
      ≡ (Reads (beside cpu) (found (beside cpu) (reads (address Absolute cpu) cpu)) ∷ Reads (wide cpu) (found (wide cpu) cpu)
      ∷ got cpu (cpu.pc + 2) ∷ got cpu (cpu.pc + 1) ∷ got cpu cpu.pc ∷ [])
  seen_jump = ap (λ l. Reads (beside cpu) (found (beside cpu) cpu) ∷ Reads (wide cpu) (found (wide cpu) cpu) ∷ l) tail3
      ∙ ap (λ b. Reads (beside cpu) b ∷ Reads (wide cpu) (found (wide cpu) cpu)
      ∷ got cpu (cpu.pc + 2) ∷ got cpu (cpu.pc + 1) ∷ got cpu cpu.pc ∷ []) (sym (found_both cpu))

  -- S and the place that it leads to
  pub place : cpu.s + 256 ≡ stack_place cpu.s
  place = let less = sound.s in omega arith

  pub place_down : (cpu.s + 255) % 256 + 256 ≡ stack_place (cpu.s + 255)
  place_down = omega arith

  pub call_s : ((cpu.s + 255) % 256 + 255) % 256 ≡ (cpu.s + 254) % 256
  call_s = omega arith

  back_low : (cpu.pc + 2) % 65536 / 1 % 256 ≡ (cpu.pc + 2) % 256
  back_low = whole ((cpu.pc + 2) % 65536) 256 ∙ (let less = sound.pc in omega arith)

  back_high : (cpu.pc + 2) % 65536 / 256 % 256 ≡ (cpu.pc + 2) / 256
  back_high = let less = sound.pc in omega arith

  pub seen_call : (Writes ((cpu.s + 255) % 256 + 256) ((cpu.pc + 2) % 65536 / 1 % 256)
      ∷ Writes (cpu.s + 256) ((cpu.pc + 2) % 65536 / 256 % 256)
      ∷ Reads ((cpu.pc + 2) % 65536) (cpu.mem (cpu.pc + 2)) ∷ Reads ((cpu.pc + 1) % 65536) (zp cpu) ∷ Reads cpu.pc op ∷ [])
      ≡ (Writes (stack_place (cpu.s + 255)) ((cpu.pc + 2) % 256) ∷ Writes (stack_place cpu.s) ((cpu.pc + 2) / 256)
      ∷ got cpu (cpu.pc + 2) ∷ got cpu (cpu.pc + 1) ∷ got cpu cpu.pc ∷ [])
  seen_call = let later = tail3 in let one = place_down in let two = place in let low = back_low in let high = back_high in cc

  pub seen_push : (made new : ℕ) → made ≡ new
      → (Writes (cpu.s + 256) made ∷ Reads cpu.pc op ∷ []) ≡ (Writes (stack_place cpu.s) new ∷ got cpu cpu.pc ∷ [])
  seen_push made new same = let later = tail1 in let at = place in cc

  pub seen_pull : (Reads (up1 cpu sound + 256) (cpu.mem (stack_place (cpu.s + 1))) ∷ Reads cpu.pc op ∷ [])
      ≡ (got cpu (stack_place (cpu.s + 1)) ∷ got cpu cpu.pc ∷ [])
  seen_pull = seen_at _ _ (at1 cpu sound) (λ p. Reads p (cpu.mem (stack_place (cpu.s + 1)))) _ _ tail1

  pub seen_return : (Reads (up2 cpu sound + 256) (cpu.mem (stack_place (cpu.s + 2)))
      ∷ Reads (up1 cpu sound + 256) (cpu.mem (stack_place (cpu.s + 1))) ∷ Reads cpu.pc op ∷ [])
      ≡ (got cpu (stack_place (cpu.s + 2)) ∷ got cpu (stack_place (cpu.s + 1)) ∷ got cpu cpu.pc ∷ [])
  seen_return = seen_at _ _ (at2 cpu sound) (λ p. Reads p (cpu.mem (stack_place (cpu.s + 2)))) _ _ seen_pull

  pub seen_resume : (Reads (up3 cpu sound + 256) (cpu.mem (stack_place (cpu.s + 3)))
      ∷ Reads (up2 cpu sound + 256) (cpu.mem (stack_place (cpu.s + 2)))
      ∷ Reads (up1 cpu sound + 256) (cpu.mem (stack_place (cpu.s + 1))) ∷ Reads cpu.pc op ∷ [])
      ≡ (got cpu (stack_place (cpu.s + 3)) ∷ got cpu (stack_place (cpu.s + 2)) ∷ got cpu (stack_place (cpu.s + 1))
      ∷ got cpu cpu.pc ∷ [])
  seen_resume = seen_at _ _ (at3 cpu sound) (λ p. Reads p (cpu.mem (stack_place (cpu.s + 3)))) _ _ seen_return
