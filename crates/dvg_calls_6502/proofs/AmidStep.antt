-- A step amid interrupts.
use Rattle.std.proofs.Common.{◌≡◌, ℕ, ◌+◌, ◌-◌, ◌*◌, ◌/◌, ◌%◌, Bool, true, List, [], ◌∷◌, refl, sym}
use Rattle.std.proofs.Common.{ap, ◌∙◌}
use Rattle.std.specs.Prelude.{nat_eq, nat_le, if◌then◌else◌, bit_and, bit_or, bit_xor}
use Rattle.dvg_calls_6502.specs.Processor.{Cpu, Instr, Mode, Immediate, ZeroPage, ZeroPageX, Absolute, IndirectIndexed, Load}
use Rattle.dvg_calls_6502.specs.Processor.{Store, Transfer, And, Or, Xor, Compare, TestBits, Change, Step}
use Rattle.dvg_calls_6502.specs.Processor.{Branch, Jump, Call, Return, Unknown}
use Rattle.dvg_calls_6502.specs.Processor.{Register, A, X, Y, Flag, Negative, Zero, Carry, Overflow, Reads, put}
use Rattle.dvg_calls_6502.specs.Processor.{decoded, opcodes, address, operand, found, flags_after, reading, reads, writing}
use Rattle.dvg_calls_6502.specs.Processor.{setting, telling, carrying, next, size, of_register, of_flag, does, stack_place, step}
use Rattle.dvg_calls_6502.specs.Processor.{flag_place, is_so, target, changing}
use Rattle.dvg_calls_6502.specs.Processor.{ZeroPageY, AbsoluteX, AbsoluteY, IndexedIndirect, Add, Subtract, ShiftAt, ShiftA}
use Rattle.dvg_calls_6502.specs.Processor.{Set, JumpAt, PushA, PushFlags, PullA, PullFlags, FromStack, ToStack, Resume}
use Rattle.dvg_calls_6502.specs.Processor.{Pass, Shift, Decimal, Interrupt, summing, subtracting, shifted, lost, with_flags}
use Rattle.dvg_calls_6502.specs.Processor.{flags_byte, beside}
use Rattle.dvg_calls_6502.specs.Amid.{changed, naming, named, touches}

-- two memories agree on these bytes
abbrev pub Agree : (ℕ → ℕ) → (ℕ → ℕ) → List ℕ → Type 0
Agree m mem [] = Unit {0}
Agree m mem (b ∷ bs) = (m b ≡ mem b) × Agree m mem bs

-- a step is the same over another memory
pub record Same (cpu after other : Cpu) (m : ℕ → ℕ) : Type 0 where
  pub memory : ℕ → ℕ
  pub same : other ≡ changed memory after
  pub keeps : (b : ℕ) → m b ≡ cpu.mem b → memory b ≡ after.mem b

put_keeps : (p v : ℕ) (m mem : ℕ → ℕ) (b : ℕ) → m b ≡ mem b → put p v m b ≡ put p v mem b
put_keeps p v m mem b e = ap (λ (k : ℕ). if nat_eq b p then v else k) e

module _ (cpu : Cpu) (m : ℕ → ℕ) where
  abbrev it : Cpu
  it = changed m cpu

  abbrev Ok : Instr → Type 0
  Ok i = Agree m cpu.mem (touches i cpu) → Same cpu (does i cpu) (does i it) m

  address_same : (mode : Mode) → Agree m cpu.mem (naming mode cpu) → address mode it ≡ address mode cpu
  address_same Immediate e = refl
  address_same ZeroPage e = e.0
  address_same ZeroPageX e = ap (λ b. (b + cpu.x) % 256) e.0
  address_same ZeroPageY e = ap (λ b. (b + cpu.y) % 256) e.0
  address_same Absolute e = ap (λ l. l + 256 * m (cpu.pc + 2)) e.0 ∙ ap (λ h. cpu.mem (cpu.pc + 1) + 256 * h) e.1.0
  address_same AbsoluteX e =
      ap (λ l. (l + 256 * m (cpu.pc + 2) + cpu.x) % 65536) e.0
      ∙ ap (λ h. (cpu.mem (cpu.pc + 1) + 256 * h + cpu.x) % 65536) e.1.0
  address_same AbsoluteY e =
      ap (λ l. (l + 256 * m (cpu.pc + 2) + cpu.y) % 65536) e.0
      ∙ ap (λ h. (cpu.mem (cpu.pc + 1) + 256 * h + cpu.y) % 65536) e.1.0
  address_same IndexedIndirect e =
      let zp : ℕ = (cpu.mem (cpu.pc + 1) + cpu.x) % 256 in
      ap (λ b. m ((b + cpu.x) % 256) + 256 * m (((b + cpu.x) % 256 + 1) % 256)) e.0
      ∙ ap (λ l. l + 256 * m ((zp + 1) % 256)) e.1.0
      ∙ ap (λ h. cpu.mem zp + 256 * h) e.1.1.0
  address_same IndirectIndexed e =
      ap (λ zp. (m zp + 256 * m ((zp + 1) % 256) + cpu.y) % 65536) e.0
      ∙ ap (λ l. (l + 256 * m ((cpu.mem (cpu.pc + 1) + 1) % 256) + cpu.y) % 65536) e.1.0
      ∙ ap (λ h. (cpu.mem (cpu.mem (cpu.pc + 1)) + 256 * h + cpu.y) % 65536) e.1.1.0

  found_same : (p : ℕ) → m p ≡ cpu.mem p → found p it ≡ found p cpu
  found_same p e = ap (λ (k : ℕ). if nat_eq p flag_place then cpu.flags 0 else k) e

  operand_same : (mode : Mode) → Agree m cpu.mem (named mode cpu) → operand mode it ≡ operand mode cpu
  operand_same Immediate e = e.0
  operand_same ZeroPage e = ap (λ p. found p it) (address_same ZeroPage e.1) ∙ found_same (address ZeroPage cpu) e.0
  operand_same ZeroPageX e = ap (λ p. found p it) (address_same ZeroPageX e.1) ∙ found_same (address ZeroPageX cpu) e.0
  operand_same Absolute e = ap (λ p. found p it) (address_same Absolute e.1) ∙ found_same (address Absolute cpu) e.0
  operand_same ZeroPageY e = ap (λ p. found p it) (address_same ZeroPageY e.1) ∙ found_same (address ZeroPageY cpu) e.0
  operand_same AbsoluteX e = ap (λ p. found p it) (address_same AbsoluteX e.1) ∙ found_same (address AbsoluteX cpu) e.0
  operand_same AbsoluteY e = ap (λ p. found p it) (address_same AbsoluteY e.1) ∙ found_same (address AbsoluteY cpu) e.0
  operand_same IndexedIndirect e = ap (λ p. found p it) (address_same IndexedIndirect e.1) ∙ found_same (address IndexedIndirect cpu) e.0
  operand_same IndirectIndexed e = ap (λ p. found p it) (address_same IndirectIndexed e.1)
      ∙ found_same (address IndirectIndexed cpu) e.0

  reads_same : (p q : ℕ) → p ≡ q → m q ≡ cpu.mem q → reads p it ≡ changed m (reads q cpu)
  reads_same p q same e = ap (λ p. reads p it) same
      ∙ ap (λ (k : ℕ). record it { flags = flags_after q cpu; log = Reads q k ∷ cpu.log }) (found_same q e)

  reading_same : (mode : Mode) → Agree m cpu.mem (named mode cpu) → reading mode it ≡ changed m (reading mode cpu)
  reading_same Immediate e = refl
  reading_same ZeroPage e = ap (next 2) (reads_same _ _ (address_same ZeroPage e.1) e.0)
  reading_same ZeroPageX e = ap (next 2) (reads_same _ _ (address_same ZeroPageX e.1) e.0)
  reading_same Absolute e = ap (next 3) (reads_same _ _ (address_same Absolute e.1) e.0)
  reading_same ZeroPageY e = ap (next 2) (reads_same _ _ (address_same ZeroPageY e.1) e.0)
  reading_same AbsoluteX e = ap (next 3) (reads_same _ _ (address_same AbsoluteX e.1) e.0)
  reading_same AbsoluteY e = ap (next 3) (reads_same _ _ (address_same AbsoluteY e.1) e.0)
  reading_same IndexedIndirect e = ap (next 2) (reads_same _ _ (address_same IndexedIndirect e.1) e.0)
  reading_same IndirectIndexed e = ap (next 2) (reads_same _ _ (address_same IndirectIndexed e.1) e.0)

  setting_same : (r : Register) (v : ℕ) (k : Cpu) → setting r v (changed m k) ≡ changed m (setting r v k)
  setting_same A v k = refl
  setting_same _ v k = refl

  set_same : (r : Register) (v w : ℕ) (k l : Cpu) → v ≡ w → k ≡ changed m l → setting r v k ≡ changed m (setting r w l)
  set_same r v w k l vs ks = ap (λ v. setting r v k) vs ∙ ap (setting r w) ks ∙ setting_same r w l

  of_register_same : (r : Register) → of_register r it ≡ of_register r cpu
  of_register_same A = refl
  of_register_same _ = refl

  of_flag_same : (f : Flag) → of_flag f it ≡ of_flag f cpu
  of_flag_same Negative = refl
  of_flag_same _ = refl

  -- what writes nothing
  quiet : (after other : Cpu) → other ≡ changed m after → after.mem ≡ cpu.mem → Same cpu after other m
  quiet after other e kept = record {
    memory = m;
    same = e;
    keeps = λ b same. same ∙ ap (λ (k : ℕ → ℕ). k b) (sym kept);
  }

  set_kept : (r : Register) (v : ℕ) (k : Cpu) → (setting r v k).mem ≡ k.mem
  set_kept A v k = refl
  set_kept _ v k = refl

  reading_kept : (mode : Mode) → (reading mode cpu).mem ≡ cpu.mem
  reading_kept Immediate = refl
  reading_kept _ = refl

  load : (r : Register) (mode : Mode) → Ok (Load r mode)
  load r mode e = quiet _ _ (set_same r _ _ _ _ (operand_same mode e) (reading_same mode e))
      (set_kept r _ (reading mode cpu) ∙ reading_kept mode)

  and_same : (mode : Mode) → Ok (And mode)
  and_same mode e = quiet _ _ (set_same A _ _ (reading mode it) (reading mode cpu) (ap (bit_and cpu.a) (operand_same mode e)) (reading_same mode e))
      (reading_kept mode)

  or_same : (mode : Mode) → Ok (Or mode)
  or_same mode e = quiet _ _ (set_same A _ _ (reading mode it) (reading mode cpu) (ap (bit_or cpu.a) (operand_same mode e)) (reading_same mode e))
      (reading_kept mode)

  xor_same : (mode : Mode) → Ok (Xor mode)
  xor_same mode e = quiet _ _ (set_same A _ _ (reading mode it) (reading mode cpu) (ap (bit_xor cpu.a) (operand_same mode e)) (reading_same mode e))
      (reading_kept mode)

  sum_as : (v w : ℕ) (k l : Cpu) → v ≡ w → k ≡ changed m l → summing v k ≡ changed m (summing w l)
  sum_as v w k l vs ks = ap (λ v. summing v k) vs ∙ ap (summing w) ks

  add_same : (mode : Mode) → Ok (Add mode)
  add_same mode e = quiet _ _ (sum_as _ _ _ (reading mode cpu) (operand_same mode e) (reading_same mode e))
      (reading_kept mode)

  difference_as : (v w : ℕ) (k l : Cpu) → v ≡ w → k ≡ changed m l → subtracting v k ≡ changed m (subtracting w l)
  difference_as v w k l vs ks = ap (λ v. subtracting v k) vs ∙ ap (subtracting w) ks

  subtract_same : (mode : Mode) → Ok (Subtract mode)
  subtract_same mode e = quiet _ _
      (difference_as _ _ _ (reading mode cpu) (ap (λ o. 255 - o) (operand_same mode e)) (reading_same mode e))
      (reading_kept mode)

  -- with a byte and a register's byte the same, and the state that has read it
  compare_same : (r : Register) (mode : Mode) → Ok (Compare r mode)
  compare_same r mode e = quiet _ _
      (ap (λ v. told v (operand mode it) (reading mode it)) (of_register_same r)
      ∙ ap (λ o. told (of_register r cpu) o (reading mode it)) (operand_same mode e)
      ∙ ap (told (of_register r cpu) (operand mode cpu)) (reading_same mode e))
      (reading_kept mode)
    where
      told : ℕ → ℕ → Cpu → Cpu
      told v o k = carrying (nat_le o v) (telling ((v + 256 - o) % 256) k)

  bits_same : (mode : Mode) → Ok (TestBits mode)
  bits_same mode e = quiet _ _
      (ap (λ o. told o (reading mode it)) (operand_same mode e)
      ∙ ap (told (operand mode cpu)) (reading_same mode e))
      (reading_kept mode)
    where
      told : ℕ → Cpu → Cpu
      told o k = record k { z = nat_eq (bit_and cpu.a o) 0; n = nat_le 128 o; v = nat_le 64 (o % 128) }

  writes : (after other : Cpu) (p v : ℕ) → other ≡ changed (put p v m) after → after.mem ≡ put p v cpu.mem
      → Same cpu after other m
  writes after other p v e kept = record {
    memory = put p v m;
    same = e;
    keeps = λ b same. put_keeps p v m cpu.mem b same ∙ ap (λ (k : ℕ → ℕ). k b) (sym kept);
  }

  store_same : (r : Register) (mode : Mode) → Ok (Store r mode)
  store_same r mode e = writes _ _ (address mode cpu) (of_register r cpu)
      (ap (λ p. next (size mode) (writing p (of_register r it) it)) (address_same mode e)
      ∙ ap (λ v. next (size mode) (writing (address mode cpu) v it)) (of_register_same r)) refl

  naming_same : (mode : Mode) → Agree m cpu.mem (named mode cpu) → Agree m cpu.mem (naming mode cpu)
  naming_same Immediate e = tt
  naming_same _ e = e.1

  -- a byte is changed
  change_as : (mode : Mode) (v w : ℕ) → v ≡ w → Agree m cpu.mem (named mode cpu)
      → changing mode v it ≡ changed (put (address mode cpu) w m) (changing mode w cpu)
  change_as mode v w vs e =
      ap (λ v. changing mode v it) vs
      ∙ ap (λ p. telling w (writing p w (reading mode it))) (address_same mode (naming_same mode e))
      ∙ ap (λ k. telling w (writing (address mode cpu) w k)) (reading_same mode e)
      ∙ sym (ap (λ (k : ℕ → ℕ). changed (put (address mode cpu) w m) (changing mode w cpu)) (reading_kept mode))

  change_same : (mode : Mode) (by : ℕ) → Ok (Change mode by)
  change_same mode by e = writes _ _ (address mode cpu) ((operand mode cpu + by) % 256)
      (change_as mode _ _ (ap (λ o. (o + by) % 256) (operand_same mode e)) e)
      (ap (put (address mode cpu) ((operand mode cpu + by) % 256)) (reading_kept mode))

  shift_same : (shift : Shift) (mode : Mode) → Ok (ShiftAt shift mode)
  shift_same shift mode e = writes _ _ (address mode cpu) (shifted shift cpu.c (operand mode cpu))
      (ap (λ o. carrying (lost shift o) (changing mode (shifted shift cpu.c o) it)) (operand_same mode e)
      ∙ ap (carrying (lost shift (operand mode cpu))) (change_as mode _ _ refl e))
      (ap (put (address mode cpu) (shifted shift cpu.c (operand mode cpu))) (reading_kept mode))

  transfer_same : (r t : Register) → Ok (Transfer r t)
  transfer_same r t e = quiet _ _ (set_same t _ _ (next 1 it) (next 1 cpu) (of_register_same r) refl) (set_kept t _ (next 1 cpu))

  step_same : (r : Register) (by : ℕ) → Ok (Step r by)
  step_same r by e = quiet _ _ (set_same r _ _ (next 1 it) (next 1 cpu) (ap (λ v. (v + by) % 256) (of_register_same r)) refl)
      (set_kept r _ (next 1 cpu))

  branch_same : (f : Flag) (when : Bool) → Ok (Branch f when)
  branch_same f when e = quiet _ _
      (ap (λ (t : Bool). record it { pc = if is_so when t then target cpu.pc (m (cpu.pc + 1)) else cpu.pc + 2 })
      (of_flag_same f)
      ∙ ap (λ o. record it { pc = if is_so when (of_flag f cpu) then target cpu.pc o else cpu.pc + 2 }) e.0) refl

  jump_same : Ok Jump
  jump_same e = quiet _ _ (ap (λ p. record it { pc = p }) (address_same Absolute e)) refl

  -- an indirect jump, by where its two bytes are
  abbrev jumped : (low high : ℕ) → Cpu → Cpu
  jumped low high k = record (reads high (reads low k)) { pc = found low k + 256 * found high k }

  found_on : (p : ℕ) (k : Cpu) → m p ≡ k.mem p → found p (changed m k) ≡ found p k
  found_on p k e = ap (λ (b : ℕ). if nat_eq p flag_place then k.flags 0 else b) e

  reads_on : (p : ℕ) (k : Cpu) → m p ≡ k.mem p → reads p (changed m k) ≡ changed m (reads p k)
  reads_on p k e = ap (λ (b : ℕ). record (changed m k) { flags = flags_after p k; log = Reads p b ∷ k.log }) (found_on p k e)

  jumped_same : (low high : ℕ) → m low ≡ cpu.mem low → m high ≡ cpu.mem high
      → jumped low high it ≡ changed m (jumped low high cpu)
  jumped_same low high l h =
      ap (λ k. to k (found low it) (found high it)) (ap (reads high) (reads_on low cpu l) ∙ reads_on high (reads low cpu) h)
      ∙ ap (λ b. to (changed m (reads high (reads low cpu))) b (found high it)) (found_on low cpu l)
      ∙ ap (λ b. to (changed m (reads high (reads low cpu))) (found low cpu) b) (found_on high cpu h)
    where
      to : Cpu → ℕ → ℕ → Cpu
      to k b0 b1 = record k { pc = b0 + 256 * b1 }

  beside_same : Agree m cpu.mem (naming Absolute cpu) → beside it ≡ beside cpu
  beside_same e = ap (λ l. (l + 1) % 256 + 256 * m (cpu.pc + 2)) e.0
      ∙ ap (λ h. (cpu.mem (cpu.pc + 1) + 1) % 256 + 256 * h) e.1.0

  jump_at_same : Ok JumpAt
  jump_at_same e = quiet _ _
      (ap (λ p. jumped p (beside it) it) (address_same Absolute e.1.1)
      ∙ ap (λ p. jumped (address Absolute cpu) p it) (beside_same e.1.1)
      ∙ jumped_same (address Absolute cpu) (beside cpu) e.1.0 e.0) refl

  set_flag_same : (f : Flag) (to : Bool) → Ok (Set f to)
  set_flag_same Negative to e = quiet _ _ refl refl
  set_flag_same _ to e = quiet _ _ refl refl

  resume_same : Ok Resume
  resume_same e = quiet _ _
      (ap (λ b. back b (m (stack_place (cpu.s + 2))) (m (stack_place (cpu.s + 3)))) e.0
      ∙ ap (λ b. back (cpu.mem (stack_place (cpu.s + 1))) b (m (stack_place (cpu.s + 3)))) e.1.0
      ∙ ap (back (cpu.mem (stack_place (cpu.s + 1))) (cpu.mem (stack_place (cpu.s + 2)))) e.1.1.0) refl
    where
      back : ℕ → ℕ → ℕ → Cpu
      back flags low high = with_flags flags (record it { s = (cpu.s + 3) % 256; pc = low + 256 * high })

  return_same : Ok Return
  return_same e = quiet _ _
      (ap (λ l. back l (m (stack_place (cpu.s + 2)))) e.0 ∙ ap (back (cpu.mem (stack_place (cpu.s + 1)))) e.1.0) refl
    where
      back : ℕ → ℕ → Cpu
      back l h = record it { s = (cpu.s + 2) % 256; pc = (l + 256 * h + 1) % 65536 }

  -- what a call pushes is the same, too
  abbrev pushed : (ℕ → ℕ) → ℕ → ℕ
  pushed mem = put (stack_place (cpu.s + 255)) ((cpu.pc + 2) % 256) (put (stack_place cpu.s) ((cpu.pc + 2) / 256) mem)

  call_same : Ok Call
  call_same e = record {
    memory = pushed m;
    same = ap (λ p. record (does Call it) { pc = p }) (address_same Absolute e);
    keeps = λ b same. put_keeps (stack_place (cpu.s + 255)) ((cpu.pc + 2) % 256)
        (put (stack_place cpu.s) ((cpu.pc + 2) / 256) m) (put (stack_place cpu.s) ((cpu.pc + 2) / 256) cpu.mem) b
        (put_keeps (stack_place cpu.s) ((cpu.pc + 2) / 256) m cpu.mem b same);
  }

  pub does_same : (i : Instr) → Ok i
  does_same (Load r mode) = load r mode
  does_same (Store r mode) = store_same r mode
  does_same (Transfer r t) = transfer_same r t
  does_same (And mode) = and_same mode
  does_same (Or mode) = or_same mode
  does_same (Xor mode) = xor_same mode
  does_same (Compare r mode) = compare_same r mode
  does_same (TestBits mode) = bits_same mode
  does_same (Change mode by) = change_same mode by
  does_same (Step r by) = step_same r by
  does_same (Add mode) = add_same mode
  does_same (Subtract mode) = subtract_same mode
  does_same (ShiftAt shift mode) = shift_same shift mode
  does_same (Set f to) = set_flag_same f to
  does_same (Branch f when) = branch_same f when
  does_same Jump = jump_same
  does_same Call = call_same
  does_same Return = return_same
  does_same JumpAt = jump_at_same
  does_same PushA = λ e. writes _ _ (stack_place cpu.s) cpu.a refl refl
  does_same PushFlags = λ e. writes _ _ (stack_place cpu.s) (flags_byte true cpu) refl refl
  does_same PullA = λ e. quiet _ _ (ap (λ b. setting A b (record (next 1 it) { s = (cpu.s + 1) % 256 })) e.0) refl
  does_same PullFlags = λ e. quiet _ _ (ap (λ b. with_flags b (record (next 1 it) { s = (cpu.s + 1) % 256 })) e.0) refl
  does_same Resume = resume_same
  does_same _ = λ e. quiet _ _ refl refl

  -- a step
  pub stepped : m cpu.pc ≡ cpu.mem cpu.pc → Agree m cpu.mem (touches (decoded opcodes (cpu.mem cpu.pc)) cpu)
      → Same cpu (step cpu) (step it) m
  stepped opcode e =
      let did = does_same (decoded opcodes (cpu.mem cpu.pc)) e in
      record {
        memory = did.memory;
        same = ap (λ b. does (decoded opcodes b) it) opcode ∙ did.same;
        keeps = did.keeps;
      }
