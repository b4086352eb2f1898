-- The log is written, and not read.
use Rattle.std.proofs.Common.{◌≡◌, ℕ, ◌+◌, ◌-◌, ◌%◌, Bool, List, [], ◌++◌, refl, ap, ◌∙◌}
use Rattle.std.specs.Prelude.{nat_eq, bit_and, bit_or, bit_xor, nat_le}
use Rattle.dvg_calls_6502.specs.Processor.{Cpu, Access, Instr, Mode, Register, A, X, Y, Flag, Shift, does, step, decoded}
use Rattle.dvg_calls_6502.specs.Processor.{opcodes}
use Rattle.dvg_calls_6502.specs.Processor.{Immediate, ZeroPage, ZeroPageX, ZeroPageY, Absolute, AbsoluteX, AbsoluteY}
use Rattle.dvg_calls_6502.specs.Processor.{IndexedIndirect, IndirectIndexed, Negative, Zero, Carry, Overflow, Decimal}
use Rattle.dvg_calls_6502.specs.Processor.{Interrupt}
use Rattle.dvg_calls_6502.specs.Processor.{Load, Store, Transfer, And, Or, Xor, Add, Subtract, Compare, TestBits, Change}
use Rattle.dvg_calls_6502.specs.Processor.{Step}
use Rattle.dvg_calls_6502.specs.Processor.{ShiftAt, ShiftA, Set, Branch, Jump, JumpAt, Call, Return, PushA, PushFlags, PullA}
use Rattle.dvg_calls_6502.specs.Processor.{PullFlags, FromStack, ToStack, Resume, Pass, Unknown, summing, subtracting, address, carrying}
use Rattle.dvg_calls_6502.specs.Processor.{lost}
use Rattle.dvg_calls_6502.specs.Processor.{next, of_register, operand, reading, setting, shifted, size, telling, writing}

-- with what was accessed before
abbrev pub upon : List Access → Cpu → Cpu
upon log cpu = record cpu { log = cpu.log ++ log }

abbrev pub forgetful : Cpu → Cpu
forgetful cpu = record cpu { log = [] }

module _ (cpu : Cpu) where
  abbrev Passes : Instr → Type 0
  Passes i = does i cpu ≡ upon cpu.log (does i (forgetful cpu))

  -- an instruction that takes a byte
  via : (mode : Mode) (rest : ℕ → Cpu → Cpu) → ((v : ℕ) (k : Cpu) → rest v (upon cpu.log k) ≡ upon cpu.log (rest v k))
      → rest (operand mode cpu) (reading mode cpu)
      ≡ upon cpu.log (rest (operand mode (forgetful cpu)) (reading mode (forgetful cpu)))
  via Immediate rest same = same (operand Immediate cpu) (reading Immediate (forgetful cpu))
  via ZeroPage rest same = same (operand ZeroPage cpu) (reading ZeroPage (forgetful cpu))
  via ZeroPageX rest same = same (operand ZeroPageX cpu) (reading ZeroPageX (forgetful cpu))
  via ZeroPageY rest same = same (operand ZeroPageY cpu) (reading ZeroPageY (forgetful cpu))
  via Absolute rest same = same (operand Absolute cpu) (reading Absolute (forgetful cpu))
  via AbsoluteX rest same = same (operand AbsoluteX cpu) (reading AbsoluteX (forgetful cpu))
  via AbsoluteY rest same = same (operand AbsoluteY cpu) (reading AbsoluteY (forgetful cpu))
  via IndexedIndirect rest same = same (operand IndexedIndirect cpu) (reading IndexedIndirect (forgetful cpu))
  via IndirectIndexed rest same = same (operand IndirectIndexed cpu) (reading IndirectIndexed (forgetful cpu))

  same_address : (mode : Mode) → address mode cpu ≡ address mode (forgetful cpu)
  same_address Immediate = refl
  same_address _ = refl

  same_register : (r : Register) → of_register r cpu ≡ of_register r (forgetful cpu)
  same_register A = refl
  same_register _ = refl

  set_same : (r : Register) (v : ℕ) (k : Cpu) → setting r v (upon cpu.log k) ≡ upon cpu.log (setting r v k)
  set_same A v k = refl
  set_same _ v k = refl

  stored : (r : Register) (mode : Mode) → Passes (Store r mode)
  stored r mode = ap (λ a. next (size mode) (writing a (of_register r cpu) cpu)) (same_address mode)
      ∙ ap (λ v. next (size mode) (writing (address mode (forgetful cpu)) v cpu)) (same_register r)

  compared : (r : Register) (mode : Mode) → Passes (Compare r mode)
  compared A mode = via mode (λ v k. carrying (nat_le v cpu.a) (telling ((cpu.a + 256 - v) % 256) k)) (λ v k. refl)
  compared X mode = via mode (λ v k. carrying (nat_le v cpu.x) (telling ((cpu.x + 256 - v) % 256) k)) (λ v k. refl)
  compared Y mode = via mode (λ v k. carrying (nat_le v cpu.y) (telling ((cpu.y + 256 - v) % 256) k)) (λ v k. refl)

  moved : (from to : Register) → Passes (Transfer from to)
  moved A to = set_same to cpu.a (next 1 (forgetful cpu))
  moved X to = set_same to cpu.x (next 1 (forgetful cpu))
  moved Y to = set_same to cpu.y (next 1 (forgetful cpu))

  stepped : (r : Register) (by : ℕ) → Passes (Step r by)
  stepped A by = refl
  stepped _ by = refl

  flagged : (flag : Flag) (to : Bool) → Passes (Set flag to)
  flagged Negative to = refl
  flagged _ to = refl

  branched : (flag : Flag) (when : Bool) → Passes (Branch flag when)
  branched Negative when = refl
  branched _ when = refl

  change : (mode : Mode) (by : ℕ) → Passes (Change mode by)
  change mode by =
      ap (λ a. telling ((operand mode cpu + by) % 256) (writing a ((operand mode cpu + by) % 256) (reading mode cpu)))
      (same_address mode)
      ∙ via mode (λ v k. telling ((v + by) % 256) (writing (address mode (forgetful cpu)) ((v + by) % 256) k))
      (λ v k. refl)

  shift_at : (shift : Shift) (mode : Mode) → Passes (ShiftAt shift mode)
  shift_at shift mode =
      ap (λ a. let old = operand mode cpu in let byte = shifted shift cpu.c old in
      carrying (lost shift old) (telling byte (writing a byte (reading mode cpu)))) (same_address mode)
      ∙ via mode (λ v k. carrying (lost shift v)
      (telling (shifted shift cpu.c v) (writing (address mode (forgetful cpu)) (shifted shift cpu.c v) k)))
      (λ v k. refl)

  passes : (i : Instr) → Passes i
  passes (Load r mode) = via mode (λ v k. setting r v k) (λ v k. set_same r v k)
  passes (Store r mode) = stored r mode
  passes (Transfer from to) = moved from to
  passes (And mode) = via mode (λ v k. setting A (bit_and cpu.a v) k) (λ v k. refl)
  passes (Or mode) = via mode (λ v k. setting A (bit_or cpu.a v) k) (λ v k. refl)
  passes (Xor mode) = via mode (λ v k. setting A (bit_xor cpu.a v) k) (λ v k. refl)
  passes (Add mode) = via mode (λ v k. summing v k) (λ v k. refl)
  passes (Subtract mode) = via mode (λ v k. subtracting (255 - v) k) (λ v k. refl)
  passes (Compare r mode) = compared r mode
  passes (TestBits mode) = via mode
      (λ v k. record k { z = nat_eq (bit_and cpu.a v) 0; n = nat_le 128 v; v = nat_le 64 (v % 128) }) (λ v k. refl)
  passes (Change mode by) = change mode by
  passes (Step r by) = stepped r by
  passes (ShiftAt shift mode) = shift_at shift mode
  passes (Set flag to) = flagged flag to
  passes (Branch flag when) = branched flag when
  passes _ = refl

-- a step adds to the log, and rests on nothing in it
pub log_is_passive : (cpu : Cpu) → step cpu ≡ upon cpu.log (step (forgetful cpu))
log_is_passive cpu = passes cpu (decoded opcodes (cpu.mem cpu.pc))
