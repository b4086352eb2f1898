-- What a call's memory has in the vector RAM: what it wrote there last, and else what was there.
use Rattle.std.proofs.Common.{◌≡◌, ℕ, zero, suc, ◌+◌, ◌/◌, ◌%◌, ◌<◌, ◌≤◌, Bool, true, false, List, [], ◌∷◌, refl, sym, ap, ◌∙◌}
use Rattle.std.proofs.Common.{subst, arith, le-leb, inl, inr}
use Rattle.std.specs.Prelude.{nat_eq, nat_le, nat_lt, if◌then◌else◌}
use Rattle.std.proofs.lemmas.Bool.Decides.{eqb_tells}
use Rattle.dvg_calls_6502.specs.Processor.{Cpu, Access, Reads, Writes, Instr, Mode, Register, Immediate, ZeroPage, ZeroPageX, Absolute, IndirectIndexed}
use Rattle.dvg_calls_6502.specs.Processor.{A, X, Y, Load, Store, Transfer, And, Or, Xor, Compare, TestBits, Change, Step}
use Rattle.dvg_calls_6502.specs.Processor.{Branch, Jump, Call, Return, Unknown}
use Rattle.dvg_calls_6502.specs.Processor.{flag_place, reads, reading, writing, setting, found, operand, address, of_register, next, stack_place}
use Rattle.dvg_calls_6502.specs.Processor.{does, step, turn, at_return, decoded, opcodes}
use Rattle.dvg_calls_6502.specs.Processor.{ZeroPageY, AbsoluteX, AbsoluteY, IndexedIndirect, Add, Subtract, ShiftAt, ShiftA}
use Rattle.dvg_calls_6502.specs.Processor.{Set, JumpAt, PushA, PushFlags, PullA, PullFlags, FromStack, ToStack, Resume}
use Rattle.dvg_calls_6502.specs.Processor.{Pass, shifted, Flag, Negative, Zero, Carry, Overflow, Decimal, Interrupt}
use Rattle.dvg_calls_6502.specs.Processor.{flagging, flags_byte, beside}
use Rattle.dvg_calls_6502.specs.Amid.{amid, changed, AreHarmless, Guard, guards, is_kept}
use Rattle.dvg_calls_6502.specs.Board.{seen, is_hardware, is_ram}
use Rattle.dvg_calls_6502.specs.Calls as calls
use Rattle.dvg_calls_6502.specs.Calls.{IsSession, is_table}
use Rattle.dvg_calls_board.specs.Machine.{accesses_of}
pub use Rattle.std.proofs.lemmas.Bool.{or_left as left_true}
use Rattle.std.proofs.lemmas.Bool.{and_from as both_true}
use Rattle.dvg_calls_6502.proofs.Sessions.{kept_ram}

-- what was written last at b, and else what was there
abbrev pub last_write : List Access → ℕ → ℕ → ℕ
last_write [] b old = old
last_write (Reads a byte ∷ log) b old = last_write log b old
last_write (Writes a byte ∷ log) b old = if nat_eq b a then byte else last_write log b old

is_not : (b a : ℕ) → 0x200 ≤ b → nat_le 0x200 a ≡ false → nat_eq b a ≡ false
is_not b a high low = elim (eqb_tells b a) [
  | inl t ↦ absurd (let is = le-leb 0x200 a (subst (λ n. 0x200 ≤ n) t.1 high) in cc)
  | inr t ↦ t.0
]

-- at a place above the stack, which isn't the flag's
module _ (b old : ℕ) (high : 0x200 ≤ b) (other : nat_eq b flag_place ≡ false) where
  -- each read there found what was written last
  abbrev pub AreFound : List Access → Type 0
  AreFound [] = Unit {0}
  AreFound (Reads a byte ∷ log) = (a ≡ b → byte ≡ last_write log b old) × AreFound log
  AreFound (Writes a byte ∷ log) = AreFound log

  abbrev Has : Cpu → Type 0
  Has cpu = (cpu.mem b ≡ last_write (seen cpu.log) b old) × AreFound (seen cpu.log)

  seen_read : (t : Bool) (a byte : ℕ) (log : List Access)
      → last_write (if t then Reads a byte ∷ log else log) b old ≡ last_write log b old
  seen_read true a byte log = refl
  seen_read false a byte log = refl

  found_read : (t : Bool) (a byte : ℕ) (log : List Access) → (a ≡ b → byte ≡ last_write log b old) → AreFound log
      → AreFound (if t then Reads a byte ∷ log else log)
  found_read true a byte log is are = (is, are)
  found_read false a byte log is are = are

  found_written : (t : Bool) (a byte : ℕ) (log : List Access) → AreFound log
      → AreFound (if t then Writes a byte ∷ log else log)
  found_written true a byte log are = are
  found_written false a byte log are = are

  read_keeps : (a : ℕ) (cpu : Cpu) → Has cpu → Has (reads a cpu)
  read_keeps a cpu h = (
    h.0 ∙ sym (seen_read (is_hardware a) a (found a cpu) (seen cpu.log)),
    found_read (is_hardware a) a (found a cpu) (seen cpu.log)
        (λ e. ap (λ n. found n cpu) e ∙ ap (λ (t : Bool). if t then cpu.flags 0 else cpu.mem b) other ∙ h.0) h.1,
  )

  written : (t : Bool) (a byte x : ℕ) (log : List Access) → nat_le 0x200 a ≡ t → x ≡ last_write log b old
      → (if nat_eq b a then byte else x) ≡ last_write (if t then Writes a byte ∷ log else log) b old
  written true a byte x log e h = ap (λ n. if nat_eq b a then byte else n) h
  written false a byte x log e h = ap (λ (t : Bool). if t then byte else x) (is_not b a high e) ∙ h

  write_keeps : (a byte : ℕ) (cpu : Cpu) → Has cpu → Has (writing a byte cpu)
  write_keeps a byte cpu h = (
    written (nat_le 0x200 a) a byte (cpu.mem b) (seen cpu.log) refl h.0,
    found_written (nat_le 0x200 a) a byte (seen cpu.log) h.1,
  )

  setting_keeps : (r : Register) (byte : ℕ) (cpu : Cpu) → Has cpu → Has (setting r byte cpu)
  setting_keeps A byte cpu h = h
  setting_keeps _ byte cpu h = h

  reading_keeps : (mode : Mode) (cpu : Cpu) → Has cpu → Has (reading mode cpu)
  reading_keeps Immediate cpu h = h
  reading_keeps ZeroPage cpu h = read_keeps (address ZeroPage cpu) cpu h
  reading_keeps ZeroPageX cpu h = read_keeps (address ZeroPageX cpu) cpu h
  reading_keeps Absolute cpu h = read_keeps (address Absolute cpu) cpu h
  reading_keeps ZeroPageY cpu h = read_keeps (address ZeroPageY cpu) cpu h
  reading_keeps AbsoluteX cpu h = read_keeps (address AbsoluteX cpu) cpu h
  reading_keeps AbsoluteY cpu h = read_keeps (address AbsoluteY cpu) cpu h
  reading_keeps IndexedIndirect cpu h = read_keeps (address IndexedIndirect cpu) cpu h
  reading_keeps IndirectIndexed cpu h = read_keeps (address IndirectIndexed cpu) cpu h

  changing_keeps : (mode : Mode) (byte : ℕ) (cpu : Cpu) → Has cpu → Has (writing (address mode cpu) byte (reading mode cpu))
  changing_keeps mode byte cpu h = write_keeps (address mode cpu) byte (reading mode cpu) (reading_keeps mode cpu h)

  flagging_keeps : (flag : Flag) (to : Bool) (cpu : Cpu) → Has cpu → Has (flagging flag to cpu)
  flagging_keeps Negative to cpu h = h
  flagging_keeps _ to cpu h = h

  does_keeps : (instr : Instr) (cpu : Cpu) → Has cpu → Has (does instr cpu)
  does_keeps (Load r mode) cpu h = setting_keeps r (operand mode cpu) (reading mode cpu) (reading_keeps mode cpu h)
  does_keeps (Store r mode) cpu h = write_keeps (address mode cpu) (of_register r cpu) cpu h
  does_keeps (Transfer from to) cpu h = setting_keeps to (of_register from cpu) (next 1 cpu) h
  does_keeps (And mode) cpu h = reading_keeps mode cpu h
  does_keeps (Or mode) cpu h = reading_keeps mode cpu h
  does_keeps (Xor mode) cpu h = reading_keeps mode cpu h
  does_keeps (Add mode) cpu h = reading_keeps mode cpu h
  does_keeps (Subtract mode) cpu h = reading_keeps mode cpu h
  does_keeps (Compare r mode) cpu h = reading_keeps mode cpu h
  does_keeps (TestBits mode) cpu h = reading_keeps mode cpu h
  does_keeps (Change mode by) cpu h = changing_keeps mode ((operand mode cpu + by) % 256) cpu h
  does_keeps (Step r by) cpu h = setting_keeps r ((of_register r cpu + by) % 256) (next 1 cpu) h
  does_keeps (ShiftAt shift mode) cpu h = changing_keeps mode (shifted shift cpu.c (operand mode cpu)) cpu h
  does_keeps (Set flag to) cpu h = flagging_keeps flag to (next 1 cpu) h
  does_keeps Call cpu h = write_keeps (stack_place (cpu.s + 255)) ((cpu.pc + 2) % 256)
      (writing (stack_place cpu.s) ((cpu.pc + 2) / 256) cpu)
      (write_keeps (stack_place cpu.s) ((cpu.pc + 2) / 256) cpu h)
  does_keeps JumpAt cpu h = read_keeps (beside cpu) (reads (address Absolute cpu) cpu) (read_keeps (address Absolute cpu) cpu h)
  does_keeps PushA cpu h = write_keeps (stack_place cpu.s) cpu.a cpu h
  does_keeps PushFlags cpu h = write_keeps (stack_place cpu.s) (flags_byte true cpu) cpu h
  does_keeps _ cpu h = h

  turn_keeps : (s : ℕ) (cpu : Cpu) → Has cpu → Has (turn s cpu)
  turn_keeps s cpu h = by (at_return s cpu)
    where
      by : (t : Bool) → Has (if t then cpu else step cpu)
      by true = h
      by false = does_keeps (decoded opcodes (cpu.mem cpu.pc)) cpu h

  amid_keeps : (guard : Guard) (s n : ℕ) (others : ℕ → ℕ → ℕ) (cpu : Cpu) → ((now : ℕ) → guard now b ≡ true)
      → AreHarmless guard s others n cpu → Has cpu → Has (amid s others n cpu)
  amid_keeps guard s zero others cpu is alone h = h
  amid_keeps guard s (suc n) others cpu is alone h =
      amid_keeps guard s n (λ k. others (suc k)) (turn s (changed (others 0) cpu)) is alone.1
      (turn_keeps s (changed (others 0) cpu) (alone.0 b (is cpu.s) ∙ h.0, h.1))

-- a byte of the vector RAM
pub in_ram : (a : ℕ) → a < 2048 → is_ram (0x4000 + a) ≡ true
in_ram a small = both_true (nat_le 0x4000 (0x4000 + a)) (nat_lt (0x4000 + a) 0x4800)
    (le-leb 0x4000 (0x4000 + a) (omega arith)) (le-leb (suc (0x4000 + a)) 0x4800 (omega arith))

no_flag : (a : ℕ) → nat_eq (0x4000 + a) flag_place ≡ false
no_flag a = elim (eqb_tells (0x4000 + a) flag_place) [ inl t ↦ absurd (omega (arith, t.1)) | inr t ↦ t.0 ]

call_has : (call : calls.Call) (olds : List calls.Call) → IsSession (call ∷ olds) → (a : ℕ) → a < 2048
    → ((calls.after call).mem (0x4000 + a)
    ≡ last_write (accesses_of call) (0x4000 + a) (call.from.mem (0x4000 + a)))
    × AreFound (0x4000 + a) (call.from.mem (0x4000 + a)) (omega arith) (no_flag a) (accesses_of call)
call_has call olds session a small =
    amid_keeps (0x4000 + a) (call.from.mem (0x4000 + a)) (omega arith) (no_flag a)
    (guards (is_kept (is_table call olds)) call.from.s) call.from.s call.steps call.others call.from
    (λ now. left_true (is_kept (is_table call olds) (0x4000 + a)) _ (kept_ram (is_table call olds) (0x4000 + a) (in_ram a small)))
    session.2 (
      sym (ap (λ l. last_write (seen l) (0x4000 + a) (call.from.mem (0x4000 + a))) session.0.log),
      subst (λ l. AreFound (0x4000 + a) (call.from.mem (0x4000 + a)) (omega arith) (no_flag a) (seen l)) (sym session.0.log) tt,
    )

pub call_ram : (call : calls.Call) (olds : List calls.Call) → IsSession (call ∷ olds) → (a : ℕ) → a < 2048
    → (calls.after call).mem (0x4000 + a)
    ≡ last_write (accesses_of call) (0x4000 + a) (call.from.mem (0x4000 + a))
call_ram call olds session a small = (call_has call olds session a small).0

-- what its newest read finds
pub call_finds : (call : calls.Call) (olds : List calls.Call) → IsSession (call ∷ olds) → (a byte : ℕ) → a < 2048
    → (log : List Access) → accesses_of call ≡ Reads (0x4000 + a) byte ∷ log
    → byte ≡ last_write log (0x4000 + a) (call.from.mem (0x4000 + a))
call_finds call olds session a byte small log newest =
    (subst (AreFound (0x4000 + a) (call.from.mem (0x4000 + a)) (omega arith) (no_flag a)) newest
    (call_has call olds session a small).1).0 refl
