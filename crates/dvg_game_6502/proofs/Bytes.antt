-- A 6502 of bytes stays one of bytes.
use Rattle.std.proofs.Common.{inl, inr, ℕ, ◌+◌, ◌-◌, ◌/◌, ◌%◌, ◌<◌, Bool, true, false, List, arith}
use Rattle.std.specs.Prelude.{nat_eq, if◌then◌else◌, bit_and, bit_or, bit_xor}
use Rattle.std.proofs.lemmas.Nat.{and_le_l, or_lt, xor_lt}
use Rattle.dvg_calls_6502.specs.Processor.{Mode, Immediate, ZeroPage, ZeroPageX, ZeroPageY, Absolute, AbsoluteX, AbsoluteY}
use Rattle.dvg_calls_6502.specs.Processor.{IndexedIndirect, IndirectIndexed, Flag, Negative, Zero, Carry, Overflow, Decimal}
use Rattle.dvg_calls_6502.specs.Processor.{Interrupt, Register, A, X, Y, Shift, Left, Right, RotateLeft, RotateRight, Instr}
use Rattle.dvg_calls_6502.specs.Processor.{Load, Store, Transfer, And, Or, Xor, Add, Subtract, Compare, TestBits, Change, Step}
use Rattle.dvg_calls_6502.specs.Processor.{ShiftAt, ShiftA, Set, Branch, Jump, JumpAt, Call, Return, PushA, PushFlags, PullA}
use Rattle.dvg_calls_6502.specs.Processor.{PullFlags, FromStack, ToStack, Resume, Pass, Unknown, opcodes, decoded, Cpu}
use Rattle.dvg_calls_6502.specs.Processor.{put, address, found, flag_place, operand, reading, next, setting, summing, subtracting}
use Rattle.dvg_calls_6502.specs.Processor.{of_register, flagging, shifted, changing, flags_byte, stack_place, does}
use Rattle.dvg_calls_6502.proofs.Memory.{put_small}
use Rattle.dvg_calls_6502.proofs.Resuming.{bit_small}
use Rattle.dvg_game_rules.specs.Alike.{of_cpu}
use Rattle.dvg_game_rules.proofs.Facts.{inside}
use Rattle.dvg_game_rules.proofs.Memory.{between}
use Rattle.dvg_game_6502.specs.Play.{IsByteWide, done, fresh}
use Rattle.dvg_game_6502.proofs.Bearers.{Bearer}
use Rattle.dvg_game_6502.proofs.GameSteps.{flags_small}
use Rattle.dvg_game_6502.proofs.Stages.{IsAccepted, Stage, safe_at}

shifted_small : (shift : Shift) (carry : Bool) (old : ℕ) → old < 256 → shifted shift carry old < 256
shifted_small Right carry old small = omega (arith, small)
shifted_small RotateRight carry old small = let bit = bit_small carry in omega (arith, small, bit)
shifted_small _ carry old small = omega arith

-- a register is set to a byte
set_bytes : (r : Register) (byte : ℕ) (cpu : Cpu) → byte < 256 → IsByteWide cpu → IsByteWide (setting r byte cpu)
set_bytes A byte cpu small bytes = record { a = small; x = bytes.x; y = bytes.y; s = bytes.s; mem = bytes.mem }
set_bytes X byte cpu small bytes = record { a = bytes.a; x = small; y = bytes.y; s = bytes.s; mem = bytes.mem }
set_bytes Y byte cpu small bytes = record { a = bytes.a; x = bytes.x; y = small; s = bytes.s; mem = bytes.mem }

flag_bytes : (flag : Flag) (to : Bool) (cpu : Cpu) → IsByteWide cpu → IsByteWide (flagging flag to cpu)
flag_bytes Negative to cpu bytes = record { a = bytes.a; x = bytes.x; y = bytes.y; s = bytes.s; mem = bytes.mem }
flag_bytes _ to cpu bytes = record { a = bytes.a; x = bytes.x; y = bytes.y; s = bytes.s; mem = bytes.mem }

sum_bytes : (byte : ℕ) (cpu : Cpu) → IsByteWide cpu → IsByteWide (summing byte cpu)
sum_bytes byte cpu bytes = record { a = omega arith; x = bytes.x; y = bytes.y; s = bytes.s; mem = bytes.mem }

difference_bytes : (byte : ℕ) (cpu : Cpu) → IsByteWide cpu → IsByteWide (subtracting byte cpu)
difference_bytes byte cpu bytes = record { a = omega arith; x = bytes.x; y = bytes.y; s = bytes.s; mem = bytes.mem }

module _ (cpu : Cpu) (bytes : IsByteWide cpu) (flag : cpu.flags 0 < 256) where
  found_small : (a : ℕ) → found a cpu < 256
  found_small a = by (nat_eq a flag_place)
    where
      by : (t : Bool) → (if t then cpu.flags 0 else cpu.mem a) < 256
      by true = flag
      by false = bytes.mem a

  operand_small : (mode : Mode) → operand mode cpu < 256
  operand_small Immediate = bytes.mem (cpu.pc + 1)
  operand_small ZeroPage = found_small (address ZeroPage cpu)
  operand_small ZeroPageX = found_small (address ZeroPageX cpu)
  operand_small ZeroPageY = found_small (address ZeroPageY cpu)
  operand_small Absolute = found_small (address Absolute cpu)
  operand_small AbsoluteX = found_small (address AbsoluteX cpu)
  operand_small AbsoluteY = found_small (address AbsoluteY cpu)
  operand_small IndexedIndirect = found_small (address IndexedIndirect cpu)
  operand_small IndirectIndexed = found_small (address IndirectIndexed cpu)

  reading_bytes : (mode : Mode) → IsByteWide (reading mode cpu)
  reading_bytes Immediate = record { a = bytes.a; x = bytes.x; y = bytes.y; s = bytes.s; mem = bytes.mem }
  reading_bytes _ = record { a = bytes.a; x = bytes.x; y = bytes.y; s = bytes.s; mem = bytes.mem }

  register_small : (r : Register) → of_register r cpu < 256
  register_small A = bytes.a
  register_small X = bytes.x
  register_small Y = bytes.y

  next_bytes : (n : ℕ) → IsByteWide (next n cpu)
  next_bytes n = record { a = bytes.a; x = bytes.x; y = bytes.y; s = bytes.s; mem = bytes.mem }

  change_bytes : (mode : Mode) (byte : ℕ) → byte < 256 → IsByteWide (changing mode byte cpu)
  change_bytes mode byte small = let r = reading_bytes mode in record {
    a = r.a;
    x = r.x;
    y = r.y;
    s = r.s;
    mem = put_small (address mode cpu) byte (reading mode cpu).mem small r.mem;
  }

  does_bytes : (instr : Instr) → cpu.pc < 65534 → IsByteWide (does instr cpu)
  does_bytes (Load r mode) low = set_bytes r (operand mode cpu) (reading mode cpu) (operand_small mode) (reading_bytes mode)
  does_bytes (Store r mode) low = record {
    a = bytes.a;
    x = bytes.x;
    y = bytes.y;
    s = bytes.s;
    mem = put_small (address mode cpu) (of_register r cpu) cpu.mem (register_small r) bytes.mem;
  }
  does_bytes (Transfer from to) low = set_bytes to (of_register from cpu) (next 1 cpu) (register_small from) (next_bytes 1)
  does_bytes (And mode) low =
      let a = bytes.a in let less = and_le_l cpu.a (operand mode cpu) in
      set_bytes A (bit_and cpu.a (operand mode cpu)) (reading mode cpu) (omega (arith, a, less)) (reading_bytes mode)
  does_bytes (Or mode) low = set_bytes A (bit_or cpu.a (operand mode cpu)) (reading mode cpu)
      (or_lt 8 cpu.a (operand mode cpu) bytes.a (operand_small mode)) (reading_bytes mode)
  does_bytes (Xor mode) low = set_bytes A (bit_xor cpu.a (operand mode cpu)) (reading mode cpu)
      (xor_lt 8 cpu.a (operand mode cpu) bytes.a (operand_small mode)) (reading_bytes mode)
  does_bytes (Add mode) low = sum_bytes (operand mode cpu) (reading mode cpu) (reading_bytes mode)
  does_bytes (Subtract mode) low = difference_bytes (255 - operand mode cpu) (reading mode cpu) (reading_bytes mode)
  does_bytes (Compare r mode) low = let now = reading_bytes mode in
      record { a = now.a; x = now.x; y = now.y; s = now.s; mem = now.mem }
  does_bytes (TestBits mode) low = let now = reading_bytes mode in
      record { a = now.a; x = now.x; y = now.y; s = now.s; mem = now.mem }
  does_bytes (Change mode by) low = change_bytes mode ((operand mode cpu + by) % 256) (omega arith)
  does_bytes (Step r by) low = set_bytes r ((of_register r cpu + by) % 256) (next 1 cpu) (omega arith) (next_bytes 1)
  does_bytes (ShiftAt shift mode) low =
      let now = change_bytes mode (shifted shift cpu.c (operand mode cpu))
      (shifted_small shift cpu.c (operand mode cpu) (operand_small mode)) in
      record { a = now.a; x = now.x; y = now.y; s = now.s; mem = now.mem }
  does_bytes (ShiftA shift) low =
      let now = set_bytes A (shifted shift cpu.c cpu.a) (next 1 cpu) (shifted_small shift cpu.c cpu.a bytes.a)
      (next_bytes 1) in
      record { a = now.a; x = now.x; y = now.y; s = now.s; mem = now.mem }
  does_bytes (Set flag to) low = flag_bytes flag to (next 1 cpu) (next_bytes 1)
  does_bytes Call low = record {
    a = bytes.a;
    x = bytes.x;
    y = bytes.y;
    s = omega arith;
    mem = put_small (stack_place (cpu.s + 255)) ((cpu.pc + 2) % 256)
        (put (stack_place cpu.s) ((cpu.pc + 2) / 256) cpu.mem) (omega arith)
        (put_small (stack_place cpu.s) ((cpu.pc + 2) / 256) cpu.mem (omega (arith, low)) bytes.mem);
  }
  does_bytes Return low = record { a = bytes.a; x = bytes.x; y = bytes.y; s = omega arith; mem = bytes.mem }
  does_bytes PushA low = record {
    a = bytes.a;
    x = bytes.x;
    y = bytes.y;
    s = omega arith;
    mem = put_small (stack_place cpu.s) cpu.a cpu.mem bytes.a bytes.mem;
  }
  does_bytes PushFlags low = record {
    a = bytes.a;
    x = bytes.x;
    y = bytes.y;
    s = omega arith;
    mem = put_small (stack_place cpu.s) (flags_byte true cpu) cpu.mem (flags_small true cpu) bytes.mem;
  }
  does_bytes PullA low = record {
    a = bytes.mem (stack_place (cpu.s + 1));
    x = bytes.x;
    y = bytes.y;
    s = omega arith;
    mem = bytes.mem;
  }
  does_bytes PullFlags low = record { a = bytes.a; x = bytes.x; y = bytes.y; s = omega arith; mem = bytes.mem }
  does_bytes FromStack low = record { a = bytes.a; x = bytes.s; y = bytes.y; s = bytes.s; mem = bytes.mem }
  does_bytes ToStack low = record { a = bytes.a; x = bytes.x; y = bytes.y; s = bytes.x; mem = bytes.mem }
  does_bytes Resume low = record { a = bytes.a; x = bytes.x; y = bytes.y; s = omega arith; mem = bytes.mem }
  does_bytes Unknown low = bytes
  does_bytes _ low = record { a = bytes.a; x = bytes.x; y = bytes.y; s = bytes.s; mem = bytes.mem }

-- an instruction, where the flag answers with a byte
pub done_bytes : (flags : ℕ → ℕ) (cpu : Cpu) → IsByteWide cpu → flags 0 < 256 → cpu.pc < 65534 → IsByteWide (done flags cpu)
done_bytes flags cpu bytes small low = does_bytes (fresh flags cpu) record { a = bytes.a; x = bytes.x; y = bytes.y; s = bytes.s; mem = bytes.mem } small
    (decoded opcodes (cpu.mem cpu.pc)) low

-- so wherever a play stands
pub stage_bytes : {R : List ℕ} {B : Bearer R} {rom : ℕ → ℕ} {start : ℕ} → IsAccepted rom start
    → {cpu : Cpu} {since : ℕ} {w : B.World} (flags : ℕ → ℕ) → flags 0 < 256 → Stage R B rom start cpu since w
    → IsByteWide (done flags cpu)
stage_bytes game {cpu} flags small (inl g) =
    let high = (inside cpu.pc (safe_at game (of_cpu cpu g.st) g.run).inside).1 in
    done_bytes flags cpu g.bytes small (omega (arith, high))
stage_bytes game {cpu} flags small (inr (inl d)) =
    let high = (between 0x6800 0x6A87 cpu.pc d.place).1 in done_bytes flags cpu d.bytes small (omega (arith, high))
stage_bytes game {cpu} flags small (inr (inr n)) =
    let high = (inside cpu.pc (safe_at game (of_cpu cpu n.st) n.run).inside).1 in
    done_bytes flags cpu n.bytes small (omega (arith, high))
