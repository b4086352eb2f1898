-- What instructions leave that store nothing, or at an address of the zero page.
use Rattle.std.proofs.Common.{◌≡◌, ℕ, ◌+◌, Bool, true, false, refl, sym, ap, ◌∙◌}
use Rattle.dvg_calls_6502.specs.Processor.{Cpu, Register, A, X, Y, Instr, Mode, Immediate, ZeroPage, put}
use Rattle.dvg_calls_6502.specs.Processor.{does, reading, setting, ZeroPageX, ZeroPageY, Absolute, AbsoluteX, AbsoluteY}
use Rattle.dvg_calls_6502.specs.Processor.{IndexedIndirect, size}
use Rattle.dvg_calls_6502.specs.Processor.{IndirectIndexed, Load, Store, Transfer, And, Or, Xor, Compare}
use Rattle.dvg_calls_6502.specs.Processor.{TestBits, Change, Step, ShiftAt, ShiftA, Set, Flag, Negative, Zero, Carry}
use Rattle.dvg_calls_6502.specs.Processor.{Overflow, Decimal, Interrupt, flagging, operand, next}
use Rattle.dvg_game_6502.proofs.Claims.{is_quiet, is_storing, length_of, sets}

-- registers that aren't set, S, and the next address
pub record Goes (instr : Instr) (cpu new : Cpu) : Type 0 where
  pub pc : new.pc ≡ cpu.pc + length_of instr
  pub s : new.s ≡ cpu.s
  pub a : sets A instr ≡ false → new.a ≡ cpu.a
  pub x : sets X instr ≡ false → new.x ≡ cpu.x
  pub y : sets Y instr ≡ false → new.y ≡ cpu.y

-- where also memory is the same
pub record Quiet (instr : Instr) (cpu new : Cpu) : Type 0 where
  pub goes : Goes instr cpu new
  pub mem : new.mem ≡ cpu.mem

-- a byte was taken
record Read (mode : Mode) (cpu new : Cpu) : Type 0 where
  pc : new.pc ≡ cpu.pc + size mode
  s : new.s ≡ cpu.s
  a : new.a ≡ cpu.a
  x : new.x ≡ cpu.x
  y : new.y ≡ cpu.y
  mem : new.mem ≡ cpu.mem

read : (mode : Mode) (cpu : Cpu) → Read mode cpu (reading mode cpu)
read Immediate cpu = record { pc = refl; s = refl; a = refl; x = refl; y = refl; mem = refl }
read _ cpu = record { pc = refl; s = refl; a = refl; x = refl; y = refl; mem = refl }

-- A, X or Y is set after a byte was taken
a_set : (instr : Instr) (mode : Mode) (cpu k : Cpu) (byte : ℕ) → Read mode cpu k → length_of instr ≡ size mode
    → sets A instr ≡ true → Quiet instr cpu (setting A byte k)
a_set instr mode cpu k byte r bytes set = record {
  goes = record {
    pc = r.pc ∙ ap (λ b. cpu.pc + b) (sym bytes);
    s = r.s;
    a = λ off. absurd (let e = sym set ∙ off in cc);
    x = λ off. r.x;
    y = λ off. r.y;
  };
  mem = r.mem;
}

loads : (r : Register) (mode : Mode) (cpu : Cpu) → Quiet (Load r mode) cpu (does (Load r mode) cpu)
loads A mode cpu = a_set (Load A mode) mode cpu (reading mode cpu) (operand mode cpu) (read mode cpu) refl refl
loads X mode cpu = let r = read mode cpu in record {
  goes = record { pc = r.pc; s = r.s; a = λ off. r.a; x = λ off. absurd (cc); y = λ off. r.y };
  mem = r.mem;
}
loads Y mode cpu = let r = read mode cpu in record {
  goes = record { pc = r.pc; s = r.s; a = λ off. r.a; x = λ off. r.x; y = λ off. absurd (cc) };
  mem = r.mem;
}

moves : (from to : Register) (cpu : Cpu) → Quiet (Transfer from to) cpu (does (Transfer from to) cpu)
moves from A cpu = record {
  goes = record { pc = refl; s = refl; a = λ off. absurd (cc); x = λ off. refl; y = λ off. refl };
  mem = refl;
}
moves from X cpu = record {
  goes = record { pc = refl; s = refl; a = λ off. refl; x = λ off. absurd (cc); y = λ off. refl };
  mem = refl;
}
moves from Y cpu = record {
  goes = record { pc = refl; s = refl; a = λ off. refl; x = λ off. refl; y = λ off. absurd (cc) };
  mem = refl;
}

steps : (r : Register) (by : ℕ) (cpu : Cpu) → Quiet (Step r by) cpu (does (Step r by) cpu)
steps A by cpu = record {
  goes = record { pc = refl; s = refl; a = λ off. absurd (cc); x = λ off. refl; y = λ off. refl };
  mem = refl;
}
steps X by cpu = record {
  goes = record { pc = refl; s = refl; a = λ off. refl; x = λ off. absurd (cc); y = λ off. refl };
  mem = refl;
}
steps Y by cpu = record {
  goes = record { pc = refl; s = refl; a = λ off. refl; x = λ off. refl; y = λ off. absurd (cc) };
  mem = refl;
}

-- only flags are set
flags_set : (instr : Instr) (cpu new : Cpu) → new.pc ≡ cpu.pc + length_of instr → new.s ≡ cpu.s → new.a ≡ cpu.a
    → new.x ≡ cpu.x → new.y ≡ cpu.y → new.mem ≡ cpu.mem → Quiet instr cpu new
flags_set instr cpu new pc s a x y mem = record {
  goes = record { pc = pc; s = s; a = λ off. a; x = λ off. x; y = λ off. y };
  mem = mem;
}

sets_flag : (flag : Flag) (to : Bool) (cpu : Cpu) → Quiet (Set flag to) cpu (flagging flag to (next 1 cpu))
sets_flag Negative to cpu = flags_set (Set Negative to) cpu _ refl refl refl refl refl refl
sets_flag Zero to cpu = flags_set (Set Zero to) cpu _ refl refl refl refl refl refl
sets_flag Carry to cpu = flags_set (Set Carry to) cpu _ refl refl refl refl refl refl
sets_flag Overflow to cpu = flags_set (Set Overflow to) cpu _ refl refl refl refl refl refl
sets_flag Decimal to cpu = flags_set (Set Decimal to) cpu _ refl refl refl refl refl refl
sets_flag Interrupt to cpu = flags_set (Set Interrupt to) cpu _ refl refl refl refl refl refl

pub quiet : (instr : Instr) (cpu : Cpu) → is_quiet instr ≡ true → Quiet instr cpu (does instr cpu)
quiet (Load r mode) cpu is = loads r mode cpu
quiet (Transfer from to) cpu is = moves from to cpu
quiet (And mode) cpu is = a_set (And mode) mode cpu (reading mode cpu) _ (read mode cpu) refl refl
quiet (Or mode) cpu is = a_set (Or mode) mode cpu (reading mode cpu) _ (read mode cpu) refl refl
quiet (Xor mode) cpu is = a_set (Xor mode) mode cpu (reading mode cpu) _ (read mode cpu) refl refl
quiet (Compare r mode) cpu is = let k = read mode cpu in
    flags_set (Compare r mode) cpu _ k.pc k.s k.a k.x k.y k.mem
quiet (TestBits mode) cpu is = let k = read mode cpu in
    flags_set (TestBits mode) cpu _ k.pc k.s k.a k.x k.y k.mem
quiet (Step r by) cpu is = steps r by cpu
quiet (ShiftA shift) cpu is = record {
  goes = record { pc = refl; s = refl; a = λ off. absurd (cc); x = λ off. refl; y = λ off. refl };
  mem = refl;
}
quiet (Set flag to) cpu is = sets_flag flag to cpu
quiet instr cpu is = absurd (cc)

-- what it stores, where the instruction's second byte says
pub record Stored (instr : Instr) (cpu new : Cpu) : Type 0 where
  pub goes : Goes instr cpu new
  pub byte : ℕ
  pub mem : new.mem ≡ put (cpu.mem (cpu.pc + 1)) byte cpu.mem

stores_it : (instr : Instr) (cpu new : Cpu) (byte : ℕ) → new.pc ≡ cpu.pc + length_of instr → new.s ≡ cpu.s
    → new.a ≡ cpu.a → new.x ≡ cpu.x → new.y ≡ cpu.y → new.mem ≡ put (cpu.mem (cpu.pc + 1)) byte cpu.mem
    → Stored instr cpu new
stores_it instr cpu new byte pc s a x y mem = record {
  goes = record { pc = pc; s = s; a = λ off. a; x = λ off. x; y = λ off. y };
  byte = byte;
  mem = mem;
}

pub stored : (instr : Instr) (cpu : Cpu) → is_storing instr ≡ true → Stored instr cpu (does instr cpu)
stored (Store r ZeroPage) cpu is = stores_it (Store r ZeroPage) cpu _ _ refl refl refl refl refl refl
stored (Change ZeroPage by) cpu is = stores_it (Change ZeroPage by) cpu _ _ refl refl refl refl refl refl
stored (ShiftAt shift ZeroPage) cpu is = stores_it (ShiftAt shift ZeroPage) cpu _ _ refl refl refl refl refl refl
stored instr cpu is = absurd (cc)
