-- Each step of the processor is a step of the machine here, by the kinds of its instructions.
use Rattle.std.proofs.Common.{◌≡◌, ℕ, ◌+◌, ◌*◌, ◌%◌, ◌<◌, Bool, true, false, refl, sym, ap, ◌∙◌, arith}
use Rattle.std.specs.Prelude.{if◌then◌else◌, None, Option}
use Rattle.dvg_calls_6502.specs.Processor
use Rattle.dvg_calls_6502.specs.Processor.{Cpu, Instr, Register, A, X, Y, put, decoded, opcodes, operand, reading, is_so}
use Rattle.dvg_calls_6502.specs.Processor.{of_flag}
use Rattle.dvg_game_rules.specs.Kinds.{Sets, Nothing, Only, Place, ZeroPage, ZeroPageIndexed, Absolute, AbsoluteIndexed, size}
use Rattle.dvg_game_rules.specs.Kinds.{Kind, Quiet, Reads, Transfer, Stores, Jump, Call, Finish, Wild, kind, taking, storing}
use Rattle.dvg_game_rules.specs.Machine.{State, Choice, does, word_at, is_driver, goes_home, resumed_at}
use Rattle.dvg_game_rules.specs.Machine.{returned, driven, called, of_register}
use Rattle.dvg_game_rules.specs.Alike.{of_cpu, MatchesCpu, IsOwn, StepsAlike, InterruptsAlike}
use Rattle.dvg_game_rules.proofs.LocalKinds.{ticked}

-- choices of the machine: registers and memory as they are after the instruction
left_as : Cpu → (index byte : ℕ) → (taken : Bool) → Choice
left_as after index byte taken = record {
  a = after.a;
  x = after.x;
  y = after.y;
  index = index;
  byte = byte;
  taken = taken;
  left = after.mem;
  since = 0;
  place = 0;
  deep = 0;
}

-- a step of this kind leaves the processor's state
abbrev Leads : Kind → Cpu → (after : Cpu) → State → Type 0
Leads kind cpu after st = (choice : Choice) × MatchesCpu (does kind choice (ticked (of_cpu cpu st))) after

-- registers but one are as they were
abbrev Kept : Sets → (cpu after : Cpu) → Type 0
Kept Nothing cpu after = (after.a ≡ cpu.a) × (after.x ≡ cpu.x) × (after.y ≡ cpu.y)
Kept (Only A) cpu after = (after.x ≡ cpu.x) × (after.y ≡ cpu.y)
Kept (Only X) cpu after = (after.a ≡ cpu.a) × (after.y ≡ cpu.y)
Kept (Only Y) cpu after = (after.a ≡ cpu.a) × (after.x ≡ cpu.x)

-- memory and S are as they were, too
record Spares (sets : Sets) (bytes : ℕ) (cpu after : Cpu) : Type 0 where
  mem : after.mem ≡ cpu.mem
  s : after.s ≡ cpu.s
  kept : Kept sets cpu after
  pc : after.pc ≡ cpu.pc + bytes

quiet_leads : (sets : Sets) (bytes : ℕ) (cpu after : Cpu) (st : State) → Spares sets bytes cpu after
    → Leads (Quiet sets bytes) cpu after st
unfolding left_as
quiet_leads Nothing bytes cpu after st is = (
  left_as after 0 0 false,
  record {
    a = sym is.kept.0;
    x = sym is.kept.1;
    y = sym is.kept.2;
    pc = sym is.pc;
    s = sym is.s;
    mem = λ b. ap (λ m. m b) (sym is.mem);
  },
)
quiet_leads (Only A) bytes cpu after st is = (
  left_as after 0 0 false,
  record {
    a = refl;
    x = sym is.kept.0;
    y = sym is.kept.1;
    pc = sym is.pc;
    s = sym is.s;
    mem = λ b. ap (λ m. m b) (sym is.mem);
  },
)
quiet_leads (Only X) bytes cpu after st is = (
  left_as after 0 0 false,
  record {
    a = sym is.kept.0;
    x = refl;
    y = sym is.kept.1;
    pc = sym is.pc;
    s = sym is.s;
    mem = λ b. ap (λ m. m b) (sym is.mem);
  },
)
quiet_leads (Only Y) bytes cpu after st is = (
  left_as after 0 0 false,
  record {
    a = sym is.kept.0;
    x = sym is.kept.1;
    y = refl;
    pc = sym is.pc;
    s = sym is.s;
    mem = λ b. ap (λ m. m b) (sym is.mem);
  },
)

-- one that reads is as quiet
reads_leads : (sets : Sets) (place : Place) (cpu after : Cpu) (st : State) → Spares sets (size place) cpu after
    → Leads (Reads sets place) cpu after st
reads_leads Nothing place cpu after st is = quiet_leads Nothing (size place) cpu after st is
reads_leads (Only A) place cpu after st is = quiet_leads (Only A) (size place) cpu after st is
reads_leads (Only X) place cpu after st is = quiet_leads (Only X) (size place) cpu after st is
reads_leads (Only Y) place cpu after st is = quiet_leads (Only Y) (size place) cpu after st is

takes : (sets : Sets) (mode : Processor.Mode) (cpu after : Cpu) (st : State)
    → Spares sets (Processor.size mode) cpu after → Leads (taking sets mode) cpu after st
takes sets Processor.Absolute cpu after st is = reads_leads sets Absolute cpu after st is
takes sets Processor.AbsoluteX cpu after st is = reads_leads sets AbsoluteIndexed cpu after st is
takes sets Processor.AbsoluteY cpu after st is = reads_leads sets AbsoluteIndexed cpu after st is
takes sets _ cpu after st is = quiet_leads sets 2 cpu after st is

-- a byte was taken
read : (mode : Processor.Mode) (cpu : Cpu) → Spares Nothing (Processor.size mode) cpu (reading mode cpu)
read Processor.Immediate cpu = record { mem = refl; s = refl; kept = (refl, refl, refl); pc = refl }
read _ cpu = record { mem = refl; s = refl; kept = (refl, refl, refl); pc = refl }

-- it has one byte, and takes none
passed : (cpu : Cpu) → Spares Nothing 1 cpu (Processor.next 1 cpu)
passed cpu = record { mem = refl; s = refl; kept = (refl, refl, refl); pc = refl }

-- then a register is set
set : (r : Register) (byte bytes : ℕ) (cpu one : Cpu) → Spares Nothing bytes cpu one
    → Spares (Only r) bytes cpu (Processor.setting r byte one)
set A byte bytes cpu one is = record { mem = is.mem; s = is.s; kept = (is.kept.1, is.kept.2); pc = is.pc }
set X byte bytes cpu one is = record { mem = is.mem; s = is.s; kept = (is.kept.0, is.kept.2); pc = is.pc }
set Y byte bytes cpu one is = record { mem = is.mem; s = is.s; kept = (is.kept.0, is.kept.1); pc = is.pc }

-- or a flag
flagged : (flag : Processor.Flag) (to : Bool) (cpu : Cpu)
    → Spares Nothing 1 cpu (Processor.flagging flag to (Processor.next 1 cpu))
flagged Processor.Negative to cpu = record { mem = refl; s = refl; kept = (refl, refl, refl); pc = refl }
flagged _ to cpu = record { mem = refl; s = refl; kept = (refl, refl, refl); pc = refl }

-- a byte was written where the instruction says
record Writes (mode : Processor.Mode) (byte : ℕ) (cpu after : Cpu) : Type 0 where
  a : after.a ≡ cpu.a
  x : after.x ≡ cpu.x
  y : after.y ≡ cpu.y
  pc : after.pc ≡ cpu.pc + Processor.size mode
  s : after.s ≡ cpu.s
  mem : (b : ℕ) → after.mem b ≡ put (Processor.address mode cpu) byte cpu.mem b

-- PC, S and memory are any
wild : (cpu after : Cpu) (st : State) → after.a ≡ cpu.a → after.x ≡ cpu.x → after.y ≡ cpu.y → Leads Wild cpu after st
unfolding left_as
wild cpu after st a x y = (
  left_as after after.s after.pc false,
  record { a = sym a; x = sym x; y = sym y; pc = refl; s = refl; mem = λ b. refl },
)

-- a store to this address
at_address : (place : Place) (index byte : ℕ) (mode : Processor.Mode) (cpu after : Cpu) (st : State)
    → Writes mode byte cpu after → Processor.size mode ≡ size place
    → Processor.address mode cpu ≡ Rattle.dvg_game_rules.specs.Machine.address place cpu.mem cpu.pc index
    → Leads (Stores place) cpu after st
unfolding left_as
at_address place index byte mode cpu after st is long there = (
  left_as after index byte false,
  record {
    a = sym is.a;
    x = sym is.x;
    y = sym is.y;
    pc = ap (λ n. cpu.pc + n) (sym long) ∙ sym is.pc;
    s = sym is.s;
    mem = λ b. ap (λ q. put q byte cpu.mem b) (sym there) ∙ sym (is.mem b);
  },
)

next_word : (cpu : Cpu) → Processor.address Processor.Absolute cpu ≡ word_at cpu.mem (cpu.pc + 1)
next_word cpu = ap (λ q. cpu.mem (cpu.pc + 1) + 256 * cpu.mem q) (let e : cpu.pc + 2 ≡ cpu.pc + 1 + 1 =
    omega arith in e)

indexed : (cpu : Cpu) (index : ℕ) → index < 256
    → (Processor.address Processor.Absolute cpu + index) % 65536 ≡ (word_at cpu.mem (cpu.pc + 1) + index % 256) % 65536
indexed cpu index small = ap (λ w. (w + index) % 65536) (next_word cpu)
    ∙ ap (λ i. (word_at cpu.mem (cpu.pc + 1) + i) % 65536) (let e : index ≡ index % 256 = omega (arith, small) in e)

stores : (mode : Processor.Mode) (byte : ℕ) (cpu after : Cpu) (st : State) → IsOwn (storing mode) cpu st
    → Writes mode byte cpu after → Leads (storing mode) cpu after st
stores Processor.ZeroPage byte cpu after st own is =
    at_address ZeroPage 0 byte Processor.ZeroPage cpu after st is refl refl
stores Processor.ZeroPageX byte cpu after st own is =
    at_address ZeroPageIndexed cpu.x byte Processor.ZeroPageX cpu after st is refl refl
stores Processor.ZeroPageY byte cpu after st own is =
    at_address ZeroPageIndexed cpu.y byte Processor.ZeroPageY cpu after st is refl refl
stores Processor.Absolute byte cpu after st own is =
    at_address Absolute 0 byte Processor.Absolute cpu after st is refl (next_word cpu)
stores Processor.AbsoluteX byte cpu after st own is =
    at_address AbsoluteIndexed cpu.x byte Processor.AbsoluteX cpu after st is refl (indexed cpu cpu.x own.0)
stores Processor.AbsoluteY byte cpu after st own is =
    at_address AbsoluteIndexed cpu.y byte Processor.AbsoluteY cpu after st is refl (indexed cpu cpu.y own.1)
stores _ byte cpu after st own is = wild cpu after st is.a is.x is.y

-- a store, and a byte that is changed
stored : (mode : Processor.Mode) (byte : ℕ) (cpu : Cpu) → Writes mode byte cpu
    (Processor.next (Processor.size mode) (Processor.writing (Processor.address mode cpu) byte cpu))
stored mode byte cpu = record { a = refl; x = refl; y = refl; pc = refl; s = refl; mem = λ b. refl }

changed : (mode : Processor.Mode) (byte : ℕ) (cpu : Cpu) → Writes mode byte cpu (Processor.changing mode byte cpu)
changed mode byte cpu =
    let is = read mode cpu in
    record {
      a = is.kept.0;
      x = is.kept.1;
      y = is.kept.2;
      pc = is.pc;
      s = is.s;
      mem = λ b. ap (λ m. put (Processor.address mode cpu) byte m b) is.mem;
    }

-- TAX and its like
same_register : (from : Register) (cpu : Cpu) (st : State)
    → of_register from (ticked (of_cpu cpu st)) ≡ Processor.of_register from cpu
same_register A cpu st = refl
same_register _ cpu st = refl

transfers : (from to : Register) (cpu : Cpu) (st : State)
    → Leads (Transfer from to) cpu (Processor.does (Processor.Transfer from to) cpu) st
unfolding left_as
transfers from A cpu st = (
  left_as cpu 0 0 false,
  record { a = same_register from cpu st; x = refl; y = refl; pc = refl; s = refl; mem = λ b. refl },
)
transfers from X cpu st = (
  left_as cpu 0 0 false,
  record { a = refl; x = same_register from cpu st; y = refl; pc = refl; s = refl; mem = λ b. refl },
)
transfers from Y cpu st = (
  left_as cpu 0 0 false,
  record { a = refl; x = refl; y = same_register from cpu st; pc = refl; s = refl; mem = λ b. refl },
)

jumps : (cpu : Cpu) (st : State) → is_driver (word_at cpu.mem (cpu.pc + 1)) ≡ false
    → Leads Jump cpu (Processor.does Processor.Jump cpu) st
unfolding left_as
jumps cpu st go = (left_as cpu 0 0 false, by (is_driver (word_at cpu.mem (cpu.pc + 1))) go)
  where
    one : State
    one = ticked (of_cpu cpu st)

    by : (t : Bool) → t ≡ false
        → MatchesCpu (if t then returned (driven (word_at cpu.mem (cpu.pc + 1)) (left_as cpu 0 0 false) one)
        else record one { pc = word_at cpu.mem (cpu.pc + 1) }) (Processor.does Processor.Jump cpu)
    by true is = absurd (cc)
    by false is = record { a = refl; x = refl; y = refl; pc = sym (next_word cpu); s = refl; mem = λ b. refl }

calls : (cpu : Cpu) (st : State) → is_driver (word_at cpu.mem (cpu.pc + 1)) ≡ false
    → Leads Call cpu (Processor.does Processor.Call cpu) st
unfolding left_as
calls cpu st go = (left_as cpu 0 0 false, by (is_driver (word_at cpu.mem (cpu.pc + 1))) go)
  where
    one : State
    one = ticked (of_cpu cpu st)

    by : (t : Bool) → t ≡ false
        → MatchesCpu (if t then record (driven (word_at cpu.mem (cpu.pc + 1)) (left_as cpu 0 0 false) one) {
          pc = cpu.pc + 3;
        }
        else called (word_at cpu.mem (cpu.pc + 1)) one) (Processor.does Processor.Call cpu)
    by true is = absurd (cc)
    by false is = record { a = refl; x = refl; y = refl; pc = sym (next_word cpu); s = refl; mem = λ b. refl }

resumes : (cpu : Cpu) (st : State) → st.home ≡ None → Leads Finish cpu (Processor.does Processor.Resume cpu) st
unfolding left_as
resumes cpu st out = (left_as cpu 0 0 false, by st.home out)
  where
    one : State
    one = ticked (of_cpu cpu st)

    by : (home : Option (ℕ × ℕ)) → home ≡ None
        → MatchesCpu (goes_home home (record one {
          pc = resumed_at one;
          s = (one.s + 3) % 256;
          amid = None;
          home = None;
        }))
        (Processor.does Processor.Resume cpu)
    by None is = record { a = refl; x = refl; y = refl; pc = refl; s = refl; mem = λ b. refl }
    by (Option.Some place) is = absurd (cc)

-- each instruction
alike : (i : Instr) (cpu : Cpu) (st : State) → IsOwn (kind i) cpu st → Leads (kind i) cpu (Processor.does i cpu) st
unfolding left_as
alike (Processor.Load r mode) cpu st own =
    takes (Only r) mode cpu _ st (set r (operand mode cpu) (Processor.size mode) cpu (reading mode cpu) (read mode cpu))
alike (Processor.Store r mode) cpu st own =
    stores mode (Processor.of_register r cpu) cpu _ st own (stored mode (Processor.of_register r cpu) cpu)
alike (Processor.Transfer from to) cpu st own = transfers from to cpu st
alike (Processor.And mode) cpu st own =
    takes (Only A) mode cpu _ st (set A _ (Processor.size mode) cpu (reading mode cpu) (read mode cpu))
alike (Processor.Or mode) cpu st own =
    takes (Only A) mode cpu _ st (set A _ (Processor.size mode) cpu (reading mode cpu) (read mode cpu))
alike (Processor.Xor mode) cpu st own =
    takes (Only A) mode cpu _ st (set A _ (Processor.size mode) cpu (reading mode cpu) (read mode cpu))
alike (Processor.Add mode) cpu st own = let is = read mode cpu in
    takes (Only A) mode cpu _ st (record { mem = is.mem; s = is.s; kept = (is.kept.1, is.kept.2); pc = is.pc })
alike (Processor.Subtract mode) cpu st own = let is = read mode cpu in
    takes (Only A) mode cpu _ st (record { mem = is.mem; s = is.s; kept = (is.kept.1, is.kept.2); pc = is.pc })
alike (Processor.Compare r mode) cpu st own = let is = read mode cpu in
    takes Nothing mode cpu _ st (record { mem = is.mem; s = is.s; kept = is.kept; pc = is.pc })
alike (Processor.TestBits mode) cpu st own = let is = read mode cpu in
    takes Nothing mode cpu _ st (record { mem = is.mem; s = is.s; kept = is.kept; pc = is.pc })
alike (Processor.Change mode by) cpu st own = let byte = (operand mode cpu + by) % 256 in
    stores mode byte cpu _ st own (changed mode byte cpu)
alike (Processor.Step r by) cpu st own =
    quiet_leads (Only r) 1 cpu _ st (set r _ 1 cpu (Processor.next 1 cpu) (passed cpu))
alike (Processor.ShiftAt shift mode) cpu st own =
    let byte = Processor.shifted shift cpu.c (operand mode cpu) in
    let is = changed mode byte cpu in
    stores mode byte cpu _ st own (record { a = is.a; x = is.x; y = is.y; pc = is.pc; s = is.s; mem = is.mem })
alike (Processor.ShiftA shift) cpu st own =
    quiet_leads (Only A) 1 cpu _ st (record { mem = refl; s = refl; kept = (refl, refl); pc = refl })
alike (Processor.Set flag to) cpu st own = quiet_leads Nothing 1 cpu _ st (flagged flag to cpu)
alike (Processor.Branch flag when) cpu st own = (
  left_as cpu 0 0 (is_so when (of_flag flag cpu)),
  record { a = refl; x = refl; y = refl; pc = refl; s = refl; mem = λ b. refl },
)
alike Processor.Jump cpu st own = jumps cpu st own
alike Processor.Call cpu st own = calls cpu st own
alike Processor.Return cpu st own = (
  left_as cpu 0 0 false,
  record { a = refl; x = refl; y = refl; pc = refl; s = refl; mem = λ b. refl },
)
alike Processor.PushA cpu st own = (
  left_as cpu 0 0 false,
  record { a = refl; x = refl; y = refl; pc = refl; s = refl; mem = λ b. refl },
)
alike Processor.PushFlags cpu st own = (
  left_as cpu 0 (Processor.flags_byte true cpu) false,
  record { a = refl; x = refl; y = refl; pc = refl; s = refl; mem = λ b. refl },
)
alike Processor.PullA cpu st own = (
  left_as cpu 0 0 false,
  record { a = refl; x = refl; y = refl; pc = refl; s = refl; mem = λ b. refl },
)
alike Processor.PullFlags cpu st own = (
  left_as cpu 0 0 false,
  record { a = refl; x = refl; y = refl; pc = refl; s = refl; mem = λ b. refl },
)
alike Processor.FromStack cpu st own = quiet_leads (Only X) 1 cpu _ st (set X cpu.s 1 cpu (Processor.next 1 cpu)
    (passed cpu))
alike Processor.Resume cpu st own = resumes cpu st own
alike Processor.Pass cpu st own = quiet_leads Nothing 1 cpu _ st (passed cpu)
alike _ cpu st own = wild cpu _ st refl refl refl

pub steps_alike : StepsAlike
steps_alike cpu st own = alike (decoded opcodes (cpu.mem cpu.pc)) cpu st own

pub interrupts_alike : InterruptsAlike
unfolding left_as
interrupts_alike cpu st same = (
  left_as cpu 0 (Processor.flags_byte false cpu) false,
  refl,
  record { a = refl; x = refl; y = refl; pc = sym same; s = refl; mem = λ b. refl },
)
