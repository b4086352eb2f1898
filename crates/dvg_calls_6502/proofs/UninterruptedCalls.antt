-- Calls that nobody interrupts, as examples make them: what one has written is what the next one finds.
use Rattle.std.proofs.Common.{◌≡◌, ℕ, zero, suc, ◌+◌, ◌/◌, ◌%◌, ◌<◌, Bool, true, false, not, List, [], ◌∷◌, length}
use Rattle.std.proofs.Common.{refl, sym, ap, ◌∙◌, subst, arith, le-leb, leb-true}
use Rattle.std.proofs.lemmas.Bool.{ne_eqb}
use Rattle.std.specs.Prelude.{nat_eq, nat_lt, ◌&&◌, ◌||◌, if◌then◌else◌}
use Rattle.dvg_calls_6502.specs.Processor.{Cpu, Access, Reads, Writes, put, run, turn, at_return}
use Rattle.dvg_calls_6502.specs.Processor.{Mode, Immediate, ZeroPage, ZeroPageX, Absolute, IndirectIndexed, Register, A, X, Y}
use Rattle.dvg_calls_6502.specs.Processor.{Instr, Load, Store, Transfer, And, Or, Xor, Compare, TestBits, Change, Step}
use Rattle.dvg_calls_6502.specs.Processor.{Branch, Jump, Call as Jsr, Return, Unknown}
use Rattle.dvg_calls_6502.specs.Processor.{address, of_register, reading, setting, next, stack_place, does, decoded, opcodes}
use Rattle.dvg_calls_6502.specs.Processor.{ZeroPageY, AbsoluteX, AbsoluteY, IndexedIndirect, Add, Subtract, ShiftAt, ShiftA}
use Rattle.dvg_calls_6502.specs.Processor.{Set, JumpAt, PushA, PushFlags, PullA, PullFlags, FromStack, ToStack, Resume}
use Rattle.dvg_calls_6502.specs.Processor.{Pass, Flag, Negative, Zero, Carry, Overflow, Decimal, Interrupt, flagging}
use Rattle.dvg_calls_6502.specs.Processor.{flags_byte}
use Rattle.dvg_calls_6502.specs.Amid.{is_code}
use Rattle.dvg_calls_6502.specs.Code.{code}
use Rattle.dvg_calls_6502.specs.Board.{IsLoaded}
use Rattle.dvg_calls_6502.specs.Routines.{Enters}
use Rattle.dvg_calls_6502.specs.Calls.{Routine, Call, after, is_refused, is_leaving, IsUntouched, Follows}
use Rattle.dvg_calls_6502.proofs.ProcessorRuns.{at}
use Rattle.dvg_calls_6502.proofs.Memory.{AreSmall, both_true, put_small}
use Rattle.dvg_calls_6502.proofs.Interrupted.{still}
pub use Rattle.std.proofs.lemmas.Bool.{not-true as not_true}

-- a routine is entered over this memory, with this X and S; the flag gives this byte
abbrev pub entered : (pc x s flag : ℕ) → (ℕ → ℕ) → Cpu
entered pc x s flag mem = at pc 0 x 0 s false false false false false false mem (λ n. flag) []

pub enters : (pc x s flag : ℕ) (mem : ℕ → ℕ) → x < 256 → s < 256 → IsLoaded mem → Enters (entered pc x s flag mem) pc
enters pc x s flag mem few level load = record {
  entry = refl;
  log = refl;
  loaded = load;
  a = omega arith;
  x = few;
  s = level;
}

-- a call that nobody interrupts, after so many steps
abbrev pub quiet : Routine → ℕ → Cpu → Call
quiet routine n from = record { routine = routine; from = from; steps = n; others = λ k. (run from.s k from).mem }

-- the next call may begin at the end of this one
pub follows : (routine : Routine) (n : ℕ) (from : Cpu) (olds : List Call) (call : Call)
    → (at_return from.s (run from.s n from)
    || (is_refused (quiet routine n from) || is_leaving from.s (run from.s n from))) ≡ true
    → (run from.s n from).mem ≡ call.from.mem → Follows call (quiet routine n from ∷ olds)
follows routine n from olds call over same =
    let e : (after (quiet routine n from)).mem ≡ call.from.mem = ap (λ (c : Cpu). c.mem) (still from.s n from) ∙ same in (
      ap (λ (c : Cpu). at_return from.s c || (is_refused (quiet routine n from) || is_leaving from.s c))
          (still from.s n from) ∙ over,
      untouched (quiet routine n from ∷ olds) _ _ e,
    )
  where
    untouched : (calls : List Call) (before now : ℕ → ℕ) → before ≡ now → IsUntouched calls before now
    untouched calls before now e = record {
      own = λ b is. ap (λ (m : ℕ → ℕ). m b) (sym e);
      ram = λ b is. ap (λ (m : ℕ → ℕ). m b) (sym e);
      table = λ writing b low high. ap (λ (m : ℕ → ℕ). m b) (sym e);
    }

-- what was written, the newest first, and what it leaves
abbrev pub written : List Access → List (ℕ × ℕ)
written [] = []
written (Reads a byte ∷ log) = written log
written (Writes a byte ∷ log) = (a, byte) ∷ written log

abbrev pub puts : List (ℕ × ℕ) → (ℕ → ℕ) → ℕ → ℕ
puts [] mem = mem
puts (w ∷ ws) mem = put w.0 w.1 (puts ws mem)

-- they are bytes, and none goes into the code
abbrev pub fit : List (ℕ × ℕ) → Bool
fit [] = true
fit (w ∷ ws) = (not (is_code w.0) && nat_lt w.1 256) && fit ws

pub loaded_puts : (ws : List (ℕ × ℕ)) (mem : ℕ → ℕ) → fit ws ≡ true → IsLoaded mem → IsLoaded (puts ws mem)
loaded_puts [] mem is load = load
loaded_puts (w ∷ ws) mem is load =
    let two = both_true (not (is_code w.0) && nat_lt w.1 256) (fit ws) is in
    let one = both_true (not (is_code w.0)) (nat_lt w.1 256) two.0 in
    let rest = loaded_puts ws mem two.1 load in
    record {
      code = λ i h. beside (0x6800 + i) (ne_eqb (0x6800 + i) w.0 (λ same. absurd (
          let out = ap is_code same ∙ not_true (is_code w.0) one.0 in let in_code = coded i h in cc))) ∙ rest.code i h;
      bytes = put_small w.0 w.1 (puts ws mem) (leb-true (suc w.1) 256 one.1) rest.bytes;
    }
  where
    coded : (i : ℕ) → i < length code → is_code (0x6800 + i) ≡ true
    coded i h = ap (λ (t : Bool). t && nat_lt (0x6800 + i) 0x6A87) (le-leb 0x6800 (0x6800 + i) (omega arith))
        ∙ le-leb (suc (0x6800 + i)) 0x6A87 (omega (arith, h))

    beside : (b : ℕ) → nat_eq b w.0 ≡ false → put w.0 w.1 (puts ws mem) b ≡ puts ws mem b
    beside b is = ap (λ (t : Bool). if t then w.1 else puts ws mem b) is

-- a processor's memory is what it has written over this one
abbrev pub Wrote : (ℕ → ℕ) → Cpu → Type 0
Wrote mem cpu = puts (written cpu.log) mem ≡ cpu.mem

module _ (mem : ℕ → ℕ) where
  wrote_reading : (mode : Mode) (cpu : Cpu) → Wrote mem cpu → Wrote mem (reading mode cpu)
  wrote_reading Immediate cpu is = is
  wrote_reading _ cpu is = is

  wrote_flagging : (flag : Flag) (to : Bool) (cpu : Cpu) → Wrote mem cpu → Wrote mem (flagging flag to cpu)
  wrote_flagging Negative to cpu is = is
  wrote_flagging _ to cpu is = is

  wrote_setting : (r : Register) (byte : ℕ) (cpu : Cpu) → Wrote mem cpu → Wrote mem (setting r byte cpu)
  wrote_setting A byte cpu is = is
  wrote_setting _ byte cpu is = is

  wrote_does : (instr : Instr) (cpu : Cpu) → Wrote mem cpu → Wrote mem (does instr cpu)
  wrote_does (Load r mode) cpu is = wrote_setting r _ (reading mode cpu) (wrote_reading mode cpu is)
  wrote_does (Store r mode) cpu is = ap (put (address mode cpu) (of_register r cpu)) is
  wrote_does (Transfer from to) cpu is = wrote_setting to _ (next 1 cpu) is
  wrote_does (And mode) cpu is = wrote_reading mode cpu is
  wrote_does (Or mode) cpu is = wrote_reading mode cpu is
  wrote_does (Xor mode) cpu is = wrote_reading mode cpu is
  wrote_does (Add mode) cpu is = wrote_reading mode cpu is
  wrote_does (Subtract mode) cpu is = wrote_reading mode cpu is
  wrote_does (Compare r mode) cpu is = wrote_reading mode cpu is
  wrote_does (TestBits mode) cpu is = wrote_reading mode cpu is
  wrote_does (Change mode by) cpu is = ap (put _ _) (wrote_reading mode cpu is)
  wrote_does (Step r by) cpu is = wrote_setting r _ (next 1 cpu) is
  wrote_does (ShiftAt shift mode) cpu is = ap (put _ _) (wrote_reading mode cpu is)
  wrote_does (Set flag to) cpu is = wrote_flagging flag to (next 1 cpu) is
  wrote_does Jsr cpu is = ap (λ (m : ℕ → ℕ). put (stack_place (cpu.s + 255)) ((cpu.pc + 2) % 256)
      (put (stack_place cpu.s) ((cpu.pc + 2) / 256) m)) is
  wrote_does PushA cpu is = ap (put (stack_place cpu.s) cpu.a) is
  wrote_does PushFlags cpu is = ap (put (stack_place cpu.s) (flags_byte true cpu)) is
  wrote_does _ cpu is = is

  wrote_run : (s n : ℕ) (cpu : Cpu) → Wrote mem cpu → Wrote mem (run s n cpu)
  wrote_run s zero cpu is = is
  wrote_run s (suc n) cpu is = wrote_run s n (turn s cpu) (by (at_return s cpu))
    where
      by : (t : Bool) → Wrote mem (if t then cpu else does (decoded opcodes (cpu.mem cpu.pc)) cpu)
      by true = is
      by false = wrote_does (decoded opcodes (cpu.mem cpu.pc)) cpu is

-- what was written leaves a memory of bytes with the code at its place
pub loaded_as : (now : Cpu) (mem : ℕ → ℕ) → Wrote mem now → fit (written now.log) ≡ true → IsLoaded mem → IsLoaded now.mem
loaded_as now mem same fits load = subst (λ m. IsLoaded m) same (loaded_puts (written now.log) mem fits load)

pub loaded_after : (s n : ℕ) (from now : Cpu) → run s n from ≡ now → from.log ≡ [] → fit (written now.log) ≡ true
    → IsLoaded from.mem → IsLoaded now.mem
loaded_after s n from now is none fits load = loaded_as now from.mem (subst (λ c. Wrote from.mem c) is
    (wrote_run from.mem s n from (ap (λ log. puts (written log) from.mem) none))) fits load

-- each number below this one passes
abbrev pub all_below : ℕ → (ℕ → Bool) → Bool
all_below zero f = true
all_below (suc n) f = f zero && all_below n (λ k. f (suc k))

pub at_all : (n : ℕ) (f : ℕ → Bool) → all_below n f ≡ true → (k : ℕ) → k < n → f k ≡ true
at_all zero f is k less = absurd (omega arith)
at_all (suc n) f is zero less = (both_true (f zero) (all_below n (λ k. f (suc k))) is).0
at_all (suc n) f is (suc k) less =
    at_all n (λ j. f (suc j)) (both_true (f zero) (all_below n (λ j. f (suc j))) is).1 k (omega arith)

abbrev pub all_bytes : List ℕ → Bool
all_bytes [] = true
all_bytes (x ∷ xs) = nat_lt x 256 && all_bytes xs

pub small : (xs : List ℕ) → all_bytes xs ≡ true → AreSmall xs
small [] is = tt
small (x ∷ xs) is = let two = both_true (nat_lt x 256) (all_bytes xs) is in (leb-true (suc x) 256 two.0, small xs two.1)
