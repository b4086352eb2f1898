-- Logs grow, and a routine's return is where a run stays.
use Rattle.std.proofs.Common.{◌≡◌, ℕ, zero, suc, inl, inr, ◌+◌, ◌-◌, ◌%◌, Bool, true, false, List, [], ◌∷◌, ◌++◌, refl}
use Rattle.std.proofs.Common.{sym, ap, ◌∙◌, arith, leb-true}
use Rattle.std.proofs.lemmas.Bool.{leb-false}
use Rattle.std.specs.Prelude.{nat_le, ◌⊎◌, if◌then◌else◌}
use Rattle.dvg_calls_6502.specs.Processor.{Cpu, Access, Reads, Writes, Mode, Immediate, ZeroPage, ZeroPageX, Absolute}
use Rattle.dvg_calls_6502.specs.Processor.{IndirectIndexed, Register, A, X, Y, Instr, Load, Store, Transfer, And, Or, Xor, Compare, TestBits}
use Rattle.dvg_calls_6502.specs.Processor.{Change, Step, Branch}
use Rattle.dvg_calls_6502.specs.Processor.{Jump, Call, Return, Unknown, run, turn, step, does, decoded, opcodes, at_return}
use Rattle.dvg_calls_6502.specs.Processor.{reading, setting, address, operand}
use Rattle.dvg_calls_6502.specs.Processor.{ZeroPageY, AbsoluteX, AbsoluteY, IndexedIndirect, Add, Subtract, ShiftAt, ShiftA}
use Rattle.dvg_calls_6502.specs.Processor.{Set, JumpAt, PushA, PushFlags, PullA, PullFlags, FromStack, ToStack, Resume}
use Rattle.dvg_calls_6502.specs.Processor.{Pass, Flag, Negative, Zero, Carry, Overflow, Decimal, Interrupt, flagging}
use Rattle.dvg_calls_6502.specs.Processor.{next, shifted}
use Rattle.dvg_calls_6502.specs.Board.{seen, is_hardware}
use Rattle.dvg_calls_6502.proofs.ProcessorRuns.{run_more}

-- one log goes on another one
abbrev pub GoesOn : List Access → List Access → Type 0
GoesOn now before = (pre : List Access) × (now ≡ pre ++ before)

reads_on : (mode : Mode) (cpu : Cpu) → GoesOn (reading mode cpu).log cpu.log
reads_on Immediate cpu = ([], refl)
reads_on _ cpu = (_ ∷ [], refl)

sets_on : (r : Register) (byte : ℕ) (cpu : Cpu) → (setting r byte cpu).log ≡ cpu.log
sets_on A byte cpu = refl
sets_on _ byte cpu = refl

flags_on : (flag : Flag) (to : Bool) (cpu : Cpu) → (flagging flag to cpu).log ≡ cpu.log
flags_on Negative to cpu = refl
flags_on _ to cpu = refl

goes_as : (now also before : List Access) → now ≡ also → GoesOn also before → GoesOn now before
goes_as now also before same on = (on.0, same ∙ on.1)

does_on : (i : Instr) (cpu : Cpu) → GoesOn (does i cpu).log cpu.log
does_on (Load r mode) cpu = goes_as _ _ _ (sets_on r _ (reading mode cpu)) (reads_on mode cpu)
does_on (Store r mode) cpu = (_ ∷ [], refl)
does_on (Transfer from to) cpu = ([], sets_on to _ _)
does_on (And mode) cpu = reads_on mode cpu
does_on (Or mode) cpu = reads_on mode cpu
does_on (Xor mode) cpu = reads_on mode cpu
does_on (Add mode) cpu = reads_on mode cpu
does_on (Subtract mode) cpu = reads_on mode cpu
does_on (Compare r mode) cpu = reads_on mode cpu
does_on (TestBits mode) cpu = reads_on mode cpu
does_on (Change mode k) cpu = changes_on (reads_on mode cpu)
  where
    changes_on : GoesOn (reading mode cpu).log cpu.log → GoesOn (does (Change mode k) cpu).log cpu.log
    changes_on on = (_ ∷ on.0, ap (λ l. Writes (address mode cpu) ((operand mode cpu + k) % 256) ∷ l) on.1)
does_on (Step r k) cpu = ([], sets_on r _ _)
does_on (ShiftAt shift mode) cpu = shifts_on (reads_on mode cpu)
  where
    shifts_on : GoesOn (reading mode cpu).log cpu.log → GoesOn (does (ShiftAt shift mode) cpu).log cpu.log
    shifts_on on = (_ ∷ on.0, ap (λ l. Writes (address mode cpu) (shifted shift cpu.c (operand mode cpu)) ∷ l) on.1)
does_on (Set flag to) cpu = ([], flags_on flag to (next 1 cpu))
does_on Call cpu = (_ ∷ _ ∷ [], refl)
does_on JumpAt cpu = (_ ∷ _ ∷ [], refl)
does_on PushA cpu = (_ ∷ [], refl)
does_on PushFlags cpu = (_ ∷ [], refl)
does_on _ cpu = ([], refl)

turn_on : (s : ℕ) (cpu : Cpu) → GoesOn (turn s cpu).log cpu.log
turn_on s cpu = by (at_return s cpu)
  where
    by : (t : Bool) → GoesOn (if t then cpu else step cpu).log cpu.log
    by true = ([], refl)
    by false = does_on (decoded opcodes (cpu.mem cpu.pc)) cpu

append_assoc : (a b c : List Access) → a ++ (b ++ c) ≡ (a ++ b) ++ c
append_assoc [] b c = refl
append_assoc (x ∷ a) b c = ap (λ l. x ∷ l) (append_assoc a b c)

pub run_on : (s n : ℕ) (cpu : Cpu) → GoesOn (run s n cpu).log cpu.log
run_on s zero cpu = ([], refl)
run_on s (suc n) cpu =
    let rest = run_on s n (turn s cpu) in let one = turn_on s cpu in
    (rest.0 ++ one.0, rest.1 ∙ ap (λ l. rest.0 ++ l) one.1 ∙ append_assoc rest.0 one.0 cpu.log)

pub seen_append : (pre log : List Access) → seen (pre ++ log) ≡ seen pre ++ seen log
seen_append [] log = refl
seen_append (Reads a byte ∷ pre) log = by (is_hardware a) (seen_append pre log)
  where
    by : (t : Bool) → seen (pre ++ log) ≡ seen pre ++ seen log
        → (if t then Reads a byte ∷ seen (pre ++ log) else seen (pre ++ log))
        ≡ (if t then Reads a byte ∷ seen pre else seen pre) ++ seen log
    by true on = ap (λ l. Reads a byte ∷ l) on
    by false on = on
seen_append (Writes a byte ∷ pre) log = by (nat_le 0x200 a) (seen_append pre log)
  where
    by : (t : Bool) → seen (pre ++ log) ≡ seen pre ++ seen log
        → (if t then Writes a byte ∷ seen (pre ++ log) else seen (pre ++ log))
        ≡ (if t then Writes a byte ∷ seen pre else seen pre) ++ seen log
    by true on = ap (λ l. Writes a byte ∷ l) on
    by false on = on

-- at its return a run stays
stays_once : (s : ℕ) (cpu : Cpu) → at_return s cpu ≡ true → turn s cpu ≡ cpu
stays_once s cpu is = ap (λ (t : Bool). if t then cpu else step cpu) is

pub stays : (s n : ℕ) (cpu : Cpu) → at_return s cpu ≡ true → run s n cpu ≡ cpu
stays s zero cpu is = refl
stays s (suc n) cpu is = ap (run s n) (stays_once s cpu is) ∙ stays s n cpu is

-- of two numbers of steps one is the larger one
abbrev pub Splits : (k n : ℕ) → Type 0
Splits k n = ((more : ℕ) × (n ≡ more + k)) ⊎ ((more : ℕ) × (k ≡ more + n))

pub split : (k n : ℕ) → Splits k n
split k n = by (nat_le k n) refl
  where
    by : (t : Bool) → nat_le k n ≡ t → Splits k n
    by true is = let le = leb-true k n is in inl (n - k, omega arith)
    by false is = let lt = leb-false k n is in inr (k - n, omega arith)

-- what is after k steps, where the run has returned after n: the run at its end, or a run whose log that one goes on
pub within : (s k n : ℕ) (cpu : Cpu) → at_return s (run s n cpu) ≡ true
    → (run s k cpu ≡ run s n cpu) ⊎ GoesOn (seen (run s n cpu).log) (seen (run s k cpu).log)
within s k n cpu is = by (split k n)
  where
    by : Splits k n → (run s k cpu ≡ run s n cpu) ⊎ GoesOn (seen (run s n cpu).log) (seen (run s k cpu).log)
    by (inl less) =
        let more = run_on s less.0 (run s k cpu) in
        inr (
          seen more.0,
          ap (λ j. seen (run s j cpu).log) less.1
              ∙ ap (λ (c : Cpu). seen c.log) (run_more s k less.0 cpu) ∙ ap seen more.1
              ∙ seen_append more.0 (run s k cpu).log,
        )
    by (inr above) = inl (ap (λ j. run s j cpu) above.1 ∙ run_more s n above.0 cpu ∙ stays s above.0 (run s n cpu) is)

-- two ends of a run are the same
pub same_end : (s k n : ℕ) (cpu : Cpu) → at_return s (run s k cpu) ≡ true → at_return s (run s n cpu) ≡ true
    → run s k cpu ≡ run s n cpu
same_end s k n cpu here there = by (split k n)
  where
    by : Splits k n → run s k cpu ≡ run s n cpu
    by (inl less) = sym (ap (λ j. run s j cpu) less.1 ∙ run_more s k less.0 cpu ∙ stays s less.0 (run s k cpu) here)
    by (inr above) = ap (λ j. run s j cpu) above.1 ∙ run_more s n above.0 cpu ∙ stays s above.0 (run s n cpu) there
