-- What an instruction of the driver's kind accesses: one byte at most, or bytes of the zero page and the stack, which aren't
-- seen.
use Rattle.std.proofs.Common.{◌≡◌, ℕ, ◌+◌, ◌<◌, ◌≤◌, Bool, true, false, List, [], ◌∷◌, ◌++◌, length, refl, sym, ap, ◌∙◌, subst}
use Rattle.std.proofs.Common.{arith, inl, inr, leb-true, suc}
use Rattle.std.proofs.lemmas.Bool.{lt-leb, ne_eqb}
use Rattle.std.proofs.lemmas.List.{append_cancel_right}
use Rattle.std.specs.Prelude.{◌⊎◌, nat_eq, nat_le, nat_lt, ◌&&◌, ◌||◌, if◌then◌else◌}
use Rattle.dvg_calls_6502.specs.Processor.{Cpu, Access, Reads, Writes, Mode, Immediate, ZeroPage, ZeroPageX, ZeroPageY, Absolute}
use Rattle.dvg_calls_6502.specs.Processor.{AbsoluteX, AbsoluteY, IndexedIndirect, IndirectIndexed, Register, A, X, Y, Flag, Negative}
use Rattle.dvg_calls_6502.specs.Processor.{Zero, Carry, Overflow, Decimal, Interrupt, Instr, Load, Store, Transfer, And, Or, Xor}
use Rattle.dvg_calls_6502.specs.Processor.{Add, Subtract, Compare, TestBits, Change, Step, ShiftAt, ShiftA, Set, Branch, Jump, JumpAt}
use Rattle.dvg_calls_6502.specs.Processor.{Call, Return, PushA, PushFlags, PullA, PullFlags, FromStack, ToStack, Resume, Pass, Unknown}
use Rattle.dvg_calls_6502.specs.Processor.{does, flag_place, reading, setting, flagging, next}
use Rattle.dvg_calls_6502.specs.Board.{seen, is_hardware, is_ram, strobe_place}
use Rattle.dvg_calls_6502.specs.Single.{is_single}

-- all of these are of the zero page or the stack
abbrev pub AreLow : List Access → Type 0
AreLow [] = Unit {0}
AreLow (Reads a byte ∷ list) = (a < 512) × AreLow list
AreLow (Writes a byte ∷ list) = (a < 512) × AreLow list

abbrev pub IsUnseen : Access → Type 0
IsUnseen (Reads a byte) = is_hardware a ≡ false
IsUnseen (Writes a byte) = nat_le 0x200 a ≡ false

abbrev pub AreUnseen : List Access → Type 0
AreUnseen [] = Unit {0}
AreUnseen (access ∷ list) = IsUnseen access × AreUnseen list

pub unseen : (l : List Access) → AreUnseen l → seen l ≡ []
unseen [] q = refl
unseen (Reads a byte ∷ l) q = ap (λ (b : Bool). if b then Reads a byte ∷ seen l else seen l) q.0 ∙ unseen l q.1
unseen (Writes a byte ∷ l) q = ap (λ (b : Bool). if b then Writes a byte ∷ seen l else seen l) q.0 ∙ unseen l q.1

-- a place below the vector RAM
pub no_ram : (a : ℕ) → a < 0x4000 → is_ram a ≡ false
no_ram a less = ap (λ t. t && nat_lt a 0x4800) (lt-leb 0x4000 a less)

-- and one behind some others
pub outside : (low high b : ℕ) → high ≤ b → (nat_le low b && nat_lt b high) ≡ false
outside low high b above = by (nat_le low b) (nat_lt b high) refl
  where
    by : (t u : Bool) → nat_lt b high ≡ u → (t && u) ≡ false
    by true true is = absurd (let less = leb-true (suc b) high is in omega (arith, less, above))
    by true false is = refl
    by false u is = refl

-- below the flag there is no hardware, and none from the ROM on
plain : (a : ℕ) → is_ram a ≡ false → nat_eq a 0x2002 ≡ false → nat_eq a 0x3000 ≡ false → is_hardware a ≡ false
plain a ram flag strobe = ap (λ t. t || (nat_eq a flag_place || nat_eq a strobe_place)) ram
    ∙ ap (λ t. t || nat_eq a strobe_place) flag ∙ strobe

pub low_plain : (a : ℕ) → a < 0x2002 → is_hardware a ≡ false
low_plain a less = plain a (no_ram a (omega arith)) (ne_eqb a 0x2002 (omega arith)) (ne_eqb a 0x3000 (omega arith))

pub high_plain : (a : ℕ) → 0x4800 ≤ a → is_hardware a ≡ false
high_plain a more =
    plain a (outside 0x4000 0x4800 a more) (ne_eqb a 0x2002 (omega arith)) (ne_eqb a 0x3000 (omega arith))

-- so the zero page and the stack aren't seen
pub low_unseen : (l : List Access) → AreLow l → AreUnseen l
low_unseen [] low = tt
low_unseen (Reads a byte ∷ l) low = (let less = low.0 in low_plain a (omega (arith, less)), low_unseen l low.1)
low_unseen (Writes a byte ∷ l) low = (lt-leb 0x200 a low.0, low_unseen l low.1)

abbrev pub AreFew : List Access → Type 0
AreFew list = (length list ≤ 1) ⊎ AreLow list

-- a log goes on another one by few accesses
abbrev Grows : List Access → List Access → Type 0
Grows log before = (news : List Access) × (log ≡ news ++ before) × AreFew news

none : (log : List Access) → Grows log log
none log = ([], refl, inl (omega arith))

one : (a : Access) (log : List Access) → Grows (a ∷ log) log
one a log = (a ∷ [], refl, inl (omega arith))

reads : (mode : Mode) (cpu : Cpu) → Grows (reading mode cpu).log cpu.log
reads Immediate cpu = none cpu.log
reads _ cpu = one _ cpu.log

sets : (r : Register) (byte : ℕ) (cpu : Cpu) (before : List Access) → Grows cpu.log before
    → Grows (setting r byte cpu).log before
sets A byte cpu before g = g
sets _ byte cpu before g = g

flags : (flag : Flag) (to : Bool) (cpu : Cpu) → Grows (flagging flag to cpu).log cpu.log
flags Negative to cpu = none cpu.log
flags _ to cpu = none cpu.log

small : (b : ℕ) → b < 256 → b < 512
small b less = omega arith

module _ (cpu : Cpu) (bytes : (b : ℕ) → cpu.mem b < 256) where
  -- a byte that is changed in the zero page
  changed : (mode : Mode) (by : ℕ) → is_single (Change mode by) ≡ true → Grows (does (Change mode by) cpu).log cpu.log
  changed ZeroPage by is =
      let low = small (cpu.mem (cpu.pc + 1)) (bytes (cpu.pc + 1)) in (_ ∷ _ ∷ [], refl, inr (low, (low, tt)))
  changed ZeroPageX by is = (_ ∷ _ ∷ [], refl, inr (omega arith, (omega arith, tt)))
  changed ZeroPageY by is = (_ ∷ _ ∷ [], refl, inr (omega arith, (omega arith, tt)))
  changed _ by is = absurd (cc)

  grows : (instr : Instr) → is_single instr ≡ true → Grows (does instr cpu).log cpu.log
  grows (Load r mode) is = sets r _ (reading mode cpu) cpu.log (reads mode cpu)
  grows (Store r mode) is = one _ cpu.log
  grows (Transfer from to) is = sets to _ (next 1 cpu) cpu.log (none cpu.log)
  grows (And mode) is = reads mode cpu
  grows (Or mode) is = reads mode cpu
  grows (Xor mode) is = reads mode cpu
  grows (Add mode) is = reads mode cpu
  grows (Subtract mode) is = reads mode cpu
  grows (Compare r mode) is = reads mode cpu
  grows (TestBits mode) is = reads mode cpu
  grows (Change mode by) is = changed mode by is
  grows (Step r by) is = sets r _ (next 1 cpu) cpu.log (none cpu.log)
  grows (ShiftAt shift Immediate) is = absurd (cc)
  grows (ShiftAt shift ZeroPage) is =
      let low = small (cpu.mem (cpu.pc + 1)) (bytes (cpu.pc + 1)) in (_ ∷ _ ∷ [], refl, inr (low, (low, tt)))
  grows (ShiftAt shift ZeroPageX) is = (_ ∷ _ ∷ [], refl, inr (omega arith, (omega arith, tt)))
  grows (ShiftAt shift ZeroPageY) is = (_ ∷ _ ∷ [], refl, inr (omega arith, (omega arith, tt)))
  grows (ShiftAt shift Absolute) is = absurd (cc)
  grows (ShiftAt shift AbsoluteX) is = absurd (cc)
  grows (ShiftAt shift AbsoluteY) is = absurd (cc)
  grows (ShiftAt shift IndexedIndirect) is = absurd (cc)
  grows (ShiftAt shift IndirectIndexed) is = absurd (cc)
  grows (Set flag to) is = flags flag to (next 1 cpu)
  grows JumpAt is = absurd (cc)
  grows Call is = (_ ∷ _ ∷ [], refl, inr (omega arith, (omega arith, tt)))
  grows PushA is = one _ cpu.log
  grows PushFlags is = one _ cpu.log
  grows _ is = none cpu.log

  -- by whatever name these accesses go
  pub few : (instr : Instr) → is_single instr ≡ true → (news : List Access) → (does instr cpu).log ≡ news ++ cpu.log → AreFew news
  few instr is news e =
      let g = grows instr is in
      subst AreFew (append_cancel_right g.0 news cpu.log (sym g.1 ∙ e)) g.2
