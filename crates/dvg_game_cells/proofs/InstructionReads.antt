-- What the reads of an instruction find: the definition's processor can have it in memory, as the newest read alone finds
-- what stands outside.
use Rattle.std.proofs.Common.{◌≡◌, ℕ, ◌+◌, ◌%◌, ◌<◌, ◌≤◌, Bool, true, false, List, [], ◌∷◌, ◌++◌, refl, sym, ◌∙◌}
use Rattle.std.proofs.Common.{subst, arith, inl, inr}
use Rattle.std.specs.Prelude.{◌⊎◌}
use Rattle.dvg_calls_6502.specs.Processor.{Cpu, Access, Reads, Writes, Mode, Immediate, ZeroPage, ZeroPageX, ZeroPageY, Absolute}
use Rattle.dvg_calls_6502.specs.Processor.{AbsoluteX, AbsoluteY, IndexedIndirect, IndirectIndexed, Register, A, X, Y, Flag, Negative}
use Rattle.dvg_calls_6502.specs.Processor.{Zero, Carry, Overflow, Decimal, Interrupt, Instr, Load, Store, Transfer, And, Or, Xor}
use Rattle.dvg_calls_6502.specs.Processor.{Add, Subtract, Compare, TestBits, Change, Step, ShiftAt, ShiftA, Set, Branch, Jump, JumpAt}
use Rattle.dvg_calls_6502.specs.Processor.{Call, Return, PushA, PushFlags, PullA, PullFlags, FromStack, ToStack, Resume, Pass, Unknown}
use Rattle.dvg_calls_6502.specs.Processor.{does, reading, setting, flagging, next, stack_place}
use Rattle.dvg_cells_cpu.specs.Refines.{after_opcode, fetched, got, naming}

-- a place of the zero page, the stack or the ROM
abbrev pub IsTame : ℕ → Type 0
IsTame a = (a < 0x200) ⊎ ((0x4800 ≤ a) × (a < 0x8000))

-- these are reads of such
abbrev pub AreTame : List Access → Type 0
AreTame [] = Unit {0}
AreTame (Reads a byte ∷ list) = IsTame a × AreTame list
AreTame (Writes a byte ∷ list) = ⊥

-- before a read, the newest first, there are only such reads
abbrev pub AreFine : List Access → Type 0
AreFine [] = Unit {0}
AreFine (Reads a byte ∷ list) = AreTame list
AreFine (Writes a byte ∷ list) = AreFine list

tame_fine : (list : List Access) → AreTame list → AreFine list
tame_fine [] t = tt
tame_fine (Reads a byte ∷ list) t = t.1
tame_fine (Writes a byte ∷ list) t = absurd t

pub tame_end : (more list : List Access) → AreTame (more ++ list) → AreTame list
tame_end [] list t = t
tame_end (Reads a byte ∷ more) list t = tame_end more list t.1
tame_end (Writes a byte ∷ more) list t = absurd t

pub fine_end : (more list : List Access) → AreFine (more ++ list) → AreFine list
fine_end [] list f = f
fine_end (Reads a byte ∷ more) list f = tame_fine list (tame_end more list f)
fine_end (Writes a byte ∷ more) list f = fine_end more list f

pub tame_front : (one two : List Access) → AreTame (one ++ two) → AreTame one
tame_front [] two t = tt
tame_front (Reads a byte ∷ one) two t = (t.0, tame_front one two t.1)
tame_front (Writes a byte ∷ one) two t = absurd t

tame_both : (one two : List Access) → AreTame one → AreTame two → AreTame (one ++ two)
tame_both [] two s t = t
tame_both (Reads a byte ∷ one) two s t = (s.0, tame_both one two s.1 t)
tame_both (Writes a byte ∷ one) two s t = absurd s

-- in the ROM an instruction has its bytes
pub record InRom (cpu : Cpu) : Type 0 where
  pub low : 0x4800 ≤ cpu.pc
  pub high : cpu.pc + 2 < 0x8000
  pub bytes : (b : ℕ) → cpu.mem b < 256

abbrev pub is_direct : Instr → Bool
is_direct JumpAt = false
is_direct instr = true

module _ (cpu : Cpu) (r : InRom cpu) where
  here : IsTame cpu.pc
  here = let low = r.low in let high = r.high in inr (low, omega (arith, high))

  first : IsTame (cpu.pc + 1)
  first = let low = r.low in let high = r.high in inr (omega (arith, low), omega (arith, high))

  second : IsTame (cpu.pc + 2)
  second = let low = r.low in let high = r.high in inr (omega (arith, low), high)

  byte : (b : ℕ) → IsTame (cpu.mem b)
  byte b = let small = r.bytes b in inl (omega (arith, small))

  wrapped : (n : ℕ) → IsTame (n % 256)
  wrapped n = inl (omega arith)

  stacked : (s : ℕ) → IsTame (stack_place s)
  stacked s = inl (omega arith)

  tame_naming : (mode : Mode) → AreTame (naming mode cpu)
  tame_naming Absolute = (second, (first, tt))
  tame_naming AbsoluteX = (second, (first, tt))
  tame_naming AbsoluteY = (second, (first, tt))
  tame_naming IndexedIndirect =
      (wrapped ((cpu.mem (cpu.pc + 1) + cpu.x) % 256 + 1), (wrapped (cpu.mem (cpu.pc + 1) + cpu.x), (first, tt)))
  tame_naming IndirectIndexed = (wrapped (cpu.mem (cpu.pc + 1) + 1), (byte (cpu.pc + 1), (first, tt)))
  tame_naming _ = (first, tt)

  tame_after : (instr : Instr) → AreTame (after_opcode instr cpu)
  tame_after (Load r mode) = tame_naming mode
  tame_after (Store r mode) = tame_naming mode
  tame_after (And mode) = tame_naming mode
  tame_after (Or mode) = tame_naming mode
  tame_after (Xor mode) = tame_naming mode
  tame_after (Add mode) = tame_naming mode
  tame_after (Subtract mode) = tame_naming mode
  tame_after (Compare r mode) = tame_naming mode
  tame_after (TestBits mode) = tame_naming mode
  tame_after (Change mode by) = tame_naming mode
  tame_after (ShiftAt shift mode) = tame_naming mode
  tame_after (Branch flag when) = (first, tt)
  tame_after Jump = (second, (first, tt))
  tame_after JumpAt = (second, (first, tt))
  tame_after Call = (second, (first, tt))
  tame_after Return = (stacked (cpu.s + 2), (stacked (cpu.s + 1), tt))
  tame_after PullA = (stacked (cpu.s + 1), tt)
  tame_after PullFlags = (stacked (cpu.s + 1), tt)
  tame_after Resume = (stacked (cpu.s + 3), (stacked (cpu.s + 2), (stacked (cpu.s + 1), tt)))
  tame_after _ = tt

  pub tame_fetched : (instr : Instr) → AreTame (fetched instr cpu)
  tame_fetched instr = tame_both (after_opcode instr cpu) (got cpu cpu.pc ∷ []) (tame_after instr) (here, tt)

  module _ (none : cpu.log ≡ []) (rest : List Access) (tame : AreTame rest) where
    abbrev Good : List Access → Type 0
    Good log = AreFine (log ++ rest)

    quiet : (log : List Access) → log ≡ cpu.log → Good log
    quiet log is = subst Good (sym (is ∙ none)) (tame_fine rest tame)

    reads : (mode : Mode) → Good (reading mode cpu).log
    reads Immediate = quiet cpu.log refl
    reads _ = subst (λ l. AreTame (l ++ rest)) (sym none) tame

    sets : (r : Register) (v : ℕ) (one : Cpu) → Good one.log → Good (setting r v one).log
    sets A v one g = g
    sets _ v one g = g

    flags : (flag : Flag) (to : Bool) → Good (flagging flag to (next 1 cpu)).log
    flags Negative to = quiet cpu.log refl
    flags _ to = quiet cpu.log refl

    fine_log : (instr : Instr) → is_direct instr ≡ true → Good (does instr cpu).log
    fine_log (Load r mode) is = sets r _ (reading mode cpu) (reads mode)
    fine_log (Transfer from to) is = sets to _ (next 1 cpu) (quiet cpu.log refl)
    fine_log (And mode) is = reads mode
    fine_log (Or mode) is = reads mode
    fine_log (Xor mode) is = reads mode
    fine_log (Add mode) is = reads mode
    fine_log (Subtract mode) is = reads mode
    fine_log (Compare r mode) is = reads mode
    fine_log (TestBits mode) is = reads mode
    fine_log (Change mode by) is = reads mode
    fine_log (Step r by) is = sets r _ (next 1 cpu) (quiet cpu.log refl)
    fine_log (ShiftAt shift mode) is = reads mode
    fine_log (Set flag to) is = flags flag to
    fine_log JumpAt is = absurd (cc)
    fine_log _ is = quiet cpu.log refl

  -- all that an instruction accesses
  pub fine : (instr : Instr) → is_direct instr ≡ true → cpu.log ≡ [] → AreFine ((does instr cpu).log ++ fetched instr cpu)
  fine instr is none = fine_log none (fetched instr cpu) (tame_fetched instr) instr is
