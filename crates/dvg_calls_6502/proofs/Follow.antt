-- A processor of which the driver's page may be terms: where a path leads is computed.
use Rattle.std.proofs.Common.{◌≡◌, ℕ, zero, suc, ◌+◌, ◌-◌, ◌*◌, ◌%◌, ◌<◌, ◌≤◌, Bool, true, false, not, cond, List, [], ◌∷◌}
use Rattle.std.proofs.Common.{◌++◌, length, refl, sym, ap, ◌∙◌, subst, arith, set, eqb-true, le-leb, leb-true}
use Rattle.std.proofs.Common.{get_or-set_same, get_or-set_other}
use Rattle.std.proofs.Math.Path.{fun_ext}
use Rattle.std.specs.Prelude.{nat_eq, nat_le, nat_lt, if◌then◌else◌, ◌&&◌, ◌||◌, slice_index, bit_or}
use Rattle.dvg_calls_6502.specs.Processor.{Cpu, Access, Reads, Writes, Mode, Immediate, ZeroPage, ZeroPageX, ZeroPageY, Absolute}
use Rattle.dvg_calls_6502.specs.Processor.{AbsoluteX, AbsoluteY, IndexedIndirect, IndirectIndexed, Register, A, X, Y, Flag, Negative}
use Rattle.dvg_calls_6502.specs.Processor.{Zero, Carry, Overflow, Decimal, Interrupt, Instr, Load, Store, Transfer, And, Or, Xor}
use Rattle.dvg_calls_6502.specs.Processor.{Add, Subtract, Compare, TestBits, Change, Step, ShiftAt, ShiftA, Set, Branch, Jump, JumpAt}
use Rattle.dvg_calls_6502.specs.Processor.{Call, Return, PushA, PushFlags, PullA, PullFlags, FromStack, ToStack, Resume, Pass, Unknown}
use Rattle.dvg_calls_6502.specs.Processor.{does, flag_place, reading, setting, flagging, next, size, decoded, opcodes, put, run, turn}
use Rattle.dvg_calls_6502.specs.Processor.{at_return, address, operand, found, of_register, of_flag, is_so, target, writing, shifted, step}
use Rattle.dvg_calls_6502.specs.Processor.{flags_after, reads}
use Rattle.dvg_calls_6502.specs.Code.{code}
use Rattle.dvg_calls_6502.specs.Board.{seen, is_hardware}
use Rattle.dvg_calls_6502.specs.Amid.{changed, is_steady, are_steady}
use Rattle.dvg_calls_6502.proofs.Memory.{in_code, swap2, both_true, same_eqb}
use Rattle.dvg_calls_6502.proofs.ProcessorRuns.{and_true}
use Rattle.dvg_calls_6502.proofs.TableTick.{not_flag}

-- a memory with these bytes from 0010 on, which are 17, and the code at its place
abbrev pub in_part : ℕ → Bool
in_part b = nat_le 0x10 b && nat_lt b 0x21

abbrev pub over : List ℕ → (ℕ → ℕ) → ℕ → ℕ
over page mem b = if in_part b then slice_index page (b - 0x10) else if in_code b then slice_index code
    (b - 0x6800) else mem b

-- the processor, whose memory is that outside of the page and the code; the page; and what was seen
pub record Sym : Type 0 where
  pub cpu : Cpu
  pub page : List ℕ
  pub events : List Access

abbrev pub full : Sym → Cpu
full it = changed (over it.page it.cpu.mem) it.cpu

-- what a path decides: whether a branch is taken; where (zp),Y stores; where it reads, and which byte
pub data Way : Type 0 where
  Goes : Bool → Way
  Puts : ℕ → Way
  Gets : ℕ → ℕ → Way

-- what an instruction accesses that isn't by (zp),Y
abbrev pub taken : Mode → Cpu → List Access
taken Immediate cpu = []
taken mode cpu = Reads (address mode cpu) (found (address mode cpu) cpu) ∷ []

-- what is seen of these accesses, over what was seen before
abbrev pub seen_over : List Access → List Access → List Access
seen_over [] events = events
seen_over (Reads a byte ∷ log) events = let rest = seen_over log events in if is_hardware a then Reads a byte ∷ rest else rest
seen_over (Writes a byte ∷ log) events = let rest = seen_over log events in if nat_le 0x200 a then Writes a byte ∷ rest else rest

-- what writes nothing
abbrev pub quietly : (news : List Access) → Cpu → Sym → Sym
quietly news new it = record {
  cpu = changed it.cpu.mem new;
  page = it.page;
  events = seen_over news it.events;
}

-- what writes a byte at a known place
abbrev pub placed : (a v : ℕ) (news : List Access) → Cpu → Sym → Sym
placed a v news new it = record {
  cpu = changed (if in_part a then it.cpu.mem else put a v it.cpu.mem) new;
  page = if in_part a then set it.page (a - 0x10) v else it.page;
  events = seen_over (Writes a v ∷ news) it.events;
}

abbrev pub moved_store : Register → Mode → List Way → Sym → Sym
moved_store r IndirectIndexed (Puts a ∷ ways) it = record {
  cpu = next 2 (writing a (of_register r it.cpu) it.cpu);
  page = it.page;
  events = Writes a (of_register r it.cpu) ∷ it.events;
}
moved_store r mode ways it = placed (address mode (full it)) (of_register r it.cpu) [] (does (Store r mode) (full it)) it

-- a byte was read
abbrev pub having_read : ℕ → ℕ → Cpu → Cpu
having_read a v cpu = next 2 (record cpu { log = Reads a v ∷ cpu.log })

abbrev pub moved_load : Register → Mode → List Way → Sym → Sym
moved_load r IndirectIndexed (Gets a v ∷ ways) it = record it { cpu = setting r v (having_read a v it.cpu) }
moved_load r mode ways it = quietly (taken mode (full it)) (does (Load r mode) (full it)) it

abbrev pub moved_branch : Flag → Bool → List Way → Sym → Sym
moved_branch flag when (Goes t ∷ ways) it = record it {
  cpu = flagging flag (is_so when t)
      (record it.cpu { pc = if t then target it.cpu.pc (over it.page it.cpu.mem (it.cpu.pc + 1)) else it.cpu.pc + 2 });
}
moved_branch flag when ways it = it

-- where an instruction leads
abbrev pub moved : Instr → List Way → Sym → Sym
moved (Load r mode) ways it = moved_load r mode ways it
moved (Store r mode) ways it = moved_store r mode ways it
moved (Branch flag when) ways it = moved_branch flag when ways it
moved (Change mode by) ways it =
    placed (address mode (full it)) ((operand mode (full it) + by) % 256) (taken mode (full it)) (does (Change mode by) (full it)) it
moved (ShiftAt shift mode) ways it =
    placed (address mode (full it)) (shifted shift it.cpu.c (operand mode (full it))) (taken mode (full it))
    (does (ShiftAt shift mode) (full it)) it
moved (And mode) ways it = quietly (taken mode (full it)) (does (And mode) (full it)) it
moved (Or mode) ways it = quietly (taken mode (full it)) (does (Or mode) (full it)) it
moved (Xor mode) ways it = quietly (taken mode (full it)) (does (Xor mode) (full it)) it
moved (Add mode) ways it = quietly (taken mode (full it)) (does (Add mode) (full it)) it
moved (Subtract mode) ways it = quietly (taken mode (full it)) (does (Subtract mode) (full it)) it
moved (Compare r mode) ways it = quietly (taken mode (full it)) (does (Compare r mode) (full it)) it
moved (TestBits mode) ways it = quietly (taken mode (full it)) (does (TestBits mode) (full it)) it
moved instr ways it = quietly [] (does instr (full it)) it

abbrev pub left_mode : Mode → List Way → List Way
left_mode IndirectIndexed (way ∷ ways) = ways
left_mode mode ways = ways

abbrev pub left : Instr → List Way → List Way
left (Load r mode) ways = left_mode mode ways
left (Store r mode) ways = left_mode mode ways
left (Branch flag when) (way ∷ ways) = ways
left instr ways = ways

abbrev pub Sure : Bool → Type 0 → Type 0
Sure true rest = rest
Sure false rest = ⊥

-- a place is in the page, or not in the code
abbrev pub is_placed : ℕ → List ℕ → Bool
is_placed a page = (in_part a && nat_eq (length page) 17) || (not (in_part a) && not (in_code a))

-- an address outside of the page and the code, where a write is seen
abbrev pub IsFar : ℕ → Type 0
IsFar a = (in_part a ≡ false) × (in_code a ≡ false) × (nat_le 0x200 a ≡ true)

abbrev pub owes_store : Register → Mode → List Way → Sym → Type 0 → Type 0
owes_store r IndirectIndexed (Puts a ∷ ways) it rest = ((address IndirectIndexed (full it) ≡ a) × IsFar a) × rest
owes_store r IndirectIndexed ways it rest = ⊥
owes_store r mode ways it rest = Sure (is_placed (address mode (full it)) it.page) rest

abbrev pub owes_load : Register → Mode → List Way → Sym → Type 0 → Type 0
owes_load r IndirectIndexed (Gets a v ∷ ways) it rest =
    ((address IndirectIndexed (full it) ≡ a) × (is_hardware a ≡ false) × (over it.page it.cpu.mem a ≡ v)) × rest
owes_load r IndirectIndexed ways it rest = ⊥
owes_load r mode ways it rest = rest

abbrev pub owes_branch : Flag → Bool → List Way → Sym → Type 0 → Type 0
owes_branch flag when (Goes t ∷ ways) it rest = (is_so when (of_flag flag it.cpu) ≡ t) × rest
owes_branch flag when ways it rest = ⊥

-- what is to be shown of a step, and the rest
abbrev pub owes : Instr → List Way → Sym → Type 0 → Type 0
owes (Load r mode) ways it rest = owes_load r mode ways it rest
owes (Store r mode) ways it rest = owes_store r mode ways it rest
owes (Branch flag when) ways it rest = owes_branch flag when ways it rest
owes (Change mode by) ways it rest = Sure (is_placed (address mode (full it)) it.page) rest
owes (ShiftAt shift mode) ways it rest = Sure (is_placed (address mode (full it)) it.page) rest
owes Call ways it rest = ⊥
owes JumpAt ways it rest = ⊥
owes PushA ways it rest = ⊥
owes PushFlags ways it rest = ⊥
owes PullA ways it rest = ⊥
owes PullFlags ways it rest = ⊥
owes Resume ways it rest = ⊥
owes instr ways it rest = rest

abbrev pub instr_at : Sym → Instr
instr_at it = decoded opcodes (over it.page it.cpu.mem it.cpu.pc)

-- where so many steps on this path lead
abbrev pub follow : ℕ → List Way → Sym → Sym
follow zero ways it = it
follow (suc n) ways it = let instr = instr_at it in follow n (left instr ways) (moved instr ways it)

-- what is to be shown of them
abbrev pub Owes : ℕ → List Way → Sym → Type 0
Owes zero ways it = Unit {0}
Owes (suc n) ways it = let instr = instr_at it in
    Sure (not (nat_eq (over it.page it.cpu.mem it.cpu.pc) 0x60)) (owes instr ways it (Owes n (left instr ways) (moved instr ways it)))

-- each of them takes guarded bytes alone
abbrev pub steadily : (kept : ℕ → Bool) (q n : ℕ) → List Way → Sym → Bool
steadily kept q zero ways it = true
steadily kept q (suc n) ways it = let instr = instr_at it in
    is_steady kept q (full it) && steadily kept q n (left instr ways) (moved instr ways it)
