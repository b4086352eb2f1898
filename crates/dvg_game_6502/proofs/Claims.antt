-- What is noted of the driver's code, address by address, so that its stores stay where they may.
use Rattle.std.proofs.Common.{◌≡◌, ◌⊎◌, ℕ, ◌+◌, ◌%◌, ◌<◌, ◌≤◌, Bool, true, false, List, [], ◌∷◌}
use Rattle.std.specs.Prelude.{nat_eq, nat_le, ◌||◌, not}
use Rattle.dvg_calls_6502.specs.Processor.{Access, Reads, Writes, Cpu, Register, A, X, Y, Instr, ZeroPage}
use Rattle.dvg_calls_6502.specs.Processor.{Load, Store, Transfer, And, Or, Xor, Compare, TestBits, Change}
use Rattle.dvg_calls_6502.specs.Processor.{Step, ShiftAt, ShiftA, Set, Branch, size}
use Rattle.dvg_calls_6502.specs.Amid.{is_work}
use Rattle.dvg_calls_6502.specs.Board.{is_hardware, is_own}

-- what is known of the phase, and of the pointer to where the next byte goes
pub data Claim : Type 0 where
  -- nothing, or where the pointer may be stored by, if a frame is being written or built
  Unknown : Claim
  Ready : Claim
  -- the same, and the phase is a byte
  Sized : Claim
  -- no frame is being written or built: the phase is at most DVG_WAIT; and the pointer's low byte
  -- is 0
  Low : Claim
  Blank : Claim
  -- the pointer is in the vector RAM, or just behind it; it's in the vector RAM
  Aims : Claim
  Inside : Claim

-- the pointer is in the vector RAM, or behind it by less than so many pages
abbrev pub Points : (pages low high : ℕ) → Type 0
Points pages low high = (low ≡ 0) × (0x40 ≤ high) × (high < 0x48 + pages)

abbrev pub Holds : Claim → (phase low high : ℕ) → Type 0
Holds Unknown phase low high = Unit {0}
Holds Ready phase low high = (phase < 7) ⊎ Points 1 low high
Holds Sized phase low high = (phase < 256) × ((phase < 7) ⊎ Points 1 low high)
Holds Low phase low high = phase < 6
Holds Blank phase low high = (phase < 6) × (low ≡ 0)
Holds Aims phase low high = Points 1 low high
Holds Inside phase low high = Points 0 low high

-- more than nothing is known
abbrev pub is_known : Claim → Bool
is_known Unknown = false
is_known claim = true

abbrev pub HoldsIn : Claim → (ℕ → ℕ) → Type 0
HoldsIn claim mem = Holds claim (mem 0x10) (mem 0x14) (mem 0x15)

-- what is known of a register or a flag
pub data Also : Type 0 where
  Nothing : Also
  -- the register is this number
  Is : Register → ℕ → Also
  -- A is at most this; Y is a byte; X is 0 or 2
  UpTo : ℕ → Also
  Small : Also
  Even : Also
  -- A leads to a page of the vector RAM
  Page : Also
  -- after DEX of 0 or 2, and after another one, with N as it set it
  Once : Also
  Twice : Also
  -- the register is the phase, with Z and N as it set them
  Says : Register → Also
  -- the phase is X and so much, with Z as X set it, and where X isn't 0
  Under : ℕ → Also
  Over : ℕ → Also
  -- where Z is set, the phase is this
  Found : ℕ → Also

abbrev pub Means : Also → (phase a x y : ℕ) → (z n : Bool) → Type 0
Means Nothing phase a x y z n = Unit {0}
Means (Is A k) phase a x y z n = a ≡ k
Means (Is X k) phase a x y z n = x ≡ k
Means (Is Y k) phase a x y z n = y ≡ k
Means (UpTo k) phase a x y z n = a ≤ k
Means Small phase a x y z n = y < 256
Means Even phase a x y z n = (x ≡ 0) ⊎ (x ≡ 2)
Means Page phase a x y z n = (0x40 ≤ a) × (a < 0x48)
Means Once phase a x y z n = (x ≡ 255) ⊎ (x ≡ 1)
Means Twice phase a x y z n = ((x ≡ 254) ⊎ (x ≡ 0)) × (n ≡ nat_le 128 x)
Means (Says A) phase a x y z n = (phase ≡ a) × (z ≡ nat_eq a 0) × (n ≡ nat_le 128 a)
Means (Says X) phase a x y z n = (phase ≡ x) × (z ≡ nat_eq x 0) × (n ≡ nat_le 128 x)
Means (Says Y) phase a x y z n = (phase ≡ y) × (z ≡ nat_eq y 0) × (n ≡ nat_le 128 y)
Means (Under k) phase a x y z n = (phase ≡ x + k) × (x < 128) × (z ≡ nat_eq x 0)
Means (Over k) phase a x y z n = (phase ≡ x + k) × (x < 128) × (1 ≤ x)
Means (Found k) phase a x y z n = z ≡ true → phase % 256 ≡ k

abbrev pub MeansIn : Also → Cpu → Type 0
MeansIn also cpu = Means also (cpu.mem 0x10) cpu.a cpu.x cpu.y cpu.z cpu.n

-- a note: whether S may be two lower there, and what is known
pub record Note : Type 0 where
  pub inner : Bool
  pub claim : Claim
  pub also : Also

-- a byte that the driver's stores may change, but for the stack
abbrev pub is_touched : ℕ → Bool
is_touched b = is_own b || (is_work b || is_hardware b)

-- each write outside the zero page and the stack is one of the hardware
abbrev pub AreHard : List Access → Type 0
AreHard [] = Unit {0}
AreHard (Reads a byte ∷ log) = AreHard log
AreHard (Writes a byte ∷ log) = (nat_le 0x200 a ≡ true → is_hardware a ≡ true) × AreHard log

-- what a step that goes on behind its instruction of so many bytes leaves
pub record Did (bytes : ℕ) (cpu new : Cpu) (later : Claim) (known : Also) : Type 0 where
  pub pc : new.pc ≡ cpu.pc + bytes
  pub s : new.s ≡ cpu.s
  pub place : new.mem 0x13 < 256
  pub claim : HoldsIn later new.mem
  pub also : MeansIn known new
  pub spares : (b : ℕ) → is_touched b ≡ false → new.mem b ≡ cpu.mem b

-- instructions that store nothing, and leave S
abbrev pub is_quiet : Instr → Bool
is_quiet (Load r mode) = true
is_quiet (Transfer from to) = true
is_quiet (And mode) = true
is_quiet (Or mode) = true
is_quiet (Xor mode) = true
is_quiet (Compare r mode) = true
is_quiet (TestBits mode) = true
is_quiet (Step r by) = true
is_quiet (ShiftA shift) = true
is_quiet (Set flag to) = true
is_quiet instr = false

-- and those that store at an address of the zero page
abbrev pub is_storing : Instr → Bool
is_storing (Store r ZeroPage) = true
is_storing (Change ZeroPage by) = true
is_storing (ShiftAt shift ZeroPage) = true
is_storing instr = false

-- the instruction sets the register
abbrev pub is_same : Register → Register → Bool
is_same A A = true
is_same X X = true
is_same Y Y = true
is_same r q = false

abbrev pub sets : Register → Instr → Bool
sets r (Load q mode) = is_same r q
sets r (Transfer from to) = is_same r to
sets r (And mode) = is_same r A
sets r (Or mode) = is_same r A
sets r (Xor mode) = is_same r A
sets r (Step q by) = is_same r q
sets r (ShiftA shift) = is_same r A
sets r instr = false

-- what is known of a register is so still
abbrev pub leaves : Instr → Also → Bool
leaves instr Nothing = true
leaves instr (Is r k) = not (sets r instr)
leaves instr Small = not (sets Y instr)
leaves instr Even = not (sets X instr)
leaves instr also = false

-- how many bytes an instruction has that isn't a jump
abbrev pub length_of : Instr → ℕ
length_of (Load r mode) = size mode
length_of (Store r mode) = size mode
length_of (And mode) = size mode
length_of (Or mode) = size mode
length_of (Xor mode) = size mode
length_of (Compare r mode) = size mode
length_of (TestBits mode) = size mode
length_of (Change mode by) = size mode
length_of (ShiftAt shift mode) = size mode
length_of (Branch flag when) = 2
length_of instr = 1
