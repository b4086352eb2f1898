-- Calls that are interrupted: between any two instructions others may change each byte that isn't guarded.
use Rattle.std.specs.Prelude.{◌≡◌, ℕ, zero, suc, ◌+◌, ◌%◌, ◌&&◌, ◌||◌, Bool, true, false, not, nat_eq, nat_le}
use Rattle.std.specs.Prelude.{nat_lt, List, [], ◌∷◌}
use Rattle.dvg_calls_6502.specs.Processor.{Cpu, Instr, Mode, Immediate, ZeroPage, ZeroPageX, Absolute, IndirectIndexed, Load}
use Rattle.dvg_calls_6502.specs.Processor.{Store, And, Or, Xor, Compare, TestBits, Change}
use Rattle.dvg_calls_6502.specs.Processor.{Branch, Jump, Call, Return}
use Rattle.dvg_calls_6502.specs.Processor.{decoded, opcodes, address, stack_place, turn, run, at_return}
use Rattle.dvg_calls_6502.specs.Processor.{ZeroPageY, AbsoluteX, AbsoluteY, IndexedIndirect, Add, Subtract, ShiftAt, JumpAt}
use Rattle.dvg_calls_6502.specs.Processor.{PushA, PushFlags, PullA, PullFlags, ToStack, Resume, beside}
use Rattle.dvg_calls_6502.specs.Board.{is_own, is_readable}

-- the processor, with another memory
abbrev pub changed : (ℕ → ℕ) → Cpu → Cpu
changed mem cpu = record cpu { mem = mem }

-- the bytes that an instruction takes to know which byte it names
abbrev pub naming : Mode → Cpu → List ℕ
naming Immediate cpu = []
naming ZeroPage cpu = (cpu.pc + 1) ∷ []
naming ZeroPageX cpu = (cpu.pc + 1) ∷ []
naming ZeroPageY cpu = (cpu.pc + 1) ∷ []
naming Absolute cpu = (cpu.pc + 1) ∷ (cpu.pc + 2) ∷ []
naming AbsoluteX cpu = (cpu.pc + 1) ∷ (cpu.pc + 2) ∷ []
naming AbsoluteY cpu = (cpu.pc + 1) ∷ (cpu.pc + 2) ∷ []
naming IndexedIndirect cpu =
    let zp = (cpu.mem (cpu.pc + 1) + cpu.x) % 256 in (cpu.pc + 1) ∷ zp ∷ ((zp + 1) % 256) ∷ []
naming IndirectIndexed cpu = let zp = cpu.mem (cpu.pc + 1) in (cpu.pc + 1) ∷ zp ∷ ((zp + 1) % 256) ∷ []

-- and these with the byte itself
abbrev pub named : Mode → Cpu → List ℕ
named Immediate cpu = (cpu.pc + 1) ∷ []
named ZeroPage cpu = address ZeroPage cpu ∷ naming ZeroPage cpu
named ZeroPageX cpu = address ZeroPageX cpu ∷ naming ZeroPageX cpu
named ZeroPageY cpu = address ZeroPageY cpu ∷ naming ZeroPageY cpu
named Absolute cpu = address Absolute cpu ∷ naming Absolute cpu
named AbsoluteX cpu = address AbsoluteX cpu ∷ naming AbsoluteX cpu
named AbsoluteY cpu = address AbsoluteY cpu ∷ naming AbsoluteY cpu
named IndexedIndirect cpu = address IndexedIndirect cpu ∷ naming IndexedIndirect cpu
named IndirectIndexed cpu = address IndirectIndexed cpu ∷ naming IndirectIndexed cpu

-- the bytes that an instruction reads after its opcode
abbrev pub touches : Instr → Cpu → List ℕ
touches (Load r mode) cpu = named mode cpu
touches (Store r mode) cpu = naming mode cpu
touches (And mode) cpu = named mode cpu
touches (Or mode) cpu = named mode cpu
touches (Xor mode) cpu = named mode cpu
touches (Add mode) cpu = named mode cpu
touches (Subtract mode) cpu = named mode cpu
touches (Compare r mode) cpu = named mode cpu
touches (TestBits mode) cpu = named mode cpu
touches (Change mode by) cpu = named mode cpu
touches (ShiftAt shift mode) cpu = named mode cpu
touches (Branch flag when) cpu = (cpu.pc + 1) ∷ []
touches Jump cpu = (cpu.pc + 1) ∷ (cpu.pc + 2) ∷ []
touches JumpAt cpu = beside cpu ∷ named Absolute cpu
touches Call cpu = (cpu.pc + 1) ∷ (cpu.pc + 2) ∷ []
touches Return cpu = stack_place (cpu.s + 1) ∷ stack_place (cpu.s + 2) ∷ []
touches PullA cpu = stack_place (cpu.s + 1) ∷ []
touches PullFlags cpu = stack_place (cpu.s + 1) ∷ []
touches Resume cpu = stack_place (cpu.s + 1) ∷ stack_place (cpu.s + 2) ∷ stack_place (cpu.s + 3) ∷ []
touches instr cpu = []

-- which bytes are guarded where S is this
abbrev pub Guard : Type 0
Guard = ℕ → ℕ → Bool

-- this many steps of a routine that was called with this S, where before each step others replace memory
abbrev pub amid : ℕ → (ℕ → ℕ → ℕ) → ℕ → Cpu → Cpu
amid s others zero cpu = cpu
amid s others (suc n) cpu = amid s (λ k. others (suc k)) n (turn s (changed (others 0) cpu))

-- before each step they leave each guarded byte as it is
abbrev pub AreHarmless : Guard → ℕ → (ℕ → ℕ → ℕ) → ℕ → Cpu → Type 0
AreHarmless guard s others zero cpu = Unit {0}
AreHarmless guard s others (suc n) cpu =
    ((b : ℕ) → guard cpu.s b ≡ true → others 0 b ≡ cpu.mem b)
    × AreHarmless guard s (λ k. others (suc k)) n (turn s (changed (others 0) cpu))

-- all of these bytes are guarded
abbrev pub all_in : (ℕ → Bool) → List ℕ → Bool
all_in guard [] = true
all_in guard (b ∷ bs) = guard b && all_in guard bs

-- a return leads back to the call's own level, and nothing but calls and returns changes S
abbrev pub goes_home : ℕ → Instr → Cpu → Bool
goes_home s Return cpu = nat_eq ((cpu.s + 2) % 256) s
goes_home s PushA cpu = false
goes_home s PushFlags cpu = false
goes_home s PullA cpu = false
goes_home s PullFlags cpu = false
goes_home s ToStack cpu = false
goes_home s Resume cpu = false
goes_home s instr cpu = true

-- the driver's code
abbrev pub is_code : ℕ → Bool
is_code b = nat_le 0x6800 b && nat_lt b 0x6A87

-- the guard of a call that began with this S: what is kept all along, and while S is lower the return address above it
abbrev pub guards : (kept : ℕ → Bool) (s : ℕ) → Guard
guards kept s now b =
    kept b || (not (nat_eq now s) && (nat_eq b (stack_place (now + 1)) || nat_eq b (stack_place (now + 2))))

-- the next instruction takes guarded bytes alone
abbrev pub is_steady : (kept : ℕ → Bool) (s : ℕ) → Cpu → Bool
is_steady kept s cpu =
    let instr = decoded opcodes (cpu.mem cpu.pc) in
    kept cpu.pc && (at_return s cpu || (all_in (guards kept s cpu.s) (touches instr cpu) && goes_home s instr cpu))

-- so does each of this many steps
abbrev pub are_steady : (kept : ℕ → Bool) (s n : ℕ) → Cpu → Bool
are_steady kept s zero cpu = true
are_steady kept s (suc n) cpu = is_steady kept s cpu && are_steady kept s n (turn s cpu)

-- a call's working bytes: its arguments dvg_y and dvg_x, and left and length, by which it counts
abbrev pub is_work : ℕ → Bool
is_work b = nat_le 0x1B b && nat_lt b 0x21

-- what is kept all along a call of the driver: its bytes, its code, what it reads of the hardware, and tables
abbrev pub is_kept : (tables : ℕ → Bool) → ℕ → Bool
is_kept tables b = is_own b || (is_work b || (is_code b || (is_readable b || tables b)))

-- the other one is the same but for memory, and there each guarded byte is the same
pub record CameOut (guard : Guard) (cpu other : Cpu) : Type 0 where
  pub memory : ℕ → ℕ
  pub same : other ≡ changed memory cpu
  pub keeps : (b : ℕ) → guard cpu.s b ≡ true → memory b ≡ cpu.mem b

-- a call comes out amid others as without them, after each number of steps, and returns where it returns without them,
-- if they leave what is guarded as it is
abbrev pub ComesOut : Guard → Cpu → Type 0
ComesOut guard cpu = (n : ℕ) (others : ℕ → ℕ → ℕ) → AreHarmless guard cpu.s others n cpu
    → CameOut guard (run cpu.s n cpu) (amid cpu.s others n cpu)
    × (at_return cpu.s (amid cpu.s others n cpu) ≡ at_return cpu.s (run cpu.s n cpu))

-- what is kept all along a call that builds
abbrev pub is_kept_building : ℕ → Bool
is_kept_building = is_kept (λ b. false)
