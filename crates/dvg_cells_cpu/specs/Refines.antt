-- The cells of the processor beside the definition of the 6502. From one fetch of an opcode to the next they do its step;
-- and their accesses are the reads of the program, and then the step's own.
use Rattle.std.specs.Prelude.{◌≡◌, ℕ, ◌+◌, ◌%◌, ◌<◌, Bool, true, false, nat_eq, if◌then◌else◌, List, [], ◌∷◌, ◌++◌, length}
use Rattle.dvg_calls_6502.specs.Processor.{Cpu, Access, Reads, Writes, Mode, Immediate, Absolute, AbsoluteX, AbsoluteY}
use Rattle.dvg_calls_6502.specs.Processor.{IndexedIndirect, IndirectIndexed, Instr, Load, Store, And, Or, Xor, Add, Subtract}
use Rattle.dvg_calls_6502.specs.Processor.{Compare, TestBits, Change, ShiftAt, Branch, Jump, JumpAt, Call, Return, PushA}
use Rattle.dvg_calls_6502.specs.Processor.{PushFlags, PullA, PullFlags, Resume, Unknown, opcodes, decoded, does, found, put}
use Rattle.dvg_calls_6502.specs.Processor.{stack_place}
use Rattle.dvg_cells_core.specs.Cells.{bit}
use Rattle.dvg_cells_cpu.specs.Cpu.{Cpu as Cells, Pins, clock, at, write, dout, sync}

-- what is driven in a cycle: whether `nmi` is high, and the byte that a read finds
pub record Cycle : Type 0 where
  pub nmi : ℕ
  pub din : ℕ

abbrev pub pins_of : Cycle → Pins
pins_of cycle = record { reset = 0; step = 1; nmi = cycle.nmi; din = cycle.din }

-- the cells after cycles, the first one first
abbrev pub ends : Cells → List Cycle → Cells
ends cells [] = cells
ends cells (cycle ∷ later) = ends (clock cells (pins_of cycle)) later

-- the access that the pins make in a cycle
abbrev pub access : Cells → ℕ → Access
access cells din = if nat_eq (write cells) 0 then Reads (at cells) din else Writes (at cells) (dout cells)

-- those of cycles, on these, the newest one first
abbrev pub made : Cells → List Cycle → List Access → List Access
made cells [] log = log
made cells (cycle ∷ later) log = made (clock cells (pins_of cycle)) later (access cells cycle.din ∷ log)

abbrev pub Where : Bool → Type 0 → Type 0
Where true P = P
Where false P = Unit {0}

-- each read finds what the processor's memory has, and at the flag's place what its next read of the flag gives
abbrev pub AreAnswered : Cpu → Cells → List Cycle → Type 0
AreAnswered cpu cells [] = Unit {0}
AreAnswered cpu cells (cycle ∷ later) =
    Where (nat_eq (write cells) 0) (cycle.din ≡ found (at cells) cpu)
    × AreAnswered cpu (clock cells (pins_of cycle)) later

-- the cells have the processor's registers
pub record Holds (cells : Cells) (cpu : Cpu) : Type 0 where
  pub a : cells.a ≡ cpu.a
  pub x : cells.x ≡ cpu.x
  pub y : cells.y ≡ cpu.y
  pub s : cells.s ≡ cpu.s
  pub pc : cells.pc ≡ cpu.pc
  pub n : cells.n ≡ bit cpu.n
  pub z : cells.z ≡ bit cpu.z
  pub c : cells.c ≡ bit cpu.c
  pub v : cells.v ≡ bit cpu.v
  pub d : cells.d ≡ bit cpu.d
  pub i : cells.i ≡ bit cpu.i

-- and are about to fetch an opcode
pub record Rests (cells : Cells) (cpu : Cpu) : Type 0 where
  pub holds : Holds cells cpu
  pub fetches : cells.state ≡ 2

-- bytes fit, and the instruction's own bytes aren't at the top of memory; one that stands at the flag's place is what the
-- flag's next read gives
pub record IsSound (cpu : Cpu) : Type 0 where
  pub a : cpu.a < 256
  pub x : cpu.x < 256
  pub y : cpu.y < 256
  pub s : cpu.s < 256
  pub pc : cpu.pc < 65533
  pub bytes : (b : ℕ) → cpu.mem b < 256
  pub flags : cpu.flags 0 < 256
  pub here : found cpu.pc cpu ≡ cpu.mem cpu.pc
  pub first : found (cpu.pc + 1) cpu ≡ cpu.mem (cpu.pc + 1)
  pub second : found (cpu.pc + 2) cpu ≡ cpu.mem (cpu.pc + 2)

-- a read of the program, or of what it points to
abbrev pub got : Cpu → ℕ → Access
got cpu b = Reads b (cpu.mem b)

-- those of a pointer in the zero page, the newest first
abbrev pub pointing : ℕ → Cpu → List Access
pointing zp cpu = got cpu ((zp + 1) % 256) ∷ got cpu zp ∷ got cpu (cpu.pc + 1) ∷ []

abbrev pub one_more : Cpu → List Access
one_more cpu = got cpu (cpu.pc + 1) ∷ []

abbrev pub two_more : Cpu → List Access
two_more cpu = got cpu (cpu.pc + 2) ∷ one_more cpu

-- those by which an instruction finds the byte that it names
abbrev pub naming : Mode → Cpu → List Access
naming Absolute cpu = two_more cpu
naming AbsoluteX cpu = two_more cpu
naming AbsoluteY cpu = two_more cpu
naming IndexedIndirect cpu = pointing ((cpu.mem (cpu.pc + 1) + cpu.x) % 256) cpu
naming IndirectIndexed cpu = pointing (cpu.mem (cpu.pc + 1)) cpu
naming mode cpu = one_more cpu

-- what an instruction reads after its opcode, before its own accesses
abbrev pub after_opcode : Instr → Cpu → List Access
after_opcode (Load r mode) cpu = naming mode cpu
after_opcode (Store r mode) cpu = naming mode cpu
after_opcode (And mode) cpu = naming mode cpu
after_opcode (Or mode) cpu = naming mode cpu
after_opcode (Xor mode) cpu = naming mode cpu
after_opcode (Add mode) cpu = naming mode cpu
after_opcode (Subtract mode) cpu = naming mode cpu
after_opcode (Compare r mode) cpu = naming mode cpu
after_opcode (TestBits mode) cpu = naming mode cpu
after_opcode (Change mode by) cpu = naming mode cpu
after_opcode (ShiftAt shift mode) cpu = naming mode cpu
after_opcode (Branch flag when) cpu = one_more cpu
after_opcode Jump cpu = two_more cpu
after_opcode JumpAt cpu = two_more cpu
after_opcode Call cpu = two_more cpu
after_opcode Return cpu = got cpu (stack_place (cpu.s + 2)) ∷ got cpu (stack_place (cpu.s + 1)) ∷ []
after_opcode PullA cpu = got cpu (stack_place (cpu.s + 1)) ∷ []
after_opcode PullFlags cpu = got cpu (stack_place (cpu.s + 1)) ∷ []
after_opcode Resume cpu =
    got cpu (stack_place (cpu.s + 3)) ∷ got cpu (stack_place (cpu.s + 2)) ∷ got cpu (stack_place (cpu.s + 1)) ∷ []
after_opcode instr cpu = []

abbrev pub fetched : Instr → Cpu → List Access
fetched instr cpu = after_opcode instr cpu ++ got cpu cpu.pc ∷ []

-- how many cycles an instruction takes
abbrev pub cycles_by : Mode → ℕ
cycles_by Immediate = 2
cycles_by Absolute = 4
cycles_by AbsoluteX = 4
cycles_by AbsoluteY = 4
cycles_by IndexedIndirect = 5
cycles_by IndirectIndexed = 5
cycles_by mode = 3

abbrev pub cycles : Instr → ℕ
cycles (Load r mode) = cycles_by mode
cycles (Store r mode) = cycles_by mode
cycles (And mode) = cycles_by mode
cycles (Or mode) = cycles_by mode
cycles (Xor mode) = cycles_by mode
cycles (Add mode) = cycles_by mode
cycles (Subtract mode) = cycles_by mode
cycles (Compare r mode) = cycles_by mode
cycles (TestBits mode) = cycles_by mode
cycles (Change mode by) = cycles_by mode + 1
cycles (ShiftAt shift mode) = cycles_by mode + 1
cycles (Branch flag when) = 2
cycles Jump = 3
cycles JumpAt = 5
cycles Call = 5
cycles Return = 3
cycles PushA = 2
cycles PushFlags = 2
cycles PullA = 2
cycles PullFlags = 2
cycles Resume = 4
cycles instr = 1

-- a memory after writes
abbrev pub after_writes : List Access → (ℕ → ℕ) → ℕ → ℕ
after_writes [] mem = mem
after_writes (Writes a byte ∷ log) mem = put a byte (after_writes log mem)
after_writes (Reads a byte ∷ log) mem = after_writes log mem

-- `sync` is low in each of these cycles
abbrev pub AreAmid : Cells → List Cycle → Type 0
AreAmid cells [] = Unit {0}
AreAmid cells (cycle ∷ later) = (sync cells ≡ 0) × AreAmid (clock cells (pins_of cycle)) later

-- `sync` is high only in the first of these cycles, the one that reads the opcode
abbrev pub ShowsOpcode : Cells → List Cycle → Type 0
ShowsOpcode cells [] = Unit {0}
ShowsOpcode cells (cycle ∷ later) = (sync cells ≡ 1) × AreAmid (clock cells (pins_of cycle)) later

-- the cells do this instruction in these cycles: at its end they rest as the definition's step leaves the processor; what
-- the bus saw are the reads of the program, and then what the step adds to the log; and those writes make its memory
pub record CellsDo (instr : Instr) (cpu : Cpu) (cells : Cells) (list : List Cycle) : Type 0 where
  pub rests : Rests (ends cells list) (does instr cpu)
  pub news : List Access
  pub log : (does instr cpu).log ≡ news ++ cpu.log
  pub bus : made cells list [] ≡ news ++ fetched instr cpu
  pub memory : (does instr cpu).mem ≡ after_writes news cpu.mem
  pub opcode : ShowsOpcode cells list

-- each opcode, in as many cycles as it takes, where no NMI is due at its fetch; whatever `nmi` is in these cycles. One that
-- isn't in the table takes one, and leaves the registers as they are
abbrev pub CpuRefines : Type 0
CpuRefines = (cpu : Cpu) (cells : Cells) (list : List Cycle) → IsSound cpu → Rests cells cpu → cells.due ≡ 0
    → let instr = decoded opcodes (cpu.mem cpu.pc) in
    length list ≡ cycles instr → AreAnswered cpu cells list → CellsDo instr cpu cells list

-- an opcode that isn't in the table leaves the cells at rest, with the same registers, so it is read again
abbrev pub CpuStays : Type 0
CpuStays = (cpu : Cpu) (cells : Cells) (cycle : Cycle) → Rests cells cpu → cells.due ≡ 0 → cycle.din < 256
    → decoded opcodes cycle.din ≡ Unknown → Rests (clock cells (pins_of cycle)) cpu

-- a clock without `step` and `reset` keeps all registers, whatever the other pins are
abbrev pub CpuWaits : Type 0
CpuWaits = (cells : Cells) (nmi din : ℕ) → clock cells (record { reset = 0; step = 0; nmi = nmi; din = din }) ≡ cells
