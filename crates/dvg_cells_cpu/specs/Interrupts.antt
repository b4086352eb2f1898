-- An NMI, and a reset, as the cells take them.
use Rattle.std.specs.Prelude.{◌≡◌, ℕ, ◌<◌, ◌&&◌, nat_eq, if◌then◌else◌, List, [], ◌∷◌, ◌++◌, length}
use Rattle.dvg_calls_6502.specs.Processor.{Cpu, Access, interrupted, restarted}
use Rattle.dvg_cells_cpu.specs.Cpu.{Cpu as Cells, zeros, clock}
use Rattle.dvg_cells_cpu.specs.Refines.{Cycle, pins_of, ends, made, AreAnswered, AreAmid, Holds, Rests, IsSound, got, after_writes}

-- the cells take an NMI in these cycles: at its end they rest as the definition has it; the bus saw what the NMI pushes, and
-- then the reads of FFFA and FFFB
pub record Interrupts (cpu : Cpu) (cells : Cells) (list : List Cycle) : Type 0 where
  pub rests : Rests (ends cells list) (interrupted cpu)
  pub news : List Access
  pub log : (interrupted cpu).log ≡ news ++ cpu.log
  pub bus : made cells list [] ≡ got cpu 0xFFFB ∷ got cpu 0xFFFA ∷ news
  pub memory : (interrupted cpu).mem ≡ after_writes news cpu.mem
  pub opcode : AreAmid cells list

-- where an NMI is due at the fetch of an opcode, it comes in place of that, in five cycles
abbrev pub CpuInterrupts : Type 0
CpuInterrupts = (cpu : Cpu) (cells : Cells) (list : List Cycle) → IsSound cpu → Rests cells cpu → cells.due ≡ 1
    → length list ≡ 5 → AreAnswered cpu cells list → Interrupts cpu cells list

-- it is due after a cycle in which `nmi` is high, and wasn't when it was looked at before; and stays so, up to that fetch
abbrev pub CpuHears : Type 0
CpuHears = (cells : Cells) (cycle : Cycle) → cells.was < 2 → cells.due < 2 → cycle.nmi < 2
    → ((clock cells (pins_of cycle)).was ≡ cycle.nmi)
    × ((clock cells (pins_of cycle)).due
    ≡ (if nat_eq cycle.nmi 1 && nat_eq cells.was 0 then 1 else if nat_eq cells.state 2 then 0 else cells.due))

-- the clock of a reset: whatever the other pins are, no NMI is due, and all registers but these stay
abbrev pub ResetKeeps : Type 0
ResetKeeps = (cells : Cells) (step nmi din : ℕ) → clock cells (record { reset = 1; step = step; nmi = nmi; din = din })
    ≡ record cells { state = 0; was = nmi; due = 0 }

-- the two cycles after it: at their end the cells rest as the definition has a reset; the bus saw the reads of FFFC and FFFD
pub record Restarts (cpu : Cpu) (cells : Cells) (list : List Cycle) : Type 0 where
  pub rests : Rests (ends cells list) (restarted cpu)
  pub bus : made cells list [] ≡ got cpu 0xFFFD ∷ got cpu 0xFFFC ∷ []
  pub opcode : AreAmid cells list

abbrev pub CpuRestarts : Type 0
CpuRestarts = (cpu : Cpu) (cells : Cells) (list : List Cycle) → Holds cells cpu → cells.state ≡ 0
    → length list ≡ 2 → AreAnswered cpu cells list → Restarts cpu cells list

-- at power-up each register is 0: so the cells are as after a reset, no NMI is due, and `nmi` was low
abbrev pub PowersUp : Type 0
PowersUp = zeros ≡ record {
  a = 0;
  x = 0;
  y = 0;
  s = 0;
  pc = 0;
  n = 0;
  v = 0;
  d = 0;
  i = 0;
  z = 0;
  c = 0;
  state = 0;
  ir = 0;
  low = 0;
  high = 0;
  back = 0;
  was = 0;
  due = 0;
}
