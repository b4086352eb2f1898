-- Cells that are about to fetch an opcode, as variables.
use Rattle.std.proofs.Common.{◌≡◌, ℕ}
use Rattle.dvg_calls_6502.specs.Processor.{Cpu}
use Rattle.dvg_cells_core.specs.Cells.{bit}
use Rattle.dvg_cells_cpu.specs.Cpu.{Cpu as Cells}
use Rattle.dvg_cells_cpu.specs.Refines.{Cycle, Holds, Rests}

abbrev pub cy : ℕ → ℕ → Cycle
cy m d = record { nmi = m; din = d }

-- those of this processor, with any other registers
abbrev pub in_state : (state : ℕ) → Cpu → (ir low high back was due : ℕ) → Cells
in_state state cpu ir low high back was due = record {
  a = cpu.a;
  x = cpu.x;
  y = cpu.y;
  s = cpu.s;
  pc = cpu.pc;
  n = bit cpu.n;
  v = bit cpu.v;
  d = bit cpu.d;
  i = bit cpu.i;
  z = bit cpu.z;
  c = bit cpu.c;
  state = state;
  ir = ir;
  low = low;
  high = high;
  back = back;
  was = was;
  due = due;
}

abbrev pub resting : Cpu → (ir low high back was : ℕ) → Cells
resting cpu ir low high back was = in_state 2 cpu ir low high back was 0

-- cells that have the processor's registers are these
pub held : (state : ℕ) (cells : Cells) (cpu : Cpu) (due : ℕ) → Holds cells cpu → cells.state ≡ state → cells.due ≡ due
    → cells ≡ in_state state cpu cells.ir cells.low cells.high cells.back cells.was due
held state cells cpu due holds at is = λ j. record {
  a = holds.a j;
  x = holds.x j;
  y = holds.y j;
  s = holds.s j;
  pc = holds.pc j;
  n = holds.n j;
  v = holds.v j;
  d = holds.d j;
  i = holds.i j;
  z = holds.z j;
  c = holds.c j;
  state = at j;
  ir = cells.ir;
  low = cells.low;
  high = cells.high;
  back = cells.back;
  was = cells.was;
  due = is j;
}

pub stood : (cells : Cells) (cpu : Cpu) → Rests cells cpu → cells.due ≡ 0
    → cells ≡ resting cpu cells.ir cells.low cells.high cells.back cells.was
stood cells cpu rests free = held 2 cells cpu 0 rests.holds rests.fetches free

-- and those rest
pub rests_as : (cells : Cells) (cpu : Cpu)
    → cells ≡ in_state 2 cpu cells.ir cells.low cells.high cells.back cells.was cells.due → Rests cells cpu
rests_as cells cpu is = record {
  holds = record {
    a = λ j. (is j).a;
    x = λ j. (is j).x;
    y = λ j. (is j).y;
    s = λ j. (is j).s;
    pc = λ j. (is j).pc;
    n = λ j. (is j).n;
    z = λ j. (is j).z;
    c = λ j. (is j).c;
    v = λ j. (is j).v;
    d = λ j. (is j).d;
    i = λ j. (is j).i;
  };
  fetches = λ j. (is j).state;
}
