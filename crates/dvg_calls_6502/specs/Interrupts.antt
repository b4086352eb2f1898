-- An NMI calls a routine that is a program like another one; its RTI leads back.
use Rattle.std.specs.Prelude.{◌≡◌, ℕ, ◌+◌, ◌<◌}
use Rattle.dvg_calls_6502.specs.Processor.{Cpu, interrupted, stack_place, step}

-- the routine is at an RTI, with S as the NMI left it, and the three bytes that it pushed are as they were
pub record IsOver (cpu now : Cpu) : Type 0 where
  pub opcode : now.mem now.pc ≡ 0x40
  pub s : now.s ≡ (interrupted cpu).s
  pub flags : now.mem (stack_place (cpu.s + 254)) ≡ (interrupted cpu).mem (stack_place (cpu.s + 254))
  pub low : now.mem (stack_place (cpu.s + 255)) ≡ (interrupted cpu).mem (stack_place (cpu.s + 255))
  pub high : now.mem (stack_place cpu.s) ≡ (interrupted cpu).mem (stack_place cpu.s)

-- then the program goes on where the NMI came, with S and the flags of then; A, X, Y and memory are as the routine has them
abbrev pub InterruptReturns : Type 0
InterruptReturns = (cpu now : Cpu) → cpu.s < 256 → cpu.pc < 65536 → IsOver cpu now → step now
    ≡ record now { s = cpu.s; pc = cpu.pc; n = cpu.n; z = cpu.z; c = cpu.c; v = cpu.v; d = cpu.d; i = cpu.i }
