-- What the program does between calls, said of the definition of the processor: what leaves the board alone.
use Rattle.std.specs.Prelude.{◌≡◌, List, []}
use Rattle.dvg_calls_6502.specs.Processor.{Cpu, Instr, does}
use Rattle.dvg_cells_cpu.specs.Cpu.{Cpu as Cells}
use Rattle.dvg_cells_cpu.specs.Refines.{CellsDo, Cycle, made}
use Rattle.dvg_cells_cpu.specs.Interrupts.{Interrupts}
use Rattle.dvg_calls_cells.specs.Cycles.{AreQuiet}

-- where the accesses of an instruction's step leave the board alone, so do the cycles in which the cells do it
abbrev pub OwnIsQuiet : Type 0
OwnIsQuiet = (instr : Instr) (cpu : Cpu) (cells : Cells) (list : List Cycle) → CellsDo instr cpu cells list
    → cpu.log ≡ []
    → AreQuiet (does instr cpu).log → AreQuiet (made cells list [])

-- an NMI leaves the board alone
abbrev pub NmiIsQuiet : Type 0
NmiIsQuiet = (cpu : Cpu) (cells : Cells) (list : List Cycle) → Interrupts cpu cells list → cpu.log ≡ []
    → AreQuiet (made cells list [])
