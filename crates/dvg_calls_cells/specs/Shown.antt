-- The pins of the machine, by those of its processor and its board.
use Rattle.std.specs.Prelude.{◌≡◌}
use Rattle.dvg_cells_board.specs.Board as board
use Rattle.dvg_cells_cpu.specs.Cpu as cpu
use Rattle.dvg_calls_cells.specs.Machine.{Machine, Bus, drives_board, drives_cpu}
use Rattle.dvg_calls_cells.specs.Machine as pin

-- the access of the memory outside is that of the board, which is the processor's; an opcode is read where the processor does
abbrev pub ShowsAccess : Machine → Bus → Type 0
ShowsAccess machine bus = (pin.access machine bus ≡ (drives_board machine bus).access)
    × (pin.write machine ≡ cpu.write machine.cpu) × (pin.a machine ≡ cpu.at machine.cpu)
    × (pin.d machine ≡ cpu.dout machine.cpu) × (pin.sync machine ≡ cpu.sync machine.cpu)
    × ((drives_board machine bus).write ≡ cpu.write machine.cpu) × ((drives_board machine bus).a ≡ cpu.at machine.cpu)
    × ((drives_board machine bus).d ≡ cpu.dout machine.cpu)

-- what is driven from outside drives the part that it is of
abbrev pub Drives : Machine → Bus → Type 0
Drives machine bus = ((drives_board machine bus).hold ≡ bus.hold) × ((drives_board machine bus).big ≡ bus.big)
    × ((drives_board machine bus).rom ≡ bus.rom) × ((drives_cpu machine bus).nmi ≡ bus.nmi)

-- the others are the board's
abbrev pub ShowsBoard : Machine → Bus → Type 0
ShowsBoard machine bus = (pin.takes machine bus ≡ board.takes machine.board (drives_board machine bus))
    × (pin.at machine ≡ board.at machine.board) × (pin.high machine ≡ board.high machine.board)
    × (pin.halted machine ≡ board.halted machine.board) × (pin.done machine ≡ board.done machine.board)
    × (pin.fault machine ≡ board.fault machine.board) × (pin.stroke machine ≡ board.stroke machine.board)
    × (pin.x0 machine ≡ board.x0 machine.board) × (pin.y0 machine ≡ board.y0 machine.board)
    × (pin.x machine ≡ board.x machine.board) × (pin.y machine ≡ board.y machine.board)
    × (pin.z machine ≡ board.z machine.board)

-- in each clock, whatever came before
abbrev pub ShowsParts : Type 0
ShowsParts = (machine : Machine) (bus : Bus) → ShowsAccess machine bus × Drives machine bus × ShowsBoard machine bus
