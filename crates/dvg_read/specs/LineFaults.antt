-- What the fault of a line is called at the line of its number.
use Rattle.std.specs.Prelude.{ℕ}
use Rattle.dvg_read.specs.declared.fault.LineFault.{LineFault}
use Rattle.dvg_read.specs.declared.fault.LineFault.TheVariants as line_fault
use Rattle.dvg_read.specs.declared.fault.TextFault.TheVariants.{Syntax, Full, Many}
use Rattle.dvg_read.specs.declared.fault.TextFault.TheVariants.{NameGivenAgain, OutOfRom, Overlap}
use Rattle.dvg_read.specs.declared.fault.Unread.{Unread}
use Rattle.dvg_read.specs.declared.fault.Unread.TheVariants.{Text, Memory}

-- why a text isn't read whose line of this number isn't taken
abbrev pub fault_at : LineFault → ℕ → Unread
fault_at line_fault.Syntax n = Text (Syntax n)
fault_at line_fault.Full n = Text (Full n)
fault_at line_fault.Many n = Text (Many n)
fault_at line_fault.NameGivenAgain n = Text (NameGivenAgain n)
fault_at line_fault.OutOfRom n = Text (OutOfRom n)
fault_at line_fault.Overlap n = Text (Overlap n)
fault_at line_fault.Memory n = Memory
