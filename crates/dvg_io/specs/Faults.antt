-- Why an engine stops.
use Rattle.std.specs.Prelude.{◌≢◌}
use Rattle.dvg_read.specs.declared.fault.TextFault.TheVariants.{Cut}
use Rattle.dvg_read.specs.declared.fault.Unread.{Unread}
use Rattle.dvg_read.specs.declared.fault.Unread.TheVariants as unread
use Rattle.dvg_io.specs.declared.fault.ToolFault.{ToolFault}
use Rattle.dvg_io.specs.declared.fault.ToolFault.TheVariants.{Text, Writer, Memory}

-- why a text isn't read, as an engine calls it
abbrev pub called : Unread → ToolFault
called (unread.Text fault) = Text fault
called unread.Memory = Memory

-- the faults that come before the first write
abbrev pub StopsBeforeWriting : ToolFault → Type 0
StopsBeforeWriting (Text (Cut place)) = ⊥
StopsBeforeWriting Writer = ⊥
StopsBeforeWriting _ = Unit {0}

-- the faults before the first write, of an engine that has its whole text before it writes
abbrev pub ComesBeforeText : ToolFault → Type 0
ComesBeforeText fault = fault ≢ Writer
