-- Laws of the texts of traces.
use Rattle.std.specs.Prelude.{◌≡◌, ℕ, List}
use Rattle.dvg_log.specs.Events.{Happening}
use Rattle.dvg_read.specs.declared.fault.TextFault.{TextFault}
use Rattle.dvg_read.specs.RomTexts.{RomText}
use Rattle.dvg_read.specs.TraceGives.{GivesTrace}
use Rattle.dvg_read.specs.TraceTexts.{DenotesTrace, HasTraceFault}

-- a text denotes at most one list of events, and says at most one thing of the ROM
abbrev pub OneTraceMeaning : Type 0
OneTraceMeaning = (text : List ℕ) (rom also : RomText) (one other : List Happening) → DenotesTrace text rom one
    → DenotesTrace text also other → (also ≡ rom) × (other ≡ one)

-- a text of a trace has at most one fault
abbrev pub OneTraceFault : Type 0
OneTraceFault = (text : List ℕ) (one other : TextFault) → HasTraceFault text one → HasTraceFault text other
    → other ≡ one

-- the text of a trace denotes events and a ROM
abbrev pub HasMeaning : List ℕ → Type 0
HasMeaning text = (events : List Happening) × (R : List ℕ) × GivesTrace text events R

-- no text of a trace lacks both a meaning and a fault
abbrev pub NoTraceLacksBoth : Type 0
NoTraceLacksBoth = (text : List ℕ) → ¬ HasMeaning text → ¬ ((fault : TextFault) → ¬ HasTraceFault text fault)

-- a text that denotes events has no fault
abbrev pub NoFaultBesideTrace : Type 0
NoFaultBesideTrace = (text : List ℕ) (rom : RomText) (events : List Happening) → DenotesTrace text rom events
    → (fault : TextFault) → ¬ HasTraceFault text fault
