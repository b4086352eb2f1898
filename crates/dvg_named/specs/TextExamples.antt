-- Worked examples of whole texts: what they denote, and which fault they have.
use Rattle.std.specs.Prelude.{ℕ, List, [], ◌∷◌, ◌++◌, Some, None, codes}
use Rattle.dvg_frame.specs.declared.op.OpKind.TheVariants.{CallRom, Halt, Jump}
use Rattle.dvg_read.specs.RomReading.{unstated}
use Rattle.dvg_read.specs.declared.fault.TextFault.TheVariants.{NameGivenAgain, OutOfRom, Overlap}
use Rattle.dvg_read.specs.declared.fault.TextFault.TheVariants.{UnknownName}
use Rattle.dvg_named.specs.SketchFaults.{DenotesFrames, HasSketchFault}

-- the text of these lines; 10 is LF
abbrev pub text_of : List (List ℕ) → List ℕ
text_of [] = []
text_of (line ∷ others) = line ++ 10 ∷ text_of others

-- a frame of two operations, whose second one jumps to the first
abbrev pub JumpsBack : Type 0
JumpsBack = DenotesFrames (text_of (codes "Rock: HALT" ∷ codes "jump  rock # again" ∷ [])) unstated
    (record { name = None; draft = Halt ∷ Jump 0 ∷ [] } ∷ [])

-- a shape in the ROM, whose word is a return, D000, and a frame that calls it
abbrev pub CallsTheRom : Type 0
CallsTheRom = DenotesFrames
    (text_of (codes ".rom 8A0" ∷ codes "ship: return" ∷ codes ".frame title" ∷ codes "callrom ship" ∷ []))
    (record { map = None; given = record { address = 0x8A0; words = 0xD000 ∷ [] } ∷ [] })
    (record { name = Some (codes "title"); draft = CallRom 0x8A0 ∷ [] } ∷ [])

-- a name is given again
abbrev pub TwiceAtTwo : Type 0
TwiceAtTwo = HasSketchFault (text_of (codes "a: halt" ∷ codes "a: halt" ∷ [])) (NameGivenAgain 2)

-- a section begins at 400 of the smaller ROM
abbrev pub OutOfRomAtOne : Type 0
OutOfRomAtOne = HasSketchFault (text_of (codes ".rom 400" ∷ [])) (OutOfRom 1)

-- two sections lay an operation at 800
abbrev pub OverlapAtFour : Type 0
OverlapAtFour = HasSketchFault
    (text_of (codes ".rom 800" ∷ codes "halt" ∷ codes ".rom 800" ∷ codes "halt" ∷ [])) (Overlap 4)

-- no line gives the name
abbrev pub UnknownAtOne : Type 0
UnknownAtOne = HasSketchFault (text_of (codes "jump a" ∷ [])) (UnknownName 1)
