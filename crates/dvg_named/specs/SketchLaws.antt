-- Laws of sketches.
use Rattle.std.specs.Prelude.{◌≡◌, ℕ, ◌<◌, List, [], ◌∷◌, None, length}
use Rattle.dvg_frame.specs.declared.op.OpKind.{OpKind}
use Rattle.dvg_read.specs.DraftTexts.{Denotes}
use Rattle.dvg_read.specs.RomTexts.{RomText}
use Rattle.dvg_read.specs.Texts.{parts}
use Rattle.dvg_read.specs.declared.fault.TextFault.{TextFault}
use Rattle.dvg_named.specs.Meanings.{Frame}
use Rattle.dvg_named.specs.SketchFaults.{DenotesFrames, HasSketchFault}
use Rattle.dvg_rows.specs.PlainLines.{plain, tokens}
use Rattle.dvg_named.specs.Sections.{Spelled, SpellsSketch}

-- where a line has a token, its tokens are the parts of the line as a plain draft has it
abbrev pub TokensAreParts : Type 0
TokensAreParts = (line : List ℕ) → 0 < length (tokens line) → parts (plain line) ≡ tokens line

-- lines spell one sketch at most
abbrev pub OneSketch : Type 0
OneSketch = (sketch other : Spelled) (ls : List (List ℕ)) → SpellsSketch sketch ls → SpellsSketch other ls
    → other ≡ sketch

-- a text denotes one list of frames at most, and one ROM
abbrev pub OneMeaning : Type 0
OneMeaning = (text : List ℕ) (rom other : RomText) (result others : List Frame) → DenotesFrames text rom result
    → DenotesFrames text other others → (other ≡ rom) × (others ≡ result)

-- a text that denotes something has no fault
abbrev pub NoFaultBeside : Type 0
NoFaultBeside = (text : List ℕ) (rom : RomText) (result : List Frame) → DenotesFrames text rom result
    → (fault : TextFault) → ¬ HasSketchFault text fault

-- a text has one fault at most
abbrev pub OneFault : Type 0
OneFault = (text : List ℕ) (fault other : TextFault) → HasSketchFault text fault
    → HasSketchFault text other → other ≡ fault

-- no text lacks both a meaning and a fault
abbrev pub NoneLacksBoth : Type 0
NoneLacksBoth = (text : List ℕ) → ((rom : RomText) (result : List Frame) → ¬ DenotesFrames text rom result)
    → ¬ ((fault : TextFault) → ¬ HasSketchFault text fault)

-- each plain draft is a sketch, of one frame without a name: the draft is the same, and the ROM
abbrev pub PlainDrafts : Type 0
PlainDrafts = (text : List ℕ) (rom : RomText) (draft : List OpKind) → Denotes text rom draft
    → DenotesFrames text rom (record { name = None; draft = draft } ∷ [])
