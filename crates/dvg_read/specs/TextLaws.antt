-- Laws of the texts of drafts.
use Rattle.std.specs.Prelude.{◌≡◌, ◌⊎◌, ℕ, List}
use Rattle.dvg_frame.specs.declared.op.OpKind.{OpKind}
use Rattle.dvg_read.specs.declared.fault.TextFault.{TextFault}
use Rattle.dvg_read.specs.DraftReading.{Gives}
use Rattle.dvg_read.specs.DraftTexts.{Denotes, HasDraftFault}
use Rattle.dvg_read.specs.RomTexts.{IsRomOf, RomText, SpellsRom}

-- a text denotes at most one draft, and says at most one thing of the ROM
abbrev pub OneMeaning : Type 0
OneMeaning = (text : List ℕ) (rom other : RomText) (F G : List OpKind) → Denotes text rom F → Denotes text other G
    → (other ≡ rom) × (G ≡ F)

-- what is said of a ROM gives at most one ROM
abbrev pub OneRom : Type 0
OneRom = (rom : RomText) (R S : List ℕ) → IsRomOf rom R → IsRomOf rom S → S ≡ R

-- what lines state of a ROM gives a ROM
abbrev pub EachRom : Type 0
EachRom = (rom : RomText) (ls : List (List ℕ)) → SpellsRom rom ls → (R : List ℕ) × IsRomOf rom R

-- a text has at most one fault
abbrev pub OneTextFault : Type 0
OneTextFault = (text : List ℕ) (one other : TextFault) → HasDraftFault text one → HasDraftFault text other → other ≡ one

-- each text denotes a draft and a ROM, or has a fault
abbrev pub IsRead : List ℕ → Type 0
IsRead text = ((F : List OpKind) × (R : List ℕ) × Gives text F R) ⊎ ((fault : TextFault) × HasDraftFault text fault)

-- a text that denotes something has no fault
abbrev pub NoFaultBeside : Type 0
NoFaultBeside = (text : List ℕ) (rom : RomText) (F : List OpKind) → Denotes text rom F → (fault : TextFault)
    → ¬ HasDraftFault text fault
