-- What the text of a draft denotes, and its first fault.
use Rattle.std.specs.Prelude.{◌≡◌, ℕ, ◌<◌, ◌≤◌, List, [], ◌∷◌, ◌++◌, length}
use Rattle.std.specs.List.{AllZip}
use Rattle.dvg_frame.specs.declared.op.OpKind.{OpKind}
use Rattle.dvg_read.specs.declared.fault.TextFault.{TextFault}
use Rattle.dvg_read.specs.declared.fault.TextFault.TheVariants.{TooLong, Syntax, Full}
use Rattle.dvg_read.specs.Texts.{lines, unpassed}
use Rattle.dvg_read.specs.FirstFaults.{IsShort, Reaches}
use Rattle.dvg_read.specs.OpLines.{IsOpLine}
use Rattle.dvg_read.specs.RomTexts.{RomText, SpellsRom}
use Rattle.dvg_read.specs.declared.draft_text.TheConstants.{MOST_TEXT_BYTES}
use Rattle.dvg_frame.specs.declared.draft.TheConstants.{MAX_OPS}

-- lines that describe the ROM, and then lines of operations
pub record SpellsDraft (rom : RomText) (ops : List OpKind) (ls : List (List ℕ)) : Type 0 where
  pub front : List (List ℕ)
  pub rest : List (List ℕ)
  pub cut : ls ≡ front ++ rest
  pub head : SpellsRom rom front
  pub draft : AllZip IsOpLine ops rest

-- the text denotes this ROM and this draft: what those of its lines spell that aren't passed over
pub record Denotes (text : List ℕ) (rom : RomText) (ops : List OpKind) : Type 0 where
  pub short : IsShort text
  pub spelled : SpellsDraft rom ops (unpassed (lines text))
  pub count : length ops ≤ MAX_OPS

-- lines that spell a ROM and no more operations than a draft holds
pub record IsFineDraft (ls : List (List ℕ)) : Type 0 where
  pub rom : RomText
  pub ops : List OpKind
  pub spelled : SpellsDraft rom ops ls
  pub count : length ops ≤ MAX_OPS

-- line n is the first with which the lines spell nothing
pub record DraftMeetsSyntax (text : List ℕ) (n : ℕ) : Type 0 where
  pub before : List (List ℕ)
  pub line : List ℕ
  pub reaches : Reaches IsFineDraft text n before line
  pub wrong : (rom : RomText) (ops : List OpKind) → ¬ SpellsDraft rom ops (unpassed before ++ line ∷ [])

-- line n is that of operation number 511, which no draft can hold
pub record DraftMeetsFull (text : List ℕ) (n : ℕ) : Type 0 where
  pub before : List (List ℕ)
  pub line : List ℕ
  pub reaches : Reaches IsFineDraft text n before line
  pub rom : RomText
  pub ops : List OpKind
  pub right : SpellsDraft rom ops (unpassed before ++ line ∷ [])
  pub over : MAX_OPS < length ops

-- the fault of a draft's text
abbrev pub HasDraftFault : List ℕ → TextFault → Type 0
HasDraftFault text TooLong = MOST_TEXT_BYTES < length text
HasDraftFault text (Syntax n) = DraftMeetsSyntax text n
HasDraftFault text (Full n) = DraftMeetsFull text n
HasDraftFault text _ = ⊥
