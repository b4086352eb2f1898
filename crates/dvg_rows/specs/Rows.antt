-- What a line of a sketch spells: the row of a section, or the line that begins one.
use Rattle.std.specs.Prelude.{ℕ, ◌≤◌, List, [], ◌∷◌, ◌++◌, ◌≡◌, length, Bool, IsTrue, true, ◌==◌, ◌||◌, Option, Some}
use Rattle.std.specs.Prelude.{None, codes}
use Rattle.std.specs.Char.{is_ascii_lowercase, is_ascii_digit}
use Rattle.std.specs.List.{list_all}
use Rattle.dvg_frame.specs.declared.op.OpKind.{OpKind}
use Rattle.dvg_read.specs.OpLines.{OpParts}
use Rattle.dvg_read.specs.Texts.{IsHex, parts}

-- a letter, a digit or `_`; 95 is `_`
abbrev pub is_name_byte : ℕ → Bool
is_name_byte byte = is_ascii_lowercase byte || is_ascii_digit byte || byte == 95

-- a name begins with a letter
abbrev pub BeginsWithLetter : List ℕ → Type 0
BeginsWithLetter [] = ⊥
BeginsWithLetter (byte ∷ bytes) = IsTrue (is_ascii_lowercase byte)

-- a name: a letter, then letters, digits and `_`, at most 32 bytes; no three hexadecimal digits
pub record IsName (name : List ℕ) : Type 0 where
  pub first : BeginsWithLetter name
  pub bytes : list_all is_name_byte name ≡ true
  pub most : length name ≤ 32
  pub no_address : (a : ℕ) → ¬ IsHex 3 a name

-- what a row does: an operation as a plain draft has it, or one whose target has a name
pub data Doing : Type 0 where
  plainly : OpKind → Doing
  calls : List ℕ → Doing
  jumps : List ℕ → Doing
  calls_rom : List ℕ → Doing
  jumps_rom : List ℕ → Doing

-- the parts of a line that spells it
pub data DoingParts : Doing → List (List ℕ) → Type 0 where
  plain : {op : OpKind} {ps : List (List ℕ)} → OpParts op ps → DoingParts (plainly op) ps
  call : {name : List ℕ} → IsName name → DoingParts (calls name) (codes "call" ∷ name ∷ [])
  jump : {name : List ℕ} → IsName name → DoingParts (jumps name) (codes "jump" ∷ name ∷ [])
  callrom : {name : List ℕ} → IsName name → DoingParts (calls_rom name) (codes "callrom" ∷ name ∷ [])
  jumprom : {name : List ℕ} → IsName name → DoingParts (jumps_rom name) (codes "jumprom" ∷ name ∷ [])

-- a row of a section: perhaps a name, and perhaps what it does
pub record Row : Type 0 where
  pub name : Option (List ℕ)
  pub doing : Option Doing

-- the parts of a line that spells a row: a name ends with a colon, which is 58
pub data RowParts : Row → List (List ℕ) → Type 0 where
  named : {name : List ℕ} → IsName name → RowParts (record { name = Some name; doing = None }) ((name ++ 58 ∷ []) ∷ [])
  does : {doing : Doing} {ps : List (List ℕ)} → DoingParts doing ps
      → RowParts (record { name = None; doing = Some doing }) ps
  both : {name : List ℕ} {doing : Doing} {ps : List (List ℕ)} → IsName name → DoingParts doing ps
      → RowParts (record { name = Some name; doing = Some doing }) ((name ++ 58 ∷ []) ∷ ps)

-- how a section begins: with the text, with a line `.frame` or with a line `.rom`
pub data Head : Type 0 where
  top : Head
  frame : Option (List ℕ) → Head
  rom : Option ℕ → Head

-- the parts of a line that begins a section
pub data HeadParts : Head → List (List ℕ) → Type 0 where
  nameless : HeadParts (frame None) (codes ".frame" ∷ [])
  named_frame : {name : List ℕ} → IsName name → HeadParts (frame (Some name)) (codes ".frame" ∷ name ∷ [])
  anywhere : HeadParts (rom None) (codes ".rom" ∷ [])
  at : {a : ℕ} {digits : List ℕ} → IsHex 3 a digits → HeadParts (rom (Some a)) (codes ".rom" ∷ digits ∷ [])

-- the line spells this row
abbrev pub IsRowLine : Row → List ℕ → Type 0
IsRowLine row line = RowParts row (parts line)

-- the line begins a section so
abbrev pub IsHeadLine : Head → List ℕ → Type 0
IsHeadLine head line = HeadParts head (parts line)
