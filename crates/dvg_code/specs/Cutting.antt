-- The cutting of a list of words into instructions.
use Rattle.std.specs.Prelude.{◌≡◌, ℕ, ◌+◌, List, [], ◌∷◌, ◌++◌, length}
use Rattle.dvg_code.specs.declared.instr.Instr.{Instr}
use Rattle.dvg_code.specs.Spelling.{IsFirst, Spells}

-- a front of the words, of this many words, spells this instruction
pub record Fronts (words : List ℕ) (instr : Instr) (count : ℕ) : Type 0 where
  pub front : List ℕ
  pub after : List ℕ
  pub parts : words ≡ front ++ after
  pub spells : Spells instr front
  pub counted : count ≡ length front

-- exactly one word, of opcode 0 to A: its second word is missing
abbrev pub IsCut : List ℕ → Type 0
IsCut words = (word : ℕ) × IsFirst word × (words ≡ word ∷ [])

-- what a cutting may leave at the end: no word, or one whose second word is missing
abbrev pub IsRest : List ℕ → Type 0
IsRest [] = Unit {0}
IsRest (word ∷ []) = IsFirst word
IsRest (word ∷ next ∷ words) = ⊥

-- an instruction at the place of its first word, with the words that spell it
pub record Placed : Type 0 where
  pub place : ℕ
  pub instr : Instr
  pub words : List ℕ

-- these words, the first of which stands at this place, are the spellings of these instructions, one after the other,
-- and then, at the place `end`, a rest
pub data Cuts : ℕ → List ℕ → List Placed → ℕ → List ℕ → Type 0 where
  ends : {place : ℕ} {rest : List ℕ} → IsRest rest → Cuts place rest [] place rest
  goes : {place end : ℕ} {instr : Instr} {words front after rest : List ℕ} {items : List Placed} → Spells instr front
      → words ≡ front ++ after
      → Cuts (place + length front) after items end rest
      → Cuts place words (record { place = place; instr = instr; words = front } ∷ items) end rest

-- the cutting of a whole list of words, whose rest begins at the place `end`
pub record Cutting (words : List ℕ) : Type 0 where
  pub items : List Placed
  pub end : ℕ
  pub rest : List ℕ
  pub cuts : Cuts 0 words items end rest
