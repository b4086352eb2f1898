-- Laws of spellings and cuttings.
use Rattle.std.specs.Prelude.{◌≡◌, ◌<◌, ◌≤◌, ◌+◌, ◌*◌, List, [], ◌∷◌, ◌++◌, ℕ, length, slice_index}
use Rattle.dvg_code.specs.declared.instr.Instr.{Instr}
use Rattle.dvg_code.specs.Words.{AreBytes, AreWords, IsWord, word_in, words_of}
use Rattle.dvg_code.specs.Ranges.{InRange}
use Rattle.dvg_code.specs.Spelling.{IsFirst, Spells, canon, word_count}
use Rattle.dvg_code.specs.Cutting.{Cutting, Fronts, IsRest}

-- words spell at most one instruction
abbrev pub OneSpelling : Type 0
OneSpelling = (a b : Instr) (words : List ℕ) → Spells a words → Spells b words → a ≡ b

-- the canonical spelling is a spelling
abbrev pub CanonicalSpells : Type 0
CanonicalSpells = (instr : Instr) → InRange instr → Spells instr (canon instr)

-- each spelling of an instruction has its number of words
abbrev pub SpellingLength : Type 0
SpellingLength = (instr : Instr) (words : List ℕ) → Spells instr words → length words ≡ word_count instr

-- each word of 16 bits begins an instruction: one of opcode B to F alone, and one of opcode 0 to A with any second word
abbrev pub EachWordBegins : Type 0
EachWordBegins = ((word : ℕ) → 0xB000 ≤ word → IsWord word → (instr : Instr) × Spells instr (word ∷ []))
    × ((first second : ℕ) → IsFirst first → IsWord second → (instr : Instr) × Spells instr (first ∷ second ∷ []))

-- two spellings at the front of the same words are one, with the same words after it
abbrev pub OneFront : Type 0
OneFront = (a b : Instr) (front front' after after' : List ℕ) → Spells a front → Spells b front'
    → front ++ after ≡ front' ++ after'
    → (a ≡ b) × (front ≡ front') × (after ≡ after')

-- the rest of a cutting begins with no instruction
abbrev pub RestBeginsNone : Type 0
RestBeginsNone = (rest : List ℕ) → IsRest rest → (instr : Instr) (count : ℕ) → Fronts rest instr count → ⊥

-- each list of words of 16 bits has a cutting, and two cuttings of the same words are one, also of numbers past 16 bits
abbrev pub OneCutting : Type 0
OneCutting = ((words : List ℕ) → AreWords words → Cutting words)
    × ((words : List ℕ) (one other : Cutting words)
    → (other.items ≡ one.items) × (other.end ≡ one.end) × (other.rest ≡ one.rest))

-- the words of bytes have 16 bits, and word k of them is made of bytes 2k and 2k + 1
abbrev pub BytesMakeWords : Type 0
BytesMakeWords = (bytes : List ℕ) → (AreBytes bytes → AreWords (words_of bytes))
    × ((k : ℕ) → 2 * k + 1 < length bytes → slice_index (words_of bytes) k ≡ word_in bytes k)
