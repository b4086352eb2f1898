-- Words of 16 bits.
use Rattle.std.specs.Prelude.{ℕ, ◌+◌, ◌*◌, ◌<◌, List, [], ◌∷◌, All, slice_index}

-- a number of 16 bits
abbrev pub IsWord : ℕ → Type 0
IsWord word = word < 0x10000

-- each of these numbers has 16 bits
abbrev pub AreWords : List ℕ → Type 0
AreWords words = All IsWord words

-- each of these numbers is a byte
abbrev pub AreBytes : List ℕ → Type 0
AreBytes bytes = All (λ byte. byte < 256) bytes

-- word k of a list of bytes: the low byte, and 256 times the high byte
abbrev pub word_in : List ℕ → ℕ → ℕ
word_in bytes k = slice_index bytes (2 * k) + 256 * slice_index bytes (2 * k + 1)

-- the whole words of a list of bytes, in order
abbrev pub words_of : List ℕ → List ℕ
words_of [] = []
words_of (low ∷ []) = []
words_of (low ∷ high ∷ bytes) = (low + 256 * high) ∷ words_of bytes
