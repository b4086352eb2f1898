-- Which words spell an instruction: sums of their fields.
use Rattle.std.specs.Prelude.{◌≡◌, ℕ, zero, suc, ◌+◌, ◌-◌, ◌*◌, ◌/◌, ◌%◌, ◌<◌, ◌≤◌, ℤ, pos, negsuc, unsigned_abs, List}
use Rattle.std.specs.Prelude.{[], ◌∷◌}
use Rattle.dvg_code.specs.declared.instr.Instr.{Instr}
use Rattle.dvg_code.specs.declared.instr.Instr.TheVariants.{Vctr, Labs, Halt, Jsrl, Rtsl, Jmpl, Svec}
use Rattle.dvg_code.specs.Ranges.{InRange}

-- the sign bit of a number is 1 below zero, 0 above it, and free at zero
abbrev pub IsSignOf : ℤ → ℕ → Type 0
IsSignOf (pos zero) bit = bit < 2
IsSignOf (pos (suc n)) bit = bit ≡ 0
IsSignOf (negsuc n) bit = bit ≡ 1

-- four bits, a free bit, a sign bit and a magnitude of ten bits add up to the word (their ranges are the instruction's)
pub record LongWord (top : ℕ) (n : ℤ) (word : ℕ) : Type 0 where
  pub free : ℕ
  pub sign : ℕ
  pub free_is_bit : free < 2
  pub sign_is : IsSignOf n sign
  pub sum : word ≡ 4096 * top + 2048 * free + 1024 * sign + unsigned_abs n

-- the opcode F, two sign bits, two magnitudes of two bits, an intensity and the scale's two bits add up to the word;
-- bit 11 has weight 1 in the scale, bit 3 weight 2 (the ranges are the instruction's)
pub record ShortWord (scale : ℕ) (dx dy : ℤ) (z word : ℕ) : Type 0 where
  pub bit_11 : ℕ
  pub bit_3 : ℕ
  pub dy_sign : ℕ
  pub dx_sign : ℕ
  pub bit_11_is_bit : bit_11 < 2
  pub bit_3_is_bit : bit_3 < 2
  pub dy_sign_is : IsSignOf dy dy_sign
  pub dx_sign_is : IsSignOf dx dx_sign
  pub weights : scale ≡ 2 + 2 * bit_3 + bit_11
  pub sum : word ≡ 0xF000 + 2048 * bit_11 + 1024 * dy_sign + 256 * unsigned_abs dy + 16 * z + 8 * bit_3 + 4 * dx_sign +
      unsigned_abs dx

-- exactly these words spell this instruction
pub data Spells : Instr → List ℕ → Type 0 where
  vctr : {scale : ℕ} {dx dy : ℤ} {z first second : ℕ} → InRange (Vctr scale dx dy z)
      → LongWord scale dy first → LongWord z dx second → Spells (Vctr scale dx dy z) (first ∷ second ∷ [])
  labs : {x y scale first second : ℕ} → InRange (Labs x y scale)
      → first ≡ 0xA000 + y → second ≡ 4096 * scale + x → Spells (Labs x y scale) (first ∷ second ∷ [])
  halt : {word : ℕ} → 0xB000 ≤ word → word < 0xC000 → Spells Halt (word ∷ [])
  jsrl : {address word : ℕ} → InRange (Jsrl address) → word ≡ 0xC000 + address → Spells (Jsrl address) (word ∷ [])
  rtsl : {word : ℕ} → 0xD000 ≤ word → word < 0xE000 → Spells Rtsl (word ∷ [])
  jmpl : {address word : ℕ} → InRange (Jmpl address) → word ≡ 0xE000 + address → Spells (Jmpl address) (word ∷ [])
  svec : {scale : ℕ} {dx dy : ℤ} {z word : ℕ} → InRange (Svec scale dx dy z) → ShortWord scale dx dy z word
      → Spells (Svec scale dx dy z) (word ∷ [])

-- a word of opcode 0 to A: it wants a second word
abbrev pub IsFirst : ℕ → Type 0
IsFirst word = word < 0xB000

-- how many words an instruction has
abbrev pub word_count : Instr → ℕ
word_count (Vctr scale dx dy z) = 2
word_count (Labs x y scale) = 2
word_count _ = 1

-- the sign bit that is written: 1 below zero, and else 0
abbrev pub sign_bit : ℤ → ℕ
sign_bit (pos n) = 0
sign_bit (negsuc n) = 1

-- the canonical spelling: 0 in each ignored bit, and the sign 0 at zero
abbrev pub canon : Instr → List ℕ
canon (Vctr scale dx dy z) =
    (4096 * scale + 1024 * sign_bit dy + unsigned_abs dy) ∷ (4096 * z + 1024 * sign_bit dx + unsigned_abs dx) ∷ []
canon (Labs x y scale) = (0xA000 + y) ∷ (4096 * scale + x) ∷ []
canon Halt = 0xB000 ∷ []
canon (Jsrl address) = (0xC000 + address) ∷ []
canon Rtsl = 0xD000 ∷ []
canon (Jmpl address) = (0xE000 + address) ∷ []
canon (Svec scale dx dy z) =
    (0xF000 + 2048 * ((scale - 2) % 2) + 1024 * sign_bit dy + 256 * unsigned_abs dy + 16 * z + 8 *
    ((scale - 2) / 2) + 4 * sign_bit dx + unsigned_abs dx) ∷ []

-- the words are the canonical spelling of some instruction in range
abbrev pub IsCanonical : List ℕ → Type 0
IsCanonical words = (instr : Instr) × InRange instr × (words ≡ canon instr)
