-- The words of the shared memory.
use Rattle.std.specs.Prelude.{◌≡◌, ℕ, ◌-◌, ◌/◌, ◌%◌, ◌<◌, ◌≤◌, ◌⊎◌, ◌&&◌, nat_le, nat_lt, ◌==◌, if◌then◌else◌, Bool}
use Rattle.std.specs.Prelude.{List, All, length, Option, Some, None, option_map}
use Rattle.dvg_code.specs.Words.{word_in}

-- the content of a memory of 2,048 bytes
pub record IsImage (content : List ℕ) : Type 0 where
  pub count : length content ≡ 2048
  pub bytes : All (λ byte. byte < 256) content

-- the content of a ROM of 2,048 bytes, or of 4,096
pub record IsRom (content : List ℕ) : Type 0 where
  pub count : (length content ≡ 2048) ⊎ (length content ≡ 4096)
  pub bytes : All (λ byte. byte < 256) content

-- the word address of a ROM's first word: 800 where it has 2,048 bytes, else 400
abbrev pub first_word : List ℕ → ℕ
first_word rom = if length rom == 2048 then 0x800 else 0x400

-- the ROM's word at an address from its first one to BFF; none at any other address
abbrev pub rom_word : List ℕ → ℕ → Option ℕ
rom_word rom a = if nat_le (first_word rom) a && nat_lt a 0xC00 then Some (word_in rom (a - first_word rom)) else None

-- a ROM of 4,096 bytes that has the words of an old one from 800 on, and returns, D000, before them
pub record IsGrown (old new : List ℕ) : Type 0 where
  pub count : length new ≡ 4096
  pub returns : (a : ℕ) → 0x400 ≤ a → a < 0x800 → rom_word new a ≡ Some 0xD000
  pub words : (a : ℕ) → 0x800 ≤ a → rom_word new a ≡ rom_word old a

-- the word that the generator finds at an address: below 400 the RAM's, else the ROM's; none in a hole
abbrev pub fetched : (ram rom : List ℕ) → ℕ → Option ℕ
fetched ram rom w = if nat_lt w 0x400 then Some (word_in ram w) else rom_word rom w

-- the byte that the generator finds at an address, the high or the low one of its word; none in a hole
abbrev pub fetched_byte : (ram rom : List ℕ) → ℕ → Bool → Option ℕ
fetched_byte ram rom w high = option_map (λ word. if high then word / 256 else word % 256) (fetched ram rom w)
