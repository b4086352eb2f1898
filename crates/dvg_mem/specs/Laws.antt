-- Laws of the memory map.
use Rattle.std.specs.Prelude.{◌≡◌, ◌≢◌, ◌<◌, ◌≤◌, ◌+◌, ◌*◌, ◌↔◌, ℕ, List, Some, true, false, length, slice_index}
use Rattle.dvg_mem.specs.declared.half.Half.{Half}
use Rattle.dvg_mem.specs.declared.areas.Area.{Area}
use Rattle.dvg_mem.specs.declared.areas.Area.TheVariants.{Frame}
use Rattle.dvg_mem.specs.Areas.{IsInHalf, IsInMap, base, half_of_high, high, other}
use Rattle.dvg_mem.specs.Memory.{IsImage, IsRom, first_word, rom_word, fetched_byte}
use Rattle.dvg_code.specs.Words.{words_of}

-- each word address lies in an area, and in no other, wherever after the RAM the ROM's first word is
abbrev pub OneArea : Type 0
OneArea = (first w : ℕ) → 0x400 ≤ first → first ≤ 0xBFF → w ≤ 0xFFF
    → (one : Area) × IsInMap first one w × ((also : Area) → IsInMap first also w → also ≡ one)

-- word zero with a half's high byte over the low byte 01 is a jump to the half's first word, and
-- the high byte names the half
abbrev pub HighNamesHalf : Type 0
HighNamesHalf = (half : Half) → (0x01 + 256 * high half ≡ 0xE000 + base half) × (half_of_high (high half) ≡ half)

-- the other half is a different one, and its other half is the first
abbrev pub HalvesDiffer : Type 0
HalvesDiffer = (half : Half) → (other half ≢ half) × (other (other half) ≡ half)

-- in each map the area of a half is the 511 words from its first word on
abbrev pub HalfFromBase : Type 0
HalfFromBase = (first w : ℕ) (half : Half) → IsInMap first (Frame half) w ↔ IsInHalf half w

-- the ROM's words, from its first address on, are the words of its bytes in order
abbrev pub RomWordsInOrder : Type 0
RomWordsInOrder = (rom : List ℕ) (k : ℕ) → IsRom rom → 2 * k < length rom
    → rom_word rom (first_word rom + k) ≡ Some (slice_index (words_of rom) k)

-- the bytes of a word of the RAM are those at twice its address, the low byte first
abbrev pub BytesInOrder : Type 0
BytesInOrder = (ram rom : List ℕ) (w : ℕ) → IsImage ram → w < 0x400
    → (fetched_byte ram rom w false ≡ Some (slice_index ram (2 * w)))
    × (fetched_byte ram rom w true ≡ Some (slice_index ram (2 * w + 1)))
