-- The table of areas, and the two halves.
use Rattle.std.specs.Prelude.{◌≡◌, ◌+◌, ℕ, ◌<◌, ◌≤◌, ◌⊎◌, ◌/◌, ◌%◌, ◌==◌, if◌then◌else◌}
use Rattle.dvg_mem.specs.declared.half.Half.{Half}
use Rattle.dvg_mem.specs.declared.half.Half.TheVariants.{H0, H1}
use Rattle.dvg_mem.specs.declared.areas.Area.{Area}
use Rattle.dvg_mem.specs.declared.areas.Area.TheVariants.{Zero, Frame, Unused, Rom, Hole}

-- the word addresses of each area, where the ROM's first word is at an address
abbrev pub IsInMap : ℕ → Area → ℕ → Type 0
IsInMap first Zero w = w ≡ 0x000
IsInMap first (Frame H0) w = (0x001 ≤ w) × (w ≤ 0x1FF)
IsInMap first Unused w = w ≡ 0x200
IsInMap first (Frame H1) w = (0x201 ≤ w) × (w ≤ 0x3FF)
IsInMap first Rom w = (first ≤ w) × (w ≤ 0xBFF)
IsInMap first Hole w = ((0x400 ≤ w) × (w < first)) ⊎ ((0xC00 ≤ w) × (w ≤ 0xFFF))

-- the word address of a half's first word
abbrev pub base : Half → ℕ
base H0 = 0x001
base H1 = 0x201

-- the word addresses of a half: 511 from its first word on
abbrev pub IsInHalf : Half → ℕ → Type 0
IsInHalf half w = (base half ≤ w) × (w ≤ base half + 510)

-- the half that a half is not
abbrev pub other : Half → Half
other H0 = H1
other H1 = H0

-- the high byte of the jump to a half's first word
abbrev pub high : Half → ℕ
high H0 = 0xE0
high H1 = 0xE2

-- the half that a high byte of word zero names, by its bit 1
abbrev pub half_of_high : ℕ → Half
half_of_high byte = if byte / 2 % 2 == 0 then H0 else H1
