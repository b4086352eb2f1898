-- A dump of vector memory.
use Rattle.std.specs.Prelude.{◌≡◌, ◌⊎◌, ℕ, List, Option, drop, length, take}
use Rattle.dvg_mem.specs.Memory.{fetched}

-- the bytes of the RAM and those of the ROM
pub record DumpBytes : Type 0 where
  pub ram : List ℕ
  pub rom : List ℕ

-- the word at each address; none in a hole
abbrev pub memory_of : DumpBytes → ℕ → Option ℕ
memory_of bytes = fetched bytes.ram bytes.rom

-- 2,048 bytes of RAM, and 2,048 or 4,096 of ROM
abbrev pub HasDumpSize : List ℕ → Type 0
HasDumpSize dump = (length dump ≡ 4096) ⊎ (length dump ≡ 6144)

-- the first 2,048 bytes are those of the RAM, and the others those of the ROM
abbrev pub parts_of : List ℕ → DumpBytes
parts_of dump = record { ram = take 2048 dump; rom = drop 2048 dump }
