-- Which words of the ROM are taken.
use Rattle.std.specs.Prelude.{◌≡◌, ◌+◌, ◌<◌, ◌≤◌, ◌⊎◌, ℕ, List, Bool, Option, max, unwrap_or, get_or, true, false}
use Rattle.dvg_read.specs.declared.fault.LineFault.{LineFault}
use Rattle.dvg_read.specs.declared.fault.LineFault.TheVariants.{OutOfRom, Overlap}
use Rattle.dvg_rows.specs.declared.rom_area.RomArea.{RomArea}

-- none of these words is taken
abbrev pub IsFree : List Bool → (first end : ℕ) → Type 0
IsFree taken first end = (a : ℕ) → first ≤ a → a < end → get_or taken a false ≡ false

-- a section begins at this address, or else at the first free word
pub record BeginsAt (first : ℕ) (address : Option ℕ) (old new : RomArea) : Type 0 where
  pub next : new.next ≡ unwrap_or address old.free
  pub free : new.free ≡ max old.free new.next
  pub taken : new.is_taken ≡ old.is_taken
  pub low : first ≤ new.next
  pub high : new.next ≤ 0xC00

-- so many words more are taken
pub record Takes (words : ℕ) (old new : RomArea) : Type 0 where
  pub next : new.next ≡ old.next + words
  pub free : new.free ≡ max old.free new.next
  pub high : new.next ≤ 0xC00
  pub were_free : IsFree old.is_taken old.next new.next
  pub marked : (a : ℕ) → old.next ≤ a → a < new.next → get_or new.is_taken a false ≡ true
  pub others : (a : ℕ) → (a < old.next) ⊎ (new.next ≤ a) → get_or new.is_taken a false ≡ get_or old.is_taken a false

-- why they aren't taken
abbrev pub StopsArea : (words : ℕ) → RomArea → LineFault → Type 0
StopsArea words area OutOfRom = 0xC00 < area.next + words
StopsArea words area Overlap = (area.next + words ≤ 0xC00) × (¬ IsFree area.is_taken area.next (area.next + words))
StopsArea words area _ = ⊥

-- why a section doesn't begin there
abbrev pub StopsBegin : (first : ℕ) → Option ℕ → RomArea → LineFault → Type 0
StopsBegin first address area OutOfRom =
    (unwrap_or address area.free < first) ⊎ (0xC00 < unwrap_or address area.free)
StopsBegin first address area _ = ⊥
