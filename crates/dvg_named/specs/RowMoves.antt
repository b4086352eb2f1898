-- What one row more does to the section that it stands in (for private contracts).
use Rattle.std.specs.Prelude.{◌≡◌, ◌+◌, ◌<◌, ◌≤◌, ℕ, Option, None, Some}
use Rattle.dvg_rows.specs.Rows.{Doing, Head, frame, rom, top}
use Rattle.dvg_frame.specs.declared.draft.TheConstants.{MAX_OPS}

-- a frame begins so, or the text does
abbrev pub IsFrameHead : Head → Type 0
IsFrameHead top = Unit {0}
IsFrameHead (frame name) = Unit {0}
IsFrameHead (rom address) = ⊥

-- a section of the ROM begins so
abbrev pub IsRomHead : Head → Type 0
IsRomHead top = ⊥
IsRomHead (frame name) = ⊥
IsRomHead (rom address) = Unit {0}

-- with a row that does this, a frame has so many operations
abbrev pub IsCounted : (count : ℕ) → Option Doing → (now : ℕ) → Type 0
IsCounted count None now = now ≡ count
IsCounted count (Some doing) now = (now ≡ count + 1) × (count < MAX_OPS)

-- a draft can't hold what the row does
abbrev pub IsFull : (count : ℕ) → Option Doing → Type 0
IsFull count None = ⊥
IsFull count (Some doing) = MAX_OPS ≤ count
