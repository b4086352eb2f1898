-- What the RAM holds.
use Rattle.std.specs.Prelude.{◌≡◌, ℕ, ◌+◌, ◌<◌, List, length, slice_index}
use Rattle.dvg_code.specs.Words.{word_in}
use Rattle.dvg_mem.specs.declared.half.Half.{Half}
use Rattle.dvg_mem.specs.Areas.{base}
use Rattle.dvg_frame.specs.declared.op.OpKind.{OpKind}
use Rattle.dvg_frame.specs.Layout.{laid}

-- the RAM has the laid draft in this half
abbrev pub HoldsDraft : (ram : List ℕ) → Half → List OpKind → Type 0
HoldsDraft ram half F = (k : ℕ) → k < length (laid half F) → word_in ram (base half + k) ≡ slice_index (laid half F) k

-- the RAM has the jump to this half in word zero, and the laid draft in the half
pub record HoldsFrame (ram : List ℕ) (half : Half) (F : List OpKind) : Type 0 where
  pub zero : word_in ram 0 ≡ 0xE000 + base half
  pub laid : HoldsDraft ram half F
