-- Those bytes of a laid frame that are still to come.
use Rattle.std.specs.Prelude.{◌≡◌, ℕ, ◌*◌, ◌-◌, List, drop, Option}
use Rattle.std.specs.Iterator.{YieldsFirst}
use Rattle.dvg_mem.specs.declared.half.Half.{Half}
use Rattle.dvg_mem.specs.Areas.{base}
use Rattle.dvg_frame.specs.declared.op.OpKind.{OpKind}
use Rattle.dvg_frame.specs.Bytes.{addressed, bytes}
use Rattle.dvg_frame.specs.Layout.{laid, size}

-- the last so many bytes of a draft that is laid out for a half, each with its address
abbrev pub last_items : Half → List OpKind → ℕ → List (ℕ × ℕ)
last_items half F left = drop (2 * size F - left) (addressed (2 * base half) (bytes (laid half F)))

-- what contracts see of a cursor: the draft whose bytes it gives, the half that this is laid out for, and how many
-- bytes are still to come
pub record CursorState : Type 0 where
  pub draft : List OpKind
  pub half : Half
  pub left : ℕ

-- the bytes that are still to come, each with its address
abbrev pub items_in : CursorState → List (ℕ × ℕ)
items_in cursor = last_items cursor.half cursor.draft cursor.left

-- a cursor gives bytes of this draft, laid out for this half
abbrev pub IsOf : CursorState → List OpKind → Half → Type 0
IsOf cursor F half = (cursor.draft ≡ F) × (cursor.half ≡ half)

-- a cursor after its next item, if it has one
abbrev pub after_item : CursorState → CursorState
after_item cursor = record cursor { left = cursor.left - 1 }

-- the first of the items is given, if there is one
pub record GivesItem (old : CursorState) (item : Option (ℕ × ℕ)) (new : CursorState) : Type 0 where
  pub first : YieldsFirst items_in old item new
  pub rest : new ≡ after_item old
