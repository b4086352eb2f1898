-- What a cursor over a frame's bytes has still to give, and what it keeps.
use Rattle.std.specs.Prelude.{◌≡◌, ℕ, ◌+◌, ◌*◌, ◌-◌, ◌≤◌, List, ◌++◌, drop, flat_map}
use Rattle.dvg_code.specs.Spelling.{canon}
use Rattle.dvg_mem.specs.declared.half.Half.{Half}
use Rattle.dvg_mem.specs.Areas.{base}
use Rattle.dvg_frame.specs.declared.op.OpKind.{OpKind}
use Rattle.dvg_frame.specs.declared.cursor.Cursor.TheInside.{Inside}
use Rattle.dvg_frame.specs.Bytes.{bytes}
use Rattle.dvg_frame.specs.Left.{last_items}
use Rattle.dvg_frame.specs.own.Counting.{IsCounted}
use Rattle.dvg_frame.specs.Layout.{laid, op_code, size}
use Rattle.dvg_frame.specs.Steps.{IsWellFormed}

-- the canonical words of these operations of a draft, one after the other
abbrev pub laid_ops : Half → (F ops : List OpKind) → List ℕ
laid_ops half F ops = flat_map (λ op. canon (op_code half F op)) ops

-- the bytes at hand, and those of the operations from this number on
abbrev pub bytes_from : Half → List OpKind → List ℕ → ℕ → List ℕ
bytes_from half F at_hand op = at_hand ++ bytes (laid_ops half F (drop op F))

-- the bytes that are still to come, as the cursor makes them
abbrev pub bytes_left : Inside → List ℕ
bytes_left cursor = bytes_from cursor.half cursor.draft cursor.at_hand cursor.op

-- the items that are still to come
abbrev pub items_left : Inside → List (ℕ × ℕ)
items_left cursor = last_items cursor.half cursor.draft cursor.left

-- the draft has none of the faults 1 to 4, the words before each operation are counted, and the bytes that the cursor
-- makes are the last ones of the laid draft, before the address after its last byte
pub record IsCursor (cursor : Inside) : Type 0 where
  pub begins : IsWellFormed cursor.draft
  pub counted : IsCounted cursor.draft cursor.words_before.items
  pub left : cursor.left ≤ 2 * size cursor.draft
  pub bytes : bytes_left cursor ≡ drop (2 * size cursor.draft - cursor.left) (bytes (laid cursor.half cursor.draft))
  pub end : cursor.end ≡ 2 * base cursor.half + 2 * size cursor.draft
