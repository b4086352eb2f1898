-- What a `TextLines` gives.
use Rattle.std.specs.Prelude.{◌≡◌, ℕ, List, [], ◌∷◌, ◌++◌, length, Option, Some, None}
use Rattle.std.specs.List.{AllZip}
use Rattle.std.specs.Borrow.{Bor}
use Rattle.dvg_read.specs.declared.text_lines.TextLines.{TextLines}
use Rattle.dvg_frame.specs.declared.op.OpKind.{OpKind}
use Rattle.dvg_read.specs.OpLines.{IsOpLine}
use Rattle.dvg_read.specs.Texts.{lines}

-- the lines that are left
abbrev pub lines_left : TextLines → List (List ℕ)
lines_left text = lines text.rest.now

-- one call of `next`: None exactly where no line is left, else the first of those that are
abbrev pub NextLine : TextLines → Option (Bor (List ℕ)) → TextLines → Type 0
NextLine old None new = (lines_left old ≡ []) × (lines_left new ≡ [])
NextLine old (Some line) new = lines_left old ≡ line.now ∷ lines_left new

-- the first line of a text spells this operation, and this text stands after it
pub record HasOp (text : List ℕ) (op : OpKind) (rest : List ℕ) : Type 0 where
  pub line : List ℕ
  pub spelled : IsOpLine op line
  pub cut : lines text ≡ line ∷ lines rest

-- the first of these lines, so many, spell one operation each, which was added to those before
pub record AddsOps (left : List (List ℕ)) (old : List OpKind) (count : ℕ) (rest : List (List ℕ))
    (new : List OpKind) : Type 0 where
  pub more : List OpKind
  pub ahead : List (List ℕ)
  pub spelled : AllZip IsOpLine more ahead
  pub cut : left ≡ ahead ++ rest
  pub added : new ≡ old ++ more
  pub counted : length more ≡ count
