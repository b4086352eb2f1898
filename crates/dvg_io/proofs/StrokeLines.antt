-- What is written of strokes, one line after the other.
use Rattle.std.proofs.Common.{◌≡◌, ℕ, ◌+◌, ◌<◌, List, ◌++◌, length, drop, get_or, ap, flat_map}
use Rattle.std.proofs.lemmas.List.{drop_more}
use Rattle.dvg_gen.specs.declared.stroke.Stroke.{Stroke}
use Rattle.dvg_print.specs.Shows.{stroke_line}
use Rattle.dvg_print.proofs.StrokeTexts.{no_stroke}

-- the line of the stroke at an index
abbrev pub line_at : List Stroke → ℕ → List ℕ
line_at strokes i = stroke_line (get_or strokes i no_stroke)

-- the lines from an index on are that one, and those after it
pub next_line : (strokes : List Stroke) (i : ℕ) → i < length strokes
    → flat_map stroke_line (drop i strokes) ≡ line_at strokes i ++ flat_map stroke_line (drop (i + 1) strokes)
next_line strokes i low = ap (flat_map stroke_line) (drop_more strokes i no_stroke low)
