-- Lines of instructions.
use Rattle.std.proofs.Common.{◌≡◌, ℕ, ◌+◌, ◌<◌, List, ◌++◌, length, drop, get_or, ap, sym, ◌∙◌, flat_map}
use Rattle.std.proofs.lemmas.List.{drop_more}
use Rattle.dvg_game.specs.declared.told.PlaceLine.{PlaceLine}

-- the next line is that at this index
pub next_line : {A : Type 0} (lines : List (PlaceLine A)) (i : ℕ) (line : PlaceLine A) → i < length lines → line ≡ get_or lines i line
    → flat_map (λ line. line.bytes.items) (drop i lines) ≡ line.bytes.items ++ flat_map (λ line. line.bytes.items) (drop (i + 1) lines)
next_line lines i line low is =
    ap (flat_map (λ line. line.bytes.items)) (drop_more lines i line low)
    ∙ ap (λ l. l.bytes.items ++ flat_map (λ line. line.bytes.items) (drop (i + 1) lines)) (sym is)
