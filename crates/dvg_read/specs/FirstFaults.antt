-- The first line of a text at fault.
use Rattle.std.specs.Prelude.{◌≡◌, ℕ, ◌+◌, ◌≤◌, List, ◌∷◌, ◌++◌, length, false}
use Rattle.dvg_read.specs.Texts.{is_passed, lines, unpassed}
use Rattle.dvg_read.specs.declared.draft_text.TheConstants.{MOST_TEXT_BYTES}

-- the text is no longer than a text may be
abbrev pub IsShort : List ℕ → Type 0
IsShort text = length text ≤ MOST_TEXT_BYTES

-- line n isn't passed over, and the lines before it are without fault
pub record Reaches (Fine : List (List ℕ) → Type 0) (text : List ℕ) (n : ℕ) (before : List (List ℕ))
    (line : List ℕ) : Type 0 where
  pub short : IsShort text
  pub after : List (List ℕ)
  pub cut : lines text ≡ before ++ line ∷ after
  pub number : n ≡ length before + 1
  pub fine : Fine (unpassed before)
  pub is_unpassed : is_passed line ≡ false
