-- The lines of a sketch's text, in the form that a plain draft has.
use Rattle.std.specs.Prelude.{ℕ, List, [], ◌∷◌, Bool, false, true, map, filter, ◌==◌, ◌||◌}
use Rattle.std.specs.Char.{to_ascii_lowercase}
use Rattle.std.specs.List.{before_first, join_with_byte, slice_split}
use Rattle.std.specs.Str.Lines.{strip_carriage_return}
use Rattle.dvg_read.specs.Texts.{lines}

-- a space and a tab are blanks; 32 is the space, and 9 the tab
abbrev pub is_blank : ℕ → Bool
is_blank byte = byte == 32 || byte == 9

-- what stands before the first `#`; 35 is `#`
abbrev pub uncommented : List ℕ → List ℕ
uncommented = before_first (λ byte. byte == 35)

-- a blank ends a token, and so does a comment
abbrev pub ends_token : ℕ → Bool
ends_token byte = is_blank byte || byte == 35

-- there is a byte
abbrev pub is_some_byte : List ℕ → Bool
is_some_byte [] = false
is_some_byte (byte ∷ bytes) = true

-- the tokens of a line: what its blanks part, without its comment and without one CR at its end
abbrev pub tokens : List ℕ → List (List ℕ)
tokens line = filter is_some_byte (slice_split is_blank (uncommented (strip_carriage_return line)))

-- the line as a plain draft has it: its tokens, with a space between each two
abbrev pub plain : List ℕ → List ℕ
plain line = join_with_byte 32 (tokens line)

-- the lines of a text in small letters, each as a plain draft has it;
-- a line without tokens is empty
abbrev pub plain_lines : List ℕ → List (List ℕ)
plain_lines text = map plain (lines (map to_ascii_lowercase text))
