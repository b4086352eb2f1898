-- What a line of a sketch says.
use Rattle.std.specs.Prelude.{ℕ, List, [], ◌∷◌, Bool, if◌then◌else◌, length, nat_eq, nat_le}
use Rattle.std.specs.List.{ends_with, join_with_byte}
use Rattle.dvg_rows.specs.PlainLines.{tokens}

-- the token gives a name: it ends with a colon, which is 58; in a sketch no other first token does
abbrev pub gives_name : List ℕ → Bool
gives_name token = ends_with nat_eq token (58 ∷ [])

-- the tokens after the name that the first one gives
abbrev pub after_name : List (List ℕ) → List (List ℕ)
after_name [] = []
after_name (first ∷ rest) = if gives_name first then rest else first ∷ rest

-- the tokens that a line says: those after the name that it gives; no line of a sketch has more
-- than ten tokens, and one that had would say nothing
abbrev pub said_tokens : List ℕ → List (List ℕ)
said_tokens line = if nat_le (length (tokens line)) 10 then after_name (tokens line) else []

-- what a line says, with a space between each two tokens
abbrev pub said : List ℕ → List ℕ
said line = join_with_byte 32 (said_tokens line)
