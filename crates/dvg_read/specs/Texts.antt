-- The lines of a text, and the parts of a line.
use Rattle.std.specs.Prelude.{◌≡◌, ℕ, List, [], ◌∷◌, Bool, true, not, length, if◌then◌else◌, ◌==◌}
use Rattle.std.specs.List.{filter, onto_first, slice_split}
use Rattle.std.specs.Str.Parse.{AllDigits, digits_value}

-- the lines of a text: each ends with LF, which the last one may lack; 10 is LF
abbrev pub lines : List ℕ → List (List ℕ)
lines [] = []
lines (byte ∷ bytes) = if byte == 10 then [] ∷ lines bytes else onto_first byte (lines bytes)

-- an empty line and one that begins with `#` are passed over; 35 is `#`
abbrev pub is_passed : List ℕ → Bool
is_passed [] = true
is_passed (byte ∷ bytes) = byte == 35

-- the lines that are not passed over
abbrev pub unpassed : List (List ℕ) → List (List ℕ)
unpassed = filter (λ line. not (is_passed line))

-- the parts of a line, which is cut at each space; 32 is the space
abbrev pub parts : List ℕ → List (List ℕ)
parts = slice_split (λ byte. byte == 32)

-- a number of this many hexadecimal digits, of either case
pub record IsHex (count n : ℕ) (part : List ℕ) : Type 0 where
  pub size : length part ≡ count
  pub digits : AllDigits 16 part
  pub value : digits_value 16 part ≡ n
