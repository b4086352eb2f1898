-- One byte throughout.
use Rattle.std.specs.Prelude.{◌≡◌, ℕ, List, length, replicate, Option, Some, None}

-- this byte stands everywhere
abbrev pub IsFilled : List ℕ → ℕ → Type 0
IsFilled content byte = content ≡ replicate (length content) byte

-- what a store holds: these bytes, or in their place one byte everywhere
abbrev pub held : Option ℕ → List ℕ → List ℕ
held None bytes = bytes
held (Some byte) bytes = replicate (length bytes) byte
