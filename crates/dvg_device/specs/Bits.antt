-- Flags as bits.
use Rattle.std.specs.Prelude.{ℕ, Bool, true, false}

-- a flag as a bit
abbrev pub bit : Bool → ℕ
bit true = 1
bit false = 0
