-- Numbers by sign and magnitude.
use Rattle.std.specs.Prelude.{ℕ, zero, suc, ℤ, pos, negsuc}

-- the number of a sign bit and a magnitude
abbrev pub signed : ℕ → ℕ → ℤ
signed zero magnitude = pos magnitude
signed (suc sign) zero = pos zero
signed (suc sign) (suc magnitude) = negsuc magnitude
