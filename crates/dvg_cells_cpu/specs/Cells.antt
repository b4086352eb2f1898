-- What one more kind of cell computes, beside those of dvg_cells_core. $and, $or and $xor are the Prelude's bit_and, bit_or, bit_xor.
use Rattle.std.specs.Prelude.{ℕ, nat_le}
use Rattle.dvg_cells_core.specs.Cells.{bit}

-- $ge, of unsigned numbers
abbrev pub ge : ℕ → ℕ → ℕ
ge a b = bit (nat_le b a)
