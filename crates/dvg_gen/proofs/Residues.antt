-- Moves round the circle of positions.
use Rattle.std.proofs.Common.{◌≡◌, ℕ, suc, ◌+◌, ◌-◌, ◌*◌, ◌/◌, ◌%◌, ◌<◌, ℤ, pos, negsuc, ◌+ℤ◌, ◌*ℤ◌, ap, arith}
use Rattle.std.proofs.lemmas.Int.{ints}
use Rattle.dvg_gen.specs.Drawing.{shifted}

-- what is moved stays below 2,097,152
pub shifted_below : (x : ℕ) (d : ℤ) (unit : ℕ) → shifted x d unit < 2097152
shifted_below x (pos m) unit = omega arith
shifted_below x (negsuc m) unit = omega arith

-- whole turns make up the rest
pub shifted_turns : (x : ℕ) (d : ℤ) (unit : ℕ) → (turns : ℤ) × (pos x +ℤ d *ℤ pos unit ≡ pos (shifted x d unit) +ℤ turns *ℤ pos 2097152)
shifted_turns x (pos m) unit = (pos ((x + m * unit) / 2097152), ap pos (omega arith))
shifted_turns x (negsuc m) unit = (pos ((x + (2097152 - suc m * unit % 2097152)) / 2097152) +ℤ negsuc (suc m * unit / 2097152), omega (arith, ints))
