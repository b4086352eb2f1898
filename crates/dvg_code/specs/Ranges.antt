-- Which instructions are in range.
use Rattle.std.specs.Prelude.{◌≤◌, unsigned_abs}
use Rattle.dvg_code.specs.declared.instr.Instr.{Instr}
use Rattle.dvg_code.specs.declared.instr.Instr.TheVariants.{Vctr, Labs, Jsrl, Jmpl, Svec}

-- each field of the instruction is in its range
abbrev pub InRange : Instr → Type 0
InRange (Vctr scale dx dy z) = (scale ≤ 9) × (unsigned_abs dx ≤ 1023) × (unsigned_abs dy ≤ 1023) × (z ≤ 15)
InRange (Labs x y scale) = (x ≤ 4095) × (y ≤ 4095) × (scale ≤ 15)
InRange (Jsrl address) = address ≤ 4095
InRange (Jmpl address) = address ≤ 4095
InRange (Svec scale dx dy z) = (2 ≤ scale) × (scale ≤ 5) × (unsigned_abs dx ≤ 3) × (unsigned_abs dy ≤ 3) × (z ≤ 15)
InRange _ = Unit {0}
