-- What an instruction does to the beam, and what it draws.
use Rattle.std.specs.Prelude.{ℕ, zero, suc, ◌+◌, ◌-◌, ◌*◌, ◌%◌, ◌^◌, ℤ, pos, negsuc, List, [], ◌∷◌, if◌then◌else◌}
use Rattle.std.specs.Prelude.{nat_le}
use Rattle.dvg_code.specs.declared.instr.Instr.{Instr}
use Rattle.dvg_code.specs.declared.instr.Instr.TheVariants.{Vctr, Labs, Svec}
use Rattle.dvg_gen.specs.declared.beam.Beam.{Beam}
use Rattle.dvg_gen.specs.declared.stroke.Stroke.{Stroke}

-- how far a magnitude of 1 moves the beam at an effective scale: 10 to 15 move nothing
abbrev pub unit : ℕ → ℕ
unit scale = if nat_le scale 9 then 2 ^ scale else 0

-- a position that was moved by a signed magnitude times a unit, modulo 2,097,152
abbrev pub shifted : ℕ → ℤ → ℕ → ℕ
shifted from (pos m) unit = (from + m * unit) % 2097152
shifted from (negsuc m) unit = (from + (2097152 - suc m * unit % 2097152)) % 2097152

-- the beam that was moved by dx and dy times a unit
abbrev pub slid : Beam → ℤ → ℤ → ℕ → Beam
slid beam dx dy unit = record { x = shifted beam.x dx unit; y = shifted beam.y dy unit; scale = beam.scale }

-- the beam that LABS leaves
abbrev pub placed : ℕ → ℕ → ℕ → Beam
placed x y scale = record { x = 512 * x; y = 512 * y; scale = scale }

-- the beam after an instruction: moved by the effective scale, of SVEC 256 times as far, placed by LABS, else as it was
abbrev pub moved : Beam → Instr → Beam
moved beam (Vctr scale dx dy z) = slid beam dx dy (unit ((beam.scale + scale) % 16))
moved beam (Labs x y scale) = placed x y scale
moved beam (Svec scale dx dy z) = slid beam dx dy (256 * unit ((beam.scale + scale) % 16))
moved beam _ = beam

-- the stroke from one position of the beam to another, of intensity 1 at least
abbrev pub line : Beam → Beam → ℕ → List Stroke
line from to zero = []
line from to (suc z) = record { x0 = from.x; y0 = from.y; x1 = to.x; y1 = to.y; z = suc z } ∷ []

-- what an instruction draws: a vector its stroke, also of length zero, and the others nothing
abbrev pub drawn : Beam → Instr → List Stroke
drawn beam (Vctr scale dx dy z) = line beam (moved beam (Vctr scale dx dy z)) z
drawn beam (Svec scale dx dy z) = line beam (moved beam (Svec scale dx dy z)) z
drawn beam _ = []
