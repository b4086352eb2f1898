-- A vector by its moves, as dvg_vector puts it.
use Rattle.std.specs.Prelude.{◌≡◌, ℕ, ◌+◌, ◌-◌, ◌*◌, ◌/◌, ◌%◌, ◌≤◌, ◌&&◌, Bool, true, nat_eq, nat_le, if◌then◌else◌, List}
use Rattle.std.specs.Prelude.{[], ◌∷◌, ℤ, pos, negsuc, unsigned_abs}
use Rattle.dvg_code.specs.declared.instr.Instr.{Instr}
use Rattle.dvg_code.specs.declared.instr.Instr.TheVariants.{Vctr, Svec}
use Rattle.dvg_code.specs.Ranges.{InRange}
use Rattle.dvg_frame.specs.declared.op.OpKind.TheVariants.{Draw}
use Rattle.dvg_gen.specs.declared.beam.Beam.{Beam}
use Rattle.dvg_gen.specs.Drawing.{moved, drawn}
use Rattle.dvg_calls_6502.specs.Tables.{table_of}

-- a number of two bytes, in two's complement
abbrev pub number : (low high : ℕ) → ℤ
number low high = let word = low + 256 * high in if nat_le 128 high then negsuc (65535 - word) else pos word

-- there is a vector of this scale and these moves
abbrev pub is_vector : (scale : ℕ) (dx dy : ℤ) → Bool
is_vector scale dx dy = nat_le scale 9 && (nat_le (unsigned_abs dx) 1023 && nat_le (unsigned_abs dy) 1023)

-- a short one goes by 0, 256, 512 or 768, and its scale is 2 to 5
abbrev pub is_short : (scale : ℕ) (dx dy : ℤ) → Bool
is_short scale dx dy = (nat_eq (unsigned_abs dy % 256) 0 && nat_eq (unsigned_abs dx % 256) 0)
    && (nat_le 2 scale && nat_le scale 5)

-- such a move, in 256s
abbrev pub in_256s : ℤ → ℤ
in_256s (pos n) = pos (n / 256)
in_256s (negsuc n) = negsuc (n / 256)

-- the vector, as a short one where that holds it
abbrev pub vector : (scale : ℕ) (dx dy : ℤ) (z : ℕ) → Instr
vector scale dx dy z = if is_short scale dx dy then Svec scale (in_256s dx) (in_256s dy) z else Vctr scale dx dy z

-- the bytes of its words, if there is such a vector
abbrev pub vector_bytes : (scale : ℕ) (dx dy : ℤ) (z : ℕ) → List ℕ
vector_bytes scale dx dy z = if is_vector scale dx dy then table_of (Draw (vector scale dx dy z) ∷ []) else []

-- it is in range, and as the long one it moves the beam and draws
abbrev pub VectorDraws : Type 0
VectorDraws = (scale : ℕ) (dx dy : ℤ) (z : ℕ) → is_vector scale dx dy ≡ true → z ≤ 15
    → InRange (vector scale dx dy z) × ((beam : Beam) → (moved beam (vector scale dx dy z) ≡ moved beam (Vctr scale dx dy z))
    × (drawn beam (vector scale dx dy z) ≡ drawn beam (Vctr scale dx dy z)))

-- examples: 100 to the right and 100 down at scale 9, as two words; 256 to the right and 512 down at scale 4, as one; and
-- there is no vector by 1024
abbrev pub SomeVectors : Type 0
SomeVectors = (vector_bytes 9 (number 0x64 0x00) (number 0x9C 0xFF) 7 ≡ 0x64 ∷ 0x94 ∷ 0x64 ∷ 0x70 ∷ [])
    × (vector_bytes 4 (number 0x00 0x01) (number 0x00 0xFE) 7 ≡ 0x79 ∷ 0xF6 ∷ [])
    × (vector_bytes 9 (number 0x00 0x04) (number 0x00 0x00) 7 ≡ [])
