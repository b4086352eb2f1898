-- What is written for the bytes of a table.
use Rattle.std.specs.Prelude.{ℕ, Bool, true, false, not, nat_eq, nat_le, if◌then◌else◌, List, [], ◌∷◌, bit_and, bit_or}

-- for a first word's high byte: where it calls or jumps within the frame, with bit 1 as the free half has it
abbrev pub moved_byte : ℕ → ℕ → ℕ
moved_byte free byte = if nat_eq (bit_and byte 0xDC) 0xC0 then bit_or (bit_and free 2) byte else byte

-- for any byte: whether it is a high one, and whether its word is the second one of an instruction
abbrev pub put_for : ℕ → (odd second : Bool) → ℕ → ℕ
put_for free true false byte = moved_byte free byte
put_for free odd second byte = byte

-- whether the next word is a second one, after this byte: opcodes 0 to A have one
abbrev pub second_then : (odd second : Bool) → ℕ → Bool
second_then false second byte = second
second_then true true byte = false
second_then true false byte = not (nat_le 0xB0 byte)

-- the driver's byte for that
abbrev pub second_byte : Bool → ℕ
second_byte true = 0x80
second_byte false = 0

-- what is written for these bytes of a table
abbrev pub fed : ℕ → (odd second : Bool) → List ℕ → List ℕ
fed free odd second [] = []
fed free odd second (byte ∷ rest) = put_for free odd second byte ∷ fed free (not odd) (second_then odd second byte) rest
