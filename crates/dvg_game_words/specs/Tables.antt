-- Tables of drafts, and words that may be put.
use Rattle.std.specs.Prelude.{ℕ, ◌+◌, ◌*◌, ◌-◌, ◌/◌, ◌%◌, ◌≤◌, ◌&&◌, ◌||◌, Bool, not, nat_eq, nat_le, nat_lt, List, [], ◌∷◌}
use Rattle.dvg_code.specs.declared.instr.Instr.TheVariants.{Labs}
use Rattle.dvg_mem.specs.declared.half.Half.TheVariants.{H0}
use Rattle.dvg_frame.specs.declared.op.OpKind.{OpKind}
use Rattle.dvg_frame.specs.declared.op.OpKind.TheVariants.{Draw, CallRom, JumpRom, Halt as Stop}
use Rattle.dvg_frame.specs.Bytes.{bytes}
use Rattle.dvg_frame.specs.Layout.{laid}

-- a draft's table: the bytes of its words in half 0
abbrev pub table_of : List OpKind → List ℕ
table_of F = bytes (laid H0 F)

-- what it names of the ROM stands from 400 on
abbrev pub NamesRom : OpKind → Type 0
NamesRom (CallRom a) = 0x400 ≤ a
NamesRom (JumpRom a) = 0x400 ≤ a
NamesRom op = Unit {0}

-- a frame that calls one shape of the ROM
abbrev pub calls_one : ℕ → List OpKind
calls_one a = Draw (Labs 0 0 0) ∷ CallRom a ∷ Stop ∷ []

-- a call of a shape of this address is the word of these bytes
abbrev pub shape_of : ℕ → ℕ → ℕ
shape_of a x = a + 256 * (x - 0xC0)

-- a zero has no sign
abbrev pub is_plain : ℕ → ℕ → Bool
is_plain sign n = nat_eq sign 0 || not (nat_eq n 0)

-- the bytes of a short vector in its canonical spelling
abbrev pub is_short : ℕ → ℕ → Bool
is_short a x = (nat_le 0xF0 x && nat_lt x 0x100) && (is_plain (a / 4 % 2) (a % 4) && is_plain (x / 4 % 2) (x % 4))
