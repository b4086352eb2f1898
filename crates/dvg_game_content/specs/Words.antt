-- Whether a program may put a word, and offer a table, as tests that can be computed.
use Rattle.std.specs.Prelude.{ℕ, zero, suc, ◌+◌, ◌-◌, ◌*◌, ◌/◌, ◌%◌, ◌&&◌, ◌||◌, Bool, true, false, not, nat_eq}
use Rattle.std.specs.Prelude.{nat_le, nat_lt, List, [], ◌∷◌, length, ℤ, pos, negsuc, unsigned_abs}
use Rattle.dvg_code.specs.declared.instr.Instr.{Instr}
use Rattle.dvg_code.specs.declared.instr.Instr.TheVariants.{Vctr, Labs, Svec}
use Rattle.dvg_mem.specs.declared.half.Half.TheVariants.{H0}
use Rattle.dvg_frame.specs.declared.op.OpKind.{OpKind}
use Rattle.dvg_frame.specs.declared.op.OpKind.TheVariants.{Draw, CallRom, JumpRom, Call, Jump}
use Rattle.dvg_frame.specs.declared.draft.TheConstants.{MAX_OPS}
use Rattle.dvg_frame.specs.Layout.{at}
use Rattle.dvg_calls_6502.specs.Build.{calls_one}
use Rattle.dvg_calls_6502.specs.Tables.{table_of}
use Rattle.dvg_game_rules.specs.Checker.{stand_at}
use Rattle.dvg_game_rules.specs.Machine.{word_at}
use Rattle.dvg_game_content.specs.Frames.{passes}
pub use Rattle.dvg_game_words.specs.Tables.{is_plain, is_short, shape_of}

-- the bytes of a call of a shape that the check accepts
abbrev pub calls_shape : List ℕ → ℕ → ℕ → Bool
calls_shape R a x = (nat_le 0xC0 x && nat_lt x 0xD0) && passes (calls_one (shape_of a x)) R

-- a number of a sign and two bits
abbrev pub number : ℕ → ℕ → ℤ
number zero n = pos n
number (suc sign) zero = pos 0
number (suc sign) (suc n) = negsuc n

-- the short vector of these bytes
abbrev pub short_of : ℕ → ℕ → Instr
short_of a x = Svec (2 + 2 * (a / 8 % 2) + x / 8 % 2) (number (a / 4 % 2) (a % 4)) (number (x / 4 % 2) (x % 4)) (a / 16)

abbrev pub may_put : List ℕ → ℕ → ℕ → Bool
may_put R a x = is_short a x || calls_shape R a x

-- a vector or a LABS in range
abbrev pub draws : Instr → Bool
draws (Vctr scale dx dy z) =
    nat_le scale 9 && (nat_le (unsigned_abs dx) 1023 && (nat_le (unsigned_abs dy) 1023 && nat_le z 15))
draws (Labs x y scale) = nat_le x 4095 && (nat_le y 4095 && nat_le scale 15)
draws (Svec scale dx dy z) = nat_le 2 scale && (nat_le scale 5
    && (nat_le (unsigned_abs dx) 3 && (nat_le (unsigned_abs dy) 3 && nat_le z 15)))
draws instr = false

-- an operation that a draft may hold, and that a table can express
abbrev pub may_hold : List OpKind → OpKind → Bool
may_hold F (Draw instr) = draws instr
may_hold F (CallRom a) = nat_le 0x400 a && nat_le a 0xFFF
may_hold F (JumpRom a) = nat_le 0x400 a && nat_le a 0xFFF
may_hold F (Call j) = nat_le (at H0 F j) 0x1FF
may_hold F (Jump j) = nat_le (at H0 F j) 0x1FF
may_hold F op = true

abbrev pub hold : (F ops : List OpKind) → Bool
hold F [] = true
hold F (op ∷ ops) = may_hold F op && hold F ops

-- a draft that the check accepts, and its table
abbrev pub may_lay : List OpKind → List ℕ → Bool
may_lay F R = (nat_le (length F) MAX_OPS && hold F F) && passes F R

-- at this address of the ROM
abbrev pub has_table : (rom : ℕ → ℕ) → ℕ → List ℕ → Bool
has_table rom t bytes = (nat_le 0x4800 t && nat_le (t + 2 + length bytes) 0x8000)
    && ((nat_le 1 (length bytes) && nat_le (length bytes) 1022)
    && (nat_eq (2 * word_at rom t) (length bytes) && stand_at bytes rom (t + 2)))

abbrev pub may_offer : List ℕ → (rom : ℕ → ℕ) → (drafts : ℕ → List OpKind) → ℕ → Bool
may_offer R rom drafts t = has_table rom t (table_of (drafts t)) && may_lay (drafts t) R
