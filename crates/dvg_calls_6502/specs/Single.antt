-- Instructions that access one byte at most, beside their own and those that name it.
use Rattle.std.specs.Prelude.{Bool, true, false}
use Rattle.dvg_calls_6502.specs.Processor.{Mode, ZeroPage, ZeroPageX, ZeroPageY, Instr, Change, ShiftAt, JumpAt}

abbrev pub is_low : Mode → Bool
is_low ZeroPage = true
is_low ZeroPageX = true
is_low ZeroPageY = true
is_low mode = false

-- one access at most, or all in the zero page and the stack: no INC, DEC or shift of an absolute address, and no
-- indirect jump. The driver has none of these
abbrev pub is_single : Instr → Bool
is_single (Change mode by) = is_low mode
is_single (ShiftAt shift mode) = is_low mode
is_single JumpAt = false
is_single instr = true
